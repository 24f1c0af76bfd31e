-- The sub-type test of two references that were read.
use mathlib.Core.Path.{◌≡◌, refl, sym, ap, ◌∙◌}
use mathlib.Core.Bool.{Bool, true, false, ◌||◌}
use mathlib.Core.List.{List}
use Prim.Native.Nat.{ℕ}
use Rattle.paper.specs.Tokens.{same}
use Rattle.paper_table.specs.References.{Ref, named, list_of, non_null, base_of, same_ref}
use Rattle.paper_table.specs.SubTypes.{sub_test}
use Rattle.paper_table.specs.Types.{table_of, can_be}
use Rattle.paper_table.proofs.SubTypesLaws.{sub_test_bases}
use Rattle.table_book.specs.Book.{part}
use Rattle.table_subtypes.specs.SubAnswers.{SubAnswer}
use Rattle.table_members.specs.Members.{Typed}
use Rattle.table_members.proofs.TypeLaws.{typed_packs}
use Rattle.table_types.specs.Booked.{SubTyped}

-- of one name it does not matter what that can be
alike_any : (c d : Bool) (r s : Ref) → same (base_of r) (base_of s) ≡ true → sub_test (λ a b. c) r s ≡ sub_test (λ a b. d) r s
unfolding sub_test
alike_any c d (named o) (named a) e = rw e
alike_any c d (named o) (list_of s) e = refl
alike_any c d (named o) (non_null s) e = refl
alike_any c d (list_of r) (named a) e = refl
alike_any c d (list_of r) (list_of s) e = alike_any c d r s e
alike_any c d (list_of r) (non_null s) e = refl
alike_any c d (non_null r) (named a) e = alike_any c d r (named a) e
alike_any c d (non_null r) (list_of s) e = alike_any c d r (list_of s) e
alike_any c d (non_null r) (non_null s) e = ap (λ (x : Bool). same_ref r s || x) (alike_any c d r (non_null s) e)

module _ (t : List ℕ) (at n o at' n' i : ℕ) {alike : Bool} (e : alike ≡ same (part t at n) (part t at' n')) where
  bases : (r s : Ref) → Typed t at n o r → Typed t at' n' i s → same (base_of r) (base_of s) ≡ alike
  bases r s x y = rw (← x.base, ← y.base) (sym e)

  pub sub_alike : {q : Bool} → alike ≡ true → SubAnswer true false o i q → SubTyped t at n o at' n' i q
  sub_alike h f r s x y k l =
      let u : same (base_of r) (base_of s) ≡ true = bases r s x y ∙ h in
      f r s (sym (typed_packs x k)) (sym (typed_packs y l)) u
      ∙ alike_any false (can_be (table_of t) (base_of s) (base_of r)) r s u ∙ sym (sub_test_bases (can_be (table_of t)) r s)

  pub sub_other : {can q : Bool} → alike ≡ false → can ≡ can_be (table_of t) (part t at' n') (part t at n) → SubAnswer false can o i q → SubTyped t at n o at' n' i q
  sub_other {can = can} h g f r s x y k l =
      let u : same (base_of r) (base_of s) ≡ false = bases r s x y ∙ h in
      let v : can ≡ can_be (table_of t) (base_of s) (base_of r) = g ∙ rw (x.base, y.base) in
      f r s (sym (typed_packs x k)) (sym (typed_packs y l)) u
      ∙ ap (λ (c : Bool). sub_test (λ a b. c) r s) v ∙ sym (sub_test_bases (can_be (table_of t)) r s)
