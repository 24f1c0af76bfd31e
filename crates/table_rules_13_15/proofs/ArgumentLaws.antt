-- One argument and the other field's of its name: what rules 13 to 15 say of it.
use mathlib.Core.Path.{◌≡◌, refl, sym, ap, ◌∙◌}
use mathlib.Core.Bool.{Bool, true, false, not, ◌&&◌}
use mathlib.Core.Option.{none, some}
use mathlib.Core.List.{List}
use Prim.Native.Nat.{ℕ}
use lib.Dec.{eqb}
use borrow.Author.Tests.{eq-eqb, ne_eqb}
use Rattle.paper.specs.Tokens.{same}
use Rattle.paper_table.specs.TableNumbers.{rule_argument_missing, rule_argument_type, rule_argument_extra}
use Rattle.paper_table.specs.Types.{Argument}
use Rattle.table_fields.specs.Wrappers.{is_marked}
use Rattle.table_book.specs.Book.{part}
use Rattle.table_members.specs.Members.{Typed}
use Rattle.table_members.proofs.TypeLaws.{typed_non_null, typed_same}
use Rattle.table_types.specs.Sizes.{slim_argument}
use Rattle.table_rules_13_15.specs.Asked.{failing}
use Rattle.table_types.proofs.SlimLaws.{slim_argument_is}

module _ (rule : ℕ) (x : Argument) where
  pub alone_missing : rule ≡ rule_argument_missing → true ≡ failing rule x none
  alone_missing e = rw (eq-eqb rule rule_argument_missing e)

  pub alone_other : (rule ≡ rule_argument_missing → ⊥) → (rule ≡ rule_argument_extra → ⊥) → false ≡ failing rule x none
  alone_other e f = rw (ne_eqb rule rule_argument_missing e, ne_eqb rule rule_argument_extra f)

  pub alone_extra : (t : List ℕ) (at n o : ℕ) → (rule ≡ rule_argument_missing → ⊥) → rule ≡ rule_argument_extra → Typed t at n o x.type → is_marked o ≡ failing rule x none
  alone_extra t at n o e f p = rw (ne_eqb rule rule_argument_missing e, eq-eqb rule rule_argument_extra f) (sym (typed_non_null p))

  module _ (y : Argument) where
    pub beside_other : (rule ≡ rule_argument_type → ⊥) → false ≡ failing rule x (some y)
    beside_other e = rw (ne_eqb rule rule_argument_type e)

    module _ (t : List ℕ) (at n o at' n' i : ℕ) (e : rule ≡ rule_argument_type) (p : Typed t at n o x.type) (q : Typed t at' n' i y.type) (h : slim_argument x ≡ true) (k : slim_argument y ≡ true) where
      differ : failing rule x (some y) ≡ not (same (part t at' n') (part t at n) && eqb i o)
      differ = rw (eq-eqb rule rule_argument_type e) (ap not (typed_same t at' n' i at n o y.type x.type q p (slim_argument_is y k) (slim_argument_is x h)))

      pub beside_wrappers : (i ≡ o → ⊥) → true ≡ failing rule x (some y)
      beside_wrappers z = sym (differ ∙ rw (ne_eqb i o z) (go (same (part t at' n') (part t at n))))
        where
          go : (b : Bool) → not (b && false) ≡ true
          go true = refl
          go false = refl

      pub beside_names : i ≡ o → {b : Bool} → b ≡ same (part t at' n') (part t at n) → not b ≡ failing rule x (some y)
      beside_names z {b = b} u = sym (differ ∙ rw (eq-eqb i o z, ← u) (go b))
        where
          go : (b : Bool) → not (b && true) ≡ not b
          go true = refl
          go false = refl
