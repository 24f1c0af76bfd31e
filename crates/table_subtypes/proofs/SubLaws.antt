-- The sub-type test on wrappers, one law for each way that it ends or goes on.
use mathlib.Core.Path.{◌≡◌, refl, sym, ap, ◌∙◌}
use mathlib.Core.Bool.{Bool, true, false, ◌&&◌, ◌||◌}
use Prim.Native.Nat.{ℕ, ◌%◌, ◌/◌}
use native.Mathlib.Omega.{arith}
use lib.Dec.{eqb}
use borrow.Author.Tests.{eq-eqb, eqb-true}
use Rattle.paper.proofs.Bools.{and_left, and_right}
use Rattle.paper.specs.Tokens.{same}
use Rattle.paper_table.specs.References.{Ref, named, list_of, non_null, base_of, same_ref}
use Rattle.paper_table.specs.SubTypes.{sub_test}
use Rattle.table_fields.specs.Wrappers.{pack_of}
use Rattle.table_fields.proofs.PackLaws.{same_ref_is, same_pack, same_base}
use Rattle.table_subtypes.specs.SubAnswers.{SubAnswer}

-- equal wrappers and the same base: a reference is a sub-type of itself
refl_test : (can : Bool) (r s : Ref) → pack_of r ≡ pack_of s → same (base_of r) (base_of s) ≡ true → true ≡ sub_test (λ a b. can) r s
unfolding pack_of sub_test
refl_test can (named a) (named b) e h = rw h
refl_test can (named a) (list_of s) e h = absurd (omega arith)
refl_test can (named a) (non_null s) e h = absurd (omega arith)
refl_test can (list_of r) (named b) e h = absurd (omega arith)
refl_test can (list_of r) (list_of s) e h = refl_test can r s (omega arith) h
refl_test can (list_of r) (non_null s) e h = absurd (omega arith)
refl_test can (non_null r) (named b) e h = absurd (omega arith)
refl_test can (non_null r) (list_of s) e h = absurd (omega arith)
refl_test can (non_null r) (non_null s) e h = rw (same_ref_is r s (omega arith) h)

pub sub_equal : (alike can : Bool) (o i : ℕ) → alike && eqb o i ≡ true → SubAnswer alike can o i true
sub_equal alike can o i q r s e g h = refl_test can r s (e ∙ eqb-true o i (and_right alike (eqb o i) q) ∙ sym g) (h ∙ and_left alike (eqb o i) q)

pub sub_named : (alike can : Bool) (o i : ℕ) → alike && eqb o i ≡ false → o ≡ 0 → i ≡ 0 → (r s : Ref) → pack_of r ≡ o → pack_of s ≡ i → same (base_of r) (base_of s) ≡ alike → can ≡ sub_test (λ a b. can) r s
unfolding pack_of sub_test
sub_named alike can o i q a b (named x) (named y) e g h = rw h (go alike q)
  where
    go : (z : Bool) → z && eqb o i ≡ false → can ≡ z || can
    go true w = let v : true ≡ false = sym (eq-eqb o i (a ∙ sym b)) ∙ w in cc
    go false w = refl
sub_named alike can o i q a b (named x) (list_of s) e g h = absurd (omega arith)
sub_named alike can o i q a b (named x) (non_null s) e g h = absurd (omega arith)
sub_named alike can o i q a b (list_of r) s e g h = absurd (omega arith)
sub_named alike can o i q a b (non_null r) s e g h = absurd (omega arith)

pub sub_named_no : (alike can : Bool) (o i : ℕ) → o ≡ 0 → (i ≡ 0 → ⊥) → (r s : Ref) → pack_of r ≡ o → pack_of s ≡ i → same (base_of r) (base_of s) ≡ alike → false ≡ sub_test (λ a b. can) r s
unfolding pack_of sub_test
sub_named_no alike can o i a b (named x) (named y) e g h = absurd (b (sym g))
sub_named_no alike can o i a b (named x) (list_of s) e g h = refl
sub_named_no alike can o i a b (named x) (non_null s) e g h = refl
sub_named_no alike can o i a b (list_of r) s e g h = absurd (omega arith)
sub_named_no alike can o i a b (non_null r) s e g h = absurd (omega arith)

pub sub_non_null : (alike can : Bool) (o i : ℕ) (q : Bool) → alike && eqb o i ≡ false → o % 4 ≡ 2 → SubAnswer alike can (o / 4) i q
    → (r s : Ref) → pack_of r ≡ o → pack_of s ≡ i → same (base_of r) (base_of s) ≡ alike → q ≡ sub_test (λ a b. can) r s
unfolding pack_of sub_test
sub_non_null alike can o i q d a f (named x) s e g h = absurd (omega arith)
sub_non_null alike can o i q d a f (list_of r) s e g h = absurd (omega arith)
sub_non_null alike can o i q d a f (non_null r) (named y) e g h = f r (named y) (omega arith) g h
sub_non_null alike can o i q d a f (non_null r) (list_of s) e g h = f r (list_of s) (omega arith) g h
sub_non_null alike can o i q d a f (non_null r) (non_null s) e g h = go (same_ref r s) refl
  where
    go : (z : Bool) → same_ref r s ≡ z → q ≡ same_ref r s || (sub_test (λ a b. can) r (non_null s))
    go true w =
        let u : alike ≡ true = sym h ∙ same_base r s w in
        let p : pack_of r ≡ pack_of s = same_pack r s w in
        let v : o ≡ i = omega arith in
        let z : true ≡ false = sym (ap (λ (b : Bool). b && eqb o i) u ∙ eq-eqb o i v) ∙ d in
        cc
    go false w = rw w (f r (non_null s) (omega arith) g h)

pub sub_list : (alike can : Bool) (o i : ℕ) (q : Bool) → (o ≡ 0 → ⊥) → (o % 4 ≡ 2 → ⊥) → i % 4 ≡ 1 → SubAnswer alike can (o / 4) (i / 4) q
    → (r s : Ref) → pack_of r ≡ o → pack_of s ≡ i → same (base_of r) (base_of s) ≡ alike → q ≡ sub_test (λ a b. can) r s
unfolding pack_of sub_test
sub_list alike can o i q a b d f (named x) s e g h = absurd (omega arith)
sub_list alike can o i q a b d f (list_of r) (named y) e g h = absurd (omega arith)
sub_list alike can o i q a b d f (list_of r) (list_of s) e g h = f r s (omega arith) (omega arith) h
sub_list alike can o i q a b d f (list_of r) (non_null s) e g h = absurd (omega arith)
sub_list alike can o i q a b d f (non_null r) s e g h = absurd (omega arith)

pub sub_none : (alike can : Bool) (o i : ℕ) → (o ≡ 0 → ⊥) → (o % 4 ≡ 2 → ⊥) → (i % 4 ≡ 1 → ⊥)
    → (r s : Ref) → pack_of r ≡ o → pack_of s ≡ i → same (base_of r) (base_of s) ≡ alike → false ≡ sub_test (λ a b. can) r s
unfolding pack_of sub_test
sub_none alike can o i a b d (named x) s e g h = absurd (omega arith)
sub_none alike can o i a b d (list_of r) (named y) e g h = refl
sub_none alike can o i a b d (list_of r) (list_of s) e g h = absurd (omega arith)
sub_none alike can o i a b d (list_of r) (non_null s) e g h = refl
sub_none alike can o i a b d (non_null r) s e g h = absurd (omega arith)
