-- `sub_test` decides `SubType`; what 01 says of `B!` and `A!`; which names the test asks for.
use mathlib.Core.Path.{◌≡◌, refl, ap, subst}
use mathlib.Core.Bool.{Bool, true, false, ◌||◌, false≢true}
use mathlib.Core.List.{List}
use Prim.Native.Nat.{ℕ}
use Rattle.paper.proofs.Bools.{or_true_right as or_right}
use Rattle.paper.specs.Tokens.{same}
use Rattle.paper_table.specs.References.{Ref, named, list_of, non_null, base_of, same_ref}
use Rattle.paper_table.specs.SubTypes.{SubType, equal, object_of, by_list_of, by_non_null, sub_test}
use Rattle.paper_table.proofs.TextLaws.{same_sound, same_refl, same_ref_sound, same_ref_refl}

module _ (can : List ℕ → List ℕ → Bool) where
  test_refl : (r : Ref) → sub_test can r r ≡ true
  unfolding sub_test
  test_refl (named a) = rw (same_refl a)
  test_refl (list_of r) = test_refl r
  test_refl (non_null r) = rw (same_ref_refl r)

  pub sub_test_complete : {r s : Ref} → SubType can r s → sub_test can r s ≡ true
  unfolding sub_test
  sub_test_complete (equal {r = r}) = test_refl r
  sub_test_complete (object_of {o = o} {a = a} e) = or_right (same o a) (can a o) e
  sub_test_complete (by_list_of d) = sub_test_complete d
  sub_test_complete (by_non_null {r = r} {s = s} d) = go s (sub_test_complete d)
    where
      go : (s : Ref) → sub_test can r s ≡ true → sub_test can (non_null r) s ≡ true
      go (named a) e = e
      go (list_of s) e = e
      go (non_null s) e = or_right (same_ref r s) (sub_test can r (non_null s)) e

  pub sub_test_sound : (r s : Ref) → sub_test can r s ≡ true → SubType can r s
  unfolding sub_test
  sub_test_sound (named o) (named a) e = go (same o a) refl e
    where
      go : (b : Bool) → same o a ≡ b → b || can a o ≡ true → SubType can (named o) (named a)
      go true q f = subst (λ (x : List ℕ). SubType can (named o) (named x)) (same_sound o a q) equal
      go false q f = object_of f
  sub_test_sound (named o) (list_of s) e = absurd (false≢true e)
  sub_test_sound (named o) (non_null s) e = absurd (false≢true e)
  sub_test_sound (list_of r) (named a) e = absurd (false≢true e)
  sub_test_sound (list_of r) (list_of s) e = by_list_of (sub_test_sound r s e)
  sub_test_sound (list_of r) (non_null s) e = absurd (false≢true e)
  sub_test_sound (non_null r) (named a) e = by_non_null (sub_test_sound r (named a) e)
  sub_test_sound (non_null r) (list_of s) e = by_non_null (sub_test_sound r (list_of s) e)
  sub_test_sound (non_null r) (non_null s) e = go (same_ref r s) refl e (λ f. sub_test_sound r (non_null s) f)
    where
      go : (b : Bool) → same_ref r s ≡ b → b || sub_test can r (non_null s) ≡ true → (sub_test can r (non_null s) ≡ true → SubType can r (non_null s)) → SubType can (non_null r) (non_null s)
      go true q f h = subst (λ (x : Ref). SubType can (non_null r) (non_null x)) (same_ref_sound r s q) equal
      go false q f h = by_non_null (h f)

  -- "So `B!` is no sub-type of `A!` unless equal."
  pub sub_type_non_null_is : (a b : List ℕ) → SubType can (non_null (named b)) (non_null (named a)) → b ≡ a
  unfolding sub_test same_ref
  sub_type_non_null_is a b d = go (same b a) refl (sub_test_complete d)
    where
      go : (c : Bool) → same b a ≡ c → c || false ≡ true → b ≡ a
      go true q e = same_sound b a q
      go false q e = absurd (false≢true e)

-- the test asks `can` for the two base names alone
pub sub_test_bases : (can : List ℕ → List ℕ → Bool) (r s : Ref) → sub_test can r s ≡ sub_test (λ a b. can (base_of s) (base_of r)) r s
unfolding sub_test
sub_test_bases can (named o) (named a) = refl
sub_test_bases can (named o) (list_of s) = refl
sub_test_bases can (named o) (non_null s) = refl
sub_test_bases can (list_of r) (named a) = refl
sub_test_bases can (list_of r) (list_of s) = sub_test_bases can r s
sub_test_bases can (list_of r) (non_null s) = refl
sub_test_bases can (non_null r) (named a) = sub_test_bases can r (named a)
sub_test_bases can (non_null r) (list_of s) = sub_test_bases can r (list_of s)
sub_test_bases can (non_null r) (non_null s) = ap (λ (b : Bool). same_ref r s || b) (sub_test_bases can r (non_null s))
