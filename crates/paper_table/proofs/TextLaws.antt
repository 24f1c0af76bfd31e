-- The tests of equal texts and equal references decide equality.
use mathlib.Core.Path.{◌≡◌, refl, ap}
use mathlib.Core.Bool.{Bool, true, false, ◌&&◌, false≢true}
use mathlib.Core.List.{List, [], ◌∷◌}
use Prim.Native.Nat.{ℕ}
use lib.Dec.{eqb}
use borrow.Author.Tests.{eq-eqb, eqb-true}
use Rattle.paper.specs.Tokens.{same}
use Rattle.paper_table.specs.References.{Ref, named, list_of, non_null, same_ref}

pub same_sound : (xs ys : List ℕ) → same xs ys ≡ true → xs ≡ ys
same_sound [] [] e = refl
same_sound [] (y ∷ ys) e = absurd (false≢true e)
same_sound (x ∷ xs) [] e = absurd (false≢true e)
same_sound (x ∷ xs) (y ∷ ys) e = go (eqb x y) refl e (λ r. same_sound xs ys r)
  where
    go : (b : Bool) → eqb x y ≡ b → b && same xs ys ≡ true → (same xs ys ≡ true → xs ≡ ys) → x ∷ xs ≡ y ∷ ys
    go true q e' f = let u : xs ≡ ys = f e' in let v : x ≡ y = eqb-true x y q in cc
    go false q e' f = absurd (false≢true e')

pub same_refl : (xs : List ℕ) → same xs xs ≡ true
same_refl [] = refl
same_refl (x ∷ xs) = rw (eq-eqb x x refl) (same_refl xs)

pub same_ref_sound : (r s : Ref) → same_ref r s ≡ true → r ≡ s
unfolding same_ref
same_ref_sound (named a) (named b) e = ap named (same_sound a b e)
same_ref_sound (named a) (list_of s) e = absurd (false≢true e)
same_ref_sound (named a) (non_null s) e = absurd (false≢true e)
same_ref_sound (list_of r) (named b) e = absurd (false≢true e)
same_ref_sound (list_of r) (list_of s) e = ap list_of (same_ref_sound r s e)
same_ref_sound (list_of r) (non_null s) e = absurd (false≢true e)
same_ref_sound (non_null r) (named b) e = absurd (false≢true e)
same_ref_sound (non_null r) (list_of s) e = absurd (false≢true e)
same_ref_sound (non_null r) (non_null s) e = ap non_null (same_ref_sound r s e)

pub same_ref_refl : (r : Ref) → same_ref r r ≡ true
unfolding same_ref
same_ref_refl (named a) = same_refl a
same_ref_refl (list_of r) = same_ref_refl r
same_ref_refl (non_null r) = same_ref_refl r
