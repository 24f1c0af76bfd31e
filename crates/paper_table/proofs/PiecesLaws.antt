-- The house fields in some bytes, one after the other: how they are split off, and where they lie.
use mathlib.Core.Path.{◌≡◌, refl, sym, ap, subst, ◌∙◌}
use mathlib.Core.Bool.{Bool, true, false}
use mathlib.Core.List.{List, [], ◌∷◌}
use Prim.Native.Nat.{ℕ, zero, suc, ◌+◌, ◌*◌, ◌≤◌, ◌<◌}
use native.Mathlib.Omega.{arith}
use lib.ListN.{length, take, drop, length-drop}
use lib.Seq.{length-take-le}
use lib.Dec.{leb}
use borrow.Author.Tests.{le-leb, lt-leb, leb-true}
use Rattle.paper_table.specs.House.{HouseField, house_field, cut, house_fields_from, house_fields}

-- by whether the length fits
split : ℕ → ℕ → ℕ → ℕ → List ℕ → Bool → List HouseField
split f at tag n s b = elim b [ true ↦ house_field at tag (take n s) ∷ house_fields_from f (at + 3 + n) (drop n s) | false ↦ cut at ∷ [] ]

-- a bound of the bytes' length is enough
fuel : (f g at : ℕ) (s : List ℕ) → length s ≤ f → length s ≤ g → house_fields_from f at s ≡ house_fields_from g at s
unfolding house_fields_from split
fuel zero zero at s h k = refl
fuel zero (suc g) at [] h k = refl
fuel zero (suc g) at (b ∷ s) h k = absurd (omega arith)
fuel (suc f) zero at [] h k = refl
fuel (suc f) zero at (b ∷ s) h k = absurd (omega arith)
fuel (suc f) (suc g) at [] h k = refl
fuel (suc f) (suc g) at (tag ∷ []) h k = refl
fuel (suc f) (suc g) at (tag ∷ high ∷ []) h k = refl
fuel (suc f) (suc g) at (tag ∷ high ∷ low ∷ s) h k =
    go (leb (256 * high + low) (length s)) (fuel f g (at + 3 + (256 * high + low)) (drop (256 * high + low) s) (omega (arith, length-drop (256 * high + low) s)) (omega (arith, length-drop (256 * high + low) s)))
  where
    go : (b : Bool) → house_fields_from f (at + 3 + (256 * high + low)) (drop (256 * high + low) s) ≡ house_fields_from g (at + 3 + (256 * high + low)) (drop (256 * high + low) s)
        → split f at tag (256 * high + low) s b ≡ split g at tag (256 * high + low) s b
    go true e = ap (λ (ps : List HouseField). house_field at tag (take (256 * high + low) s) ∷ ps) e
    go false e = refl

pub pieces_fuel : (f at : ℕ) (s : List ℕ) → length s ≤ f → house_fields_from f at s ≡ house_fields at s
pieces_fuel f at s h = fuel f (length s) at s h (omega arith)

-- no byte; fewer than three; a length that goes too far; a whole field
pub pieces_nil : (at : ℕ) → house_fields at [] ≡ []
unfolding house_fields_from
pieces_nil at = refl

pub pieces_one : (at tag : ℕ) → house_fields at (tag ∷ []) ≡ cut at ∷ []
unfolding house_fields_from
pieces_one at tag = refl

pub pieces_two : (at tag high : ℕ) → house_fields at (tag ∷ high ∷ []) ≡ cut at ∷ []
unfolding house_fields_from
pieces_two at tag high = refl

pub pieces_cut : (at tag high low : ℕ) (s : List ℕ) → length s < 256 * high + low → house_fields at (tag ∷ high ∷ low ∷ s) ≡ cut at ∷ []
unfolding house_fields_from split
pieces_cut at tag high low s h = ap (split (suc (suc (length s))) at tag (256 * high + low) s) (lt-leb (256 * high + low) (length s) h)

pub pieces_field : (at tag high low n : ℕ) (s : List ℕ) → 256 * high + low ≡ n → n ≤ length s
    → house_fields at (tag ∷ high ∷ low ∷ s) ≡ house_field at tag (take n s) ∷ house_fields (at + 3 + n) (drop n s)
unfolding house_fields_from split
pieces_field at tag high low n s e h =
    ap (λ (m : ℕ). split (suc (suc (length s))) at tag m s (leb m (length s))) e
    ∙ ap (split (suc (suc (length s))) at tag n s) (le-leb n (length s) h)
    ∙ ap (λ (ps : List HouseField). house_field at tag (take n s) ∷ ps) (pieces_fuel (suc (suc (length s))) (at + 3 + n) (drop n s) (omega (arith, length-drop n s)))

-- fields that stand one after the other from lo on, and not past hi
pub data Laid : ℕ → List HouseField → ℕ → Type 0 where
  nil : {lo hi : ℕ} → lo ≤ hi → Laid lo [] hi
  torn : {lo hi : ℕ} → lo ≤ hi → Laid lo (cut lo ∷ []) hi
  next : {lo hi t : ℕ} {s : List ℕ} {ps : List HouseField} → Laid (lo + 3 + length s) ps hi → Laid lo (house_field lo t s ∷ ps) hi

grow : (a n : ℕ) → a ≤ a + n
grow a n = omega arith

from_laid : (f at : ℕ) (s : List ℕ) → Laid at (house_fields_from f at s) (at + length s)
unfolding house_fields_from split
from_laid zero at s = nil (grow at (length s))
from_laid (suc f) at [] = nil (grow at 0)
from_laid (suc f) at (t ∷ []) = torn (grow at 1)
from_laid (suc f) at (t ∷ h ∷ []) = torn (grow at 2)
from_laid (suc f) at (t ∷ h ∷ l ∷ s) = go (leb (256 * h + l) (length s)) refl (from_laid f (at + 3 + (256 * h + l)) (drop (256 * h + l) s))
  where
    go : (b : Bool) → leb (256 * h + l) (length s) ≡ b
        → Laid (at + 3 + (256 * h + l)) (house_fields_from f (at + 3 + (256 * h + l)) (drop (256 * h + l) s)) (at + 3 + (256 * h + l) + length (drop (256 * h + l) s))
        → Laid at (split f at t (256 * h + l) s b) (at + suc (suc (suc (length s))))
    go true q r =
        let n = 256 * h + l in
        let k : n ≤ length s = leb-true n (length s) q in
        let e : length (take n s) ≡ n = length-take-le n s k in
        let g : at + 3 + n + length (drop n s) ≡ at + suc (suc (suc (length s))) = omega (arith, length-drop n s) in
        let a : Laid (at + 3 + n) (house_fields_from f (at + 3 + n) (drop n s)) (at + suc (suc (suc (length s)))) = subst (λ (x : ℕ). Laid (at + 3 + n) (house_fields_from f (at + 3 + n) (drop n s)) x) g r in
        let b : Laid (at + 3 + length (take n s)) (house_fields_from f (at + 3 + n) (drop n s)) (at + suc (suc (suc (length s)))) =
        subst (λ (x : ℕ). Laid (at + 3 + x) (house_fields_from f (at + 3 + n) (drop n s)) (at + suc (suc (suc (length s))))) (sym e) a in
        next b
    go false q r = torn (grow at (suc (suc (suc (length s)))))

pub pieces_laid : (at : ℕ) (s : List ℕ) → Laid at (house_fields at s) (at + length s)
pieces_laid at s = from_laid (length s) at s

-- there are no more fields than bytes
pub laid_size : {lo hi : ℕ} {ps : List HouseField} → Laid lo ps hi → lo + length ps ≤ hi + 1
laid_size (nil h) = omega arith
laid_size (torn h) = omega arith
laid_size (next r) = let k = laid_size r in omega arith
