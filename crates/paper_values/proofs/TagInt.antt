-- Tag 33: an integer token at a type named Int is refused for its range exactly when no Int holds its number; else its field's four bytes hold that number.
-- Assumes nothing.
use mathlib.Core.Path.{◌≡◌, refl, sym, ap, ◌∙◌}
use mathlib.Core.Bool.{Bool, true, false, cond}
use mathlib.Core.Option.{Option, none, some}
use mathlib.Core.List.{List, ◌∷◌}
use mathlib.Core.Logic.{◌↔◌}
use Prim.Native.Nat.{ℕ}
use native.Mathlib.Omega.{arith}
use Rattle.paper_table.specs.References.{named}
use Rattle.paper_values.specs.ValueNumbers.{reason_range}
use Rattle.paper_values.specs.Written.{four_bytes}
use Rattle.paper_values.specs.NumberTokens.{int_of}
use Rattle.paper_values.specs.Signed.{number_written, number_held, is_int}
use Rattle.paper_values.specs.Values.{Name, At, integer, Tree, Bits, Got, No}
use Rattle.paper_values.specs.Kinds.{Kind, Int}
use Rattle.paper_values.specs.Coercion.{in_range, integer_at}
use Rattle.paper_values.specs.Computed.{coerce}
use Rattle.paper_values.specs.Encoding.{encode}
use Rattle.paper_values.proofs.IntExact.{int_number, int_outside, int_refused}

module _ (kinds : Name → Kind) (vars : Name → Option Tree) where
  at_int : (i : At) (s : List ℕ) (n : Name) → kinds n ≡ Int → coerce kinds vars (integer i s) (named n) ≡ in_range i Bits (int_of s)
  unfolding coerce
  at_int i s n k = ap (integer_at i s) k

  pub bits_in : (i : At) (x : ℕ) (o : Option ℕ) → in_range i Bits o ≡ Got (Bits x) → o ≡ some x
  bits_in i x none q = let z : ◌≡◌ {A = ℕ} 0 1 = cc in absurd (omega (arith, z))
  bits_in i x (some y) q = cc

  none_in : (i : At) (o : Option ℕ) → in_range i Bits o ≡ No i reason_range → o ≡ none
  none_in i none q = refl
  none_in i (some y) q = let z : ◌≡◌ {A = ℕ} 0 1 = cc in absurd (omega (arith, z))

  -- a token that is not empty: its first byte, and the others
  pub tag_int_exact : (i : At) (b : ℕ) (bs : List ℕ) (n : Name) (x : ℕ) → kinds n ≡ Int → coerce kinds vars (integer i (b ∷ bs)) (named n) ≡ Got (Bits x) →
      (encode (Bits x) ≡ 33 ∷ 0 ∷ 4 ∷ four_bytes x) × (number_held x ≡ number_written (b ∷ bs))
  unfolding encode
  tag_int_exact i b bs n x k q = (refl, (int_number b bs x (bits_in i x (int_of (b ∷ bs)) (sym (at_int i (b ∷ bs) n k) ∙ q))).1)

  pub int_refused_exactly : (i : At) (b : ℕ) (bs : List ℕ) (n : Name) → kinds n ≡ Int →
      (coerce kinds vars (integer i (b ∷ bs)) (named n) ≡ No i reason_range) ↔ (is_int (number_written (b ∷ bs)) ≡ false)
  int_refused_exactly i b bs n k = (
    λ q. int_outside b bs (none_in i (int_of (b ∷ bs)) (sym (at_int i (b ∷ bs) n k) ∙ q)),
    λ h. at_int i (b ∷ bs) n k ∙ ap (in_range i Bits) (int_refused b bs h),
  )

  -- within the range it has bits
  either_way : (i : At) (o : Option ℕ) (w : Bool) → (o ≡ none → w ≡ false) → (w ≡ true) → (x : ℕ) × (in_range i Bits o ≡ Got (Bits x))
  either_way i none w h q = let z : ◌≡◌ {A = ℕ} 0 1 = ap (λ (y : Bool). cond y 0 1) (sym q ∙ h refl) in absurd (omega (arith, z))
  either_way i (some x) w h q = (x, refl)

  pub int_held : (i : At) (b : ℕ) (bs : List ℕ) (n : Name) → kinds n ≡ Int → is_int (number_written (b ∷ bs)) ≡ true →
      (x : ℕ) × (coerce kinds vars (integer i (b ∷ bs)) (named n) ≡ Got (Bits x)) × (encode (Bits x) ≡ 33 ∷ 0 ∷ 4 ∷ four_bytes x) × (number_held x ≡ number_written (b ∷ bs))
  int_held i b bs n k h =
      let e = either_way i (int_of (b ∷ bs)) (is_int (number_written (b ∷ bs))) (int_outside b bs) h in
      let q = at_int i (b ∷ bs) n k ∙ e.1 in
      let f = tag_int_exact i b bs n e.0 k q in
      (e.0, q, f.0, f.1)
