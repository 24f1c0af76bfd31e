-- The parts of a number, at a place of a text: how far each goes.
use mathlib.Core.Path.{◌≡◌, refl, sym, ◌∙◌}
use mathlib.Core.Bool.{Bool, true, false, cond, ◌&&◌}
use mathlib.Core.List.{List, [], ◌∷◌}
use mathlib.Core.Logic.{◌⊎◌, inl, inr}
use Prim.Native.Nat.{ℕ, suc, ◌+◌, ◌<◌, ◌≤◌}
use native.Mathlib.Decide.{dec_lt}
use native.Mathlib.Omega.{arith}
use borrow.Author.Tests.{leb-true}
use lib.Dec.{leb, ltb}
use lib.ListN.{length, get_or, drop, drop_of_length-le, length-drop}
use lib.Seq.{drop-drop}
use Rattle.paper.specs.Lexical.{Set, span, within, hits_byte, digit, dot, e}
use Rattle.text_scan.specs.Run.{run_of, starts_with, with_digits, fraction_size, sign_size, exponent_size, whole_size}
use Rattle.text_characters.proofs.ByteLaws.{front}
use Rattle.text_tokens.proofs.RunLaws.{run_yes, run_within, starts_at, starts_end}

-- a set of one byte or two misses any other
within_one : (v b : ℕ) → (b ≡ v → ⊥) → within (span v v) b ≡ false
within_one v b h = go (leb v b) refl (leb b v) refl
  where
    go : (x : Bool) → leb v b ≡ x → (y : Bool) → leb b v ≡ y → x && y ≡ false
    go true p true q = absurd (h (omega (arith, leb-true v b p, leb-true b v q)))
    go true p false q = refl
    go false p y q = refl

and_false : (x : Bool) → x && false ≡ false
and_false true = refl
and_false false = refl

pub miss_one : (v b : ℕ) → (b ≡ v → ⊥) → hits_byte (span v v ∷ []) b ≡ false
miss_one v b h = rw (within_one v b h) (and_false (ltb b 256))

pub miss_two : (v w b : ℕ) → (b ≡ v → ⊥) → (b ≡ w → ⊥) → hits_byte (span v v ∷ span w w ∷ []) b ≡ false
miss_two v w b h k = rw (within_one v b h, within_one w b k) (and_false (ltb b 256))

module _ (s : List ℕ) where
  -- where a byte of the set stands, the text goes on
  pub starts_in : (p : Set) (i : ℕ) → starts_with p (drop i s) ≡ true → i < length s
  starts_in p i h = go (dec_lt i (length s))
    where
      go : Dec (i < length s) → i < length s
      go (yes l) = l
      go (no l) = let z : ◌≡◌ {A = ℕ} 0 1 = cc (starts_end p s i (omega arith)) in let y : ⊥ = omega arith in absurd y

  digits_yes : (n j : ℕ) → starts_with digit (drop j s) ≡ true → with_digits n (drop j s) ≡ n + (1 + run_of digit (drop (j + 1) s))
  digits_yes n j h =
      let l = starts_in digit j h in
      rw (h, front s j l, run_yes digit (get_or s j 0) (drop (j + 1) s) (sym (starts_at digit s j l) ∙ h))

  digits_no : (n j : ℕ) → starts_with digit (drop j s) ≡ false → with_digits n (drop j s) ≡ 0
  digits_no n j h = rw h

  module _ (i : ℕ) where
    pub fraction_yes : i < length s → get_or s i 0 ≡ 46 → starts_with digit (drop (i + 1) s) ≡ true → i + 2 + run_of digit (drop (i + 2) s) ≡ i + fraction_size (drop i s)
    unfolding fraction_size
    fraction_yes h q d =
        let k : i + 1 + 1 ≡ i + 2 = omega arith in
        rw (front s i h, q, digits_yes 1 (i + 1) d, k) (omega arith)

    pub fraction_bare : i < length s → get_or s i 0 ≡ 46 → starts_with digit (drop (i + 1) s) ≡ false → i ≡ i + fraction_size (drop i s)
    unfolding fraction_size
    fraction_bare h q d = rw (front s i h, q, digits_no 1 (i + 1) d) (omega arith)

    pub fraction_none : i < length s → (get_or s i 0 ≡ 46 → ⊥) → i ≡ i + fraction_size (drop i s)
    unfolding fraction_size
    fraction_none h q = rw (front s i h, miss_one 46 (get_or s i 0) q) (omega arith)

    pub fraction_end : length s ≤ i → i ≡ i + fraction_size (drop i s)
    unfolding fraction_size
    fraction_end h = rw (drop_of_length-le s h) (omega arith)

    pub sign_plus : i < length s → get_or s i 0 ≡ 43 → i + 1 ≡ i + sign_size (drop i s)
    unfolding sign_size
    sign_plus h q = rw (front s i h, q)

    pub sign_minus : i < length s → get_or s i 0 ≡ 45 → i + 1 ≡ i + sign_size (drop i s)
    unfolding sign_size
    sign_minus h q = rw (front s i h, q)

    pub sign_none : i < length s → (get_or s i 0 ≡ 43 → ⊥) → (get_or s i 0 ≡ 45 → ⊥) → i ≡ i + sign_size (drop i s)
    unfolding sign_size
    sign_none h p q = rw (front s i h, miss_two 43 45 (get_or s i 0) p q) (omega arith)

    pub sign_over : length s ≤ i → i ≡ i + sign_size (drop i s)
    unfolding sign_size
    sign_over h = rw (drop_of_length-le s h) (omega arith)

    pub exponent_none : i < length s → (get_or s i 0 ≡ 69 → ⊥) → (get_or s i 0 ≡ 101 → ⊥) → i ≡ i + exponent_size (drop i s)
    unfolding exponent_size
    exponent_none h p q = rw (front s i h, miss_two 69 101 (get_or s i 0) p q) (omega arith)

    pub exponent_over : length s ≤ i → i ≡ i + exponent_size (drop i s)
    unfolding exponent_size
    exponent_over h = rw (drop_of_length-le s h) (omega arith)

    -- an E, and d the place behind the sign
    module _ (d : ℕ) (h : i < length s) (is-e : (get_or s i 0 ≡ 69) ⊎ (get_or s i 0 ≡ 101)) (at : d ≡ i + 1 + sign_size (drop (i + 1) s)) where
      hits_e : (get_or s i 0 ≡ 69) ⊎ (get_or s i 0 ≡ 101) → hits_byte e (get_or s i 0) ≡ true
      hits_e (inl q) = rw q
      hits_e (inr q) = rw q

      exponent_is : exponent_size (drop i s) ≡ with_digits (1 + sign_size (drop (i + 1) s)) (drop d s)
      unfolding exponent_size
      exponent_is = rw (front s i h, hits_e is-e, drop-drop (sign_size (drop (i + 1) s)) (i + 1) s, ← at)

      pub exponent_yes : starts_with digit (drop d s) ≡ true → d + 1 + run_of digit (drop (d + 1) s) ≡ i + exponent_size (drop i s)
      exponent_yes q = rw (exponent_is, digits_yes (1 + sign_size (drop (i + 1) s)) d q) (omega arith)

      pub exponent_bare : starts_with digit (drop d s) ≡ false → i ≡ i + exponent_size (drop i s)
      exponent_bare q = rw (exponent_is, digits_no (1 + sign_size (drop (i + 1) s)) d q) (omega arith)

    pub whole_zero : i < length s → get_or s i 0 ≡ 48 → i + 1 ≡ i + whole_size (drop i s)
    unfolding whole_size
    whole_zero h q = rw (front s i h, q)

    pub whole_more : i < length s → (get_or s i 0 ≡ 48 → ⊥) → i + 1 + run_of digit (drop (i + 1) s) ≡ i + whole_size (drop i s)
    unfolding whole_size
    whole_more h q = rw (front s i h, miss_one 48 (get_or s i 0) q) (omega arith)

-- each lies within the text
whole_within : (bs : List ℕ) → whole_size bs ≤ length bs
unfolding whole_size
whole_within [] = omega arith
whole_within (b ∷ bs) = go (hits_byte (span 48 48 ∷ []) b)
  where
    go : (t : Bool) → cond t 1 (1 + run_of digit bs) ≤ suc (length bs)
    go true = omega arith
    go false = omega (arith, run_within digit bs)

fraction_within : (bs : List ℕ) → fraction_size bs ≤ length bs
unfolding fraction_size
fraction_within [] = omega arith
fraction_within (b ∷ bs) = go (hits_byte dot b) (starts_with digit bs)
  where
    go : (t d : Bool) → cond t (cond d (1 + run_of digit bs) 0) 0 ≤ suc (length bs)
    go true true = omega (arith, run_within digit bs)
    go true false = omega arith
    go false d = omega arith

pub whole_in : (s : List ℕ) (i : ℕ) → i ≤ length s → i + whole_size (drop i s) ≤ length s
whole_in s i h = omega (arith, whole_within (drop i s), length-drop i s)

pub fraction_in : (s : List ℕ) (i : ℕ) → i ≤ length s → i + fraction_size (drop i s) ≤ length s
fraction_in s i h = omega (arith, fraction_within (drop i s), length-drop i s)
