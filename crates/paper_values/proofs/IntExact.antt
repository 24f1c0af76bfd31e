-- An integer token at Int: accepted exactly where the number that it writes lies within the 32 bits, which then hold that number.
use mathlib.Core.Path.{◌≡◌, refl, sym, ap, ◌∙◌, subst}
use mathlib.Core.Bool.{Bool, true, false, cond}
use mathlib.Core.Option.{Option, none, some}
use mathlib.Core.List.{List, ◌∷◌}
use Prim.Native.Nat.{ℕ, ◌-◌, ◌≤◌}
use native.Mathlib.Omega.{arith}
use lib.Dec.{eqb, leb}
use borrow.Author.Tests.{leb-true, lt-leb, eqb-true, eqb-false}
use Rattle.paper_values.specs.NumberTokens.{value_of, int_of}
use Rattle.paper_values.specs.Signed.{Signed, plus, minus, negated, number_written, number_held, is_int}

-- what an Int answers for a number: out of range, or bits that hold it
abbrev pub Holds : Option ℕ → Signed → Type 0
Holds none n = is_int n ≡ false
Holds (some x) n = (is_int n ≡ true) × (number_held x ≡ n)

above : (n : ℕ) (b : Bool) → leb n 2147483647 ≡ b → Holds (cond b (some n) none) (plus n)
above n true q = (q, rw q refl)
above n false q = q

abbrev bits_below : ℕ → Bool → ℕ
bits_below n z = cond z 0 (4294967296 - n)

zero_below : (n : ℕ) → n ≡ 0 → Holds (cond (leb n 2147483648) (some (bits_below n true)) none) (negated n)
zero_below n q = rw q (refl, refl)

held_below : (n : ℕ) → (n ≡ 0 → ⊥) → n ≤ 2147483648 → number_held (4294967296 - n) ≡ minus n
held_below n z h = rw (lt-leb (4294967296 - n) 2147483647 (omega (arith, h))) (ap minus (omega (arith, h)))

other_below : (n : ℕ) (b : Bool) → (n ≡ 0 → ⊥) → leb n 2147483648 ≡ b → Holds (cond b (some (4294967296 - n)) none) (minus n)
other_below n true z q = (q, held_below n z (leb-true n 2147483648 q))
other_below n false z q = q

below : (n : ℕ) (z : Bool) → eqb n 0 ≡ z → Holds (cond (leb n 2147483648) (some (bits_below n z)) none) (cond z (plus 0) (minus n))
below n true q = subst (λ (s : Signed). Holds (cond (leb n 2147483648) (some 0) none) s) (ap (λ (b : Bool). cond b (plus 0) (minus n)) q) (zero_below n (eqb-true n 0 q))
below n false q = other_below n (leb n 2147483648) (eqb-false n 0 q) refl

-- for every token that is not empty
pub int_holds : (b : ℕ) (bs : List ℕ) → Holds (int_of (b ∷ bs)) (number_written (b ∷ bs))
unfolding int_of
int_holds b bs = go (eqb b 0x2d)
  where
    go : (m : Bool) → Holds (cond m (cond (leb (value_of bs) 2147483648) (some (cond (eqb (value_of bs) 0) 0 (4294967296 - value_of bs))) none) (cond (leb (value_of (b ∷ bs)) 2147483647) (some (value_of (b ∷ bs))) none))
        (cond m (negated (value_of bs)) (plus (value_of (b ∷ bs))))
    go true = below (value_of bs) (eqb (value_of bs) 0) refl
    go false = above (value_of (b ∷ bs)) (leb (value_of (b ∷ bs)) 2147483647) refl

-- the two halves, as they are cited
pub int_number : (b : ℕ) (bs : List ℕ) (x : ℕ) → int_of (b ∷ bs) ≡ some x → (is_int (number_written (b ∷ bs)) ≡ true) × (number_held x ≡ number_written (b ∷ bs))
int_number b bs x q = subst (λ (o : Option ℕ). Holds o (number_written (b ∷ bs))) q (int_holds b bs)

pub int_outside : (b : ℕ) (bs : List ℕ) → int_of (b ∷ bs) ≡ none → is_int (number_written (b ∷ bs)) ≡ false
int_outside b bs q = subst (λ (o : Option ℕ). Holds o (number_written (b ∷ bs))) q (int_holds b bs)

outside : (o : Option ℕ) (s : Signed) → Holds o s → is_int s ≡ false → o ≡ none
outside none s h q = refl
outside (some x) s h q = absurd (true≢false (sym h.0 ∙ q))
  where
    true≢false : true ≡ false → ⊥
    true≢false e = let z : ◌≡◌ {A = ℕ} 0 1 = ap (λ (b : Bool). cond b 0 1) e in omega arith

pub int_refused : (b : ℕ) (bs : List ℕ) → is_int (number_written (b ∷ bs)) ≡ false → int_of (b ∷ bs) ≡ none
int_refused b bs q = outside (int_of (b ∷ bs)) (number_written (b ∷ bs)) (int_holds b bs) q
