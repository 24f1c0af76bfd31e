-- Facts about each byte of a range, by one test that is computed at each of them.
use mathlib.Core.Path.{◌≡◌, refl, sym, ap, subst, ◌∙◌}
use mathlib.Core.Bool.{Bool, true, false, ◌&&◌, ◌||◌}
use mathlib.Core.List.{List, [], ◌∷◌}
use mathlib.Core.Logic.{⊎_elim}
use Prim.Native.Nat.{ℕ, zero, suc, ◌+◌, ◌<◌, ◌≤◌}
use native.Mathlib.Omega.{arith}
use native.Mathlib.Nat.{eq-or-lt_of_le}
use native.Mathlib.Numerals.{add-one}
use lib.Dec.{T, ltb, leb}
use lib.ListN.{length, get_or, drop}
use lib.Seq.{drop-cons}
use borrow.Author.Tests.{le-leb, lt-leb, ltb-false}
use Rattle.paper.specs.Lexical.{span, in_set, hits_byte, letter, letter_or_digit, digit}
use Rattle.paper.proofs.Bools.{and_l, and_r}

-- the bytes from i on are the one at i and those from i + 1 on
pub front : (s : List ℕ) (i : ℕ) → i < length s → drop i s ≡ get_or s i 0 ∷ drop (i + 1) s
front s i h = drop-cons s i 0 h ∙ ap (λ (k : ℕ). get_or s i 0 ∷ drop k s) (sym (add-one i))

-- the test passes at each of the n numbers from lo on
abbrev pub all_from : ℕ → ℕ → (ℕ → Bool) → Bool
all_from lo zero f = true
all_from lo (suc n) f = f lo && all_from (suc lo) n f

pub from_all : (lo n : ℕ) (f : ℕ → Bool) → T (all_from lo n f) → (b : ℕ) → lo ≤ b → b < lo + n → T (f b)
from_all lo zero f t b g h = absurd (let z : b < lo + zero = h in omega arith)
from_all lo (suc n) f t b g h =
    ⊎_elim (λ e. subst (λ (k : ℕ). T (f k)) e (and_l (f lo) (all_from (suc lo) n f) t))
    (λ l. from_all (suc lo) n f (and_r (f lo) (all_from (suc lo) n f) t) b l (let z : b < lo + suc n = h in omega arith))
    (eq-or-lt_of_le g)

abbrev pub agree : Bool → Bool → Bool
agree true c = c
agree false true = false
agree false false = true

agree→eq : (a c : Bool) → T (agree a c) → a ≡ c
agree→eq true true t = refl
agree→eq true false t = absurd t
agree→eq false true t = absurd t
agree→eq false false t = refl

-- two tests agree at the n bytes from lo on
pub bytes_agree : (f g : ℕ → Bool) (lo n : ℕ) → T (all_from lo n (λ b. agree (f b) (g b))) → (b : ℕ) → lo ≤ b → b < lo + n → f b ≡ g b
bytes_agree f g lo n t b l h = agree→eq (f b) (g b) (from_all lo n (λ k. agree (f k) (g k)) t b l h)

-- a name goes on with digits and letters
pub digit_in_name : (b : ℕ) → hits_byte digit b ≡ true → hits_byte letter_or_digit b ≡ true
digit_in_name b q = go (ltb b 256) (leb 48 b && leb b 57) (in_set (span 0x41 0x5a ∷ span 0x5f 0x5f ∷ span 0x61 0x7a ∷ []) b) q
  where
    go : (near low other : Bool) → near && (low || false) ≡ true → near && (low || other) ≡ true
    go true true other h = refl
    go true false other h = let z : ◌≡◌ {A = ℕ} 0 1 = cc in let y : ⊥ = omega arith in absurd y
    go false low other h = h

pub letter_in_name : (b : ℕ) → hits_byte digit b ≡ false → hits_byte letter_or_digit b ≡ hits_byte letter b
letter_in_name b q = go (ltb b 256) (leb 48 b && leb b 57) (in_set (span 0x41 0x5a ∷ span 0x5f 0x5f ∷ span 0x61 0x7a ∷ []) b) q
  where
    go : (near low other : Bool) → near && (low || false) ≡ false → near && (low || other) ≡ near && other
    go true true other h = let z : ◌≡◌ {A = ℕ} 0 1 = cc in let y : ⊥ = omega arith in absurd y
    go true false other h = refl
    go false low other h = refl

-- what is one of a name's bytes is a byte
byte_only : (b : ℕ) (x : Bool) → (256 ≤ b → x ≡ false) → ltb b 256 && x ≡ x
byte_only b x f = go (ltb b 256) refl
  where
    go : (near : Bool) → ltb b 256 ≡ near → near && x ≡ x
    go true e = refl
    go false e = sym (f (ltb-false b 256 e))

pub letter_byte : (b : ℕ) → hits_byte letter b ≡ in_set letter b
letter_byte b = byte_only b (in_set letter b) (λ h. rw (lt-leb b 90 (omega arith), lt-leb b 95 (omega arith), lt-leb b 122 (omega arith), le-leb 65 b (omega arith), le-leb 95 b (omega arith), le-leb 97 b (omega arith)))

pub name_byte : (b : ℕ) → hits_byte letter_or_digit b ≡ in_set letter_or_digit b
name_byte b = byte_only b (in_set letter_or_digit b) (λ h. rw (lt-leb b 57 (omega arith), lt-leb b 90 (omega arith), lt-leb b 95 (omega arith), lt-leb b 122 (omega arith), le-leb 48 b (omega arith), le-leb 65 b (omega arith), le-leb 95 b (omega arith), le-leb 97 b (omega arith)))
