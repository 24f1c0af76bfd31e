-- The sizes of characters at a place of a text, by the bytes that stand there.
-- Assumes nothing.
use mathlib.Core.Path.{◌≡◌, refl, sym, ap, ◌∙◌, subst}
use mathlib.Core.Bool.{Bool, true, false, ◌&&◌, not, cond}
use mathlib.Core.List.{List, [], ◌∷◌}
use Prim.Native.Nat.{ℕ, suc, ◌+◌, ◌<◌, ◌≤◌, zero-le}
use native.Mathlib.Decide.{ℕ_discrete, dec_lt}
use native.Mathlib.Omega.{arith}
use lib.Dec.{eqb}
use lib.ListN.{length, drop, get_or, drop_of_length-le}
use borrow.Author.Tests.{ne_eqb}
use Rattle.paper.specs.Lexical.{Set, hits_byte, commented, lead2, e0, lead3, ed, tail, tail_high, tail_low}
use Rattle.text_characters.specs.Characters.{fits, sized, second_of, wide_size, character_size}
use Rattle.text_characters.proofs.ByteLaws.{front, bytes_agree}

-- the text from i + k on, with its first byte
pub after_front : (s : List ℕ) (i k j : ℕ) → i + k < length s → i + (k + 1) ≡ j → drop (i + k) s ≡ get_or s (i + k) 0 ∷ drop j s
after_front s i k j h e = front s (i + k) h ∙ ap (λ (x : ℕ). get_or s (i + k) 0 ∷ drop x s) (let z : i + k + 1 ≡ j = omega arith in z)

-- sets that are more than the bytes do not fit
pub fits_short : (ps : List Set) (bs : List ℕ) → length bs < length ps → fits ps bs ≡ false
fits_short [] bs h = absurd (let z : ⊥ = omega arith in z)
fits_short (p ∷ ps) [] h = refl
fits_short (p ∷ ps) (b ∷ bs) h = rw (fits_short ps bs (omega arith)) (go (hits_byte p b))
  where
    go : (x : Bool) → x && false ≡ false
    go true = refl
    go false = refl

-- the first byte of a character of two or three bytes
wide_low : (b : ℕ) (bs : List ℕ) → b < 194 → wide_size (b ∷ bs) ≡ 0
unfolding wide_size
wide_low b bs h =
    rw (bytes_agree (hits_byte lead2) (λ _. false) 0 194 tt b zero-le h, bytes_agree (hits_byte e0) (λ _. false) 0 194 tt b zero-le h, bytes_agree (hits_byte lead3) (λ _. false) 0 194 tt b zero-le h, bytes_agree (hits_byte ed) (λ _. false) 0 194 tt b zero-le h)

wide_high : (b : ℕ) (bs : List ℕ) → 240 ≤ b → b < 256 → wide_size (b ∷ bs) ≡ 0
unfolding wide_size
wide_high b bs l h =
    rw (bytes_agree (hits_byte lead2) (λ _. false) 240 16 tt b l h, bytes_agree (hits_byte e0) (λ _. false) 240 16 tt b l h, bytes_agree (hits_byte lead3) (λ _. false) 240 16 tt b l h, bytes_agree (hits_byte ed) (λ _. false) 240 16 tt b l h)

wide_two : (b : ℕ) (bs : List ℕ) → 194 ≤ b → b < 224 → wide_size (b ∷ bs) ≡ sized (tail ∷ []) bs
unfolding wide_size
wide_two b bs l h = rw (bytes_agree (hits_byte lead2) (λ _. true) 194 30 tt b l h)

wide_three : (b : ℕ) (bs : List ℕ) → 224 ≤ b → b < 240 → wide_size (b ∷ bs) ≡ sized (second_of b ∷ tail ∷ []) bs
unfolding wide_size
wide_three b bs l h = go (ℕ_discrete b 224) (ℕ_discrete b 237)
  where
    go : Dec (b ≡ 224) → Dec (b ≡ 237) → wide_size (b ∷ bs) ≡ sized (second_of b ∷ tail ∷ []) bs
    go (yes e) d = subst (λ (k : ℕ). wide_size (k ∷ bs) ≡ sized (second_of k ∷ tail ∷ []) bs) (sym e) refl
    go (no f) (yes e) = subst (λ (k : ℕ). wide_size (k ∷ bs) ≡ sized (second_of k ∷ tail ∷ []) bs) (sym e) refl
    go (no f) (no g) =
        rw (
          bytes_agree (hits_byte lead2) (λ _. false) 224 16 tt b l h,
          bytes_agree (hits_byte e0) (λ k. eqb k 224) 224 16 tt b l h,
          bytes_agree (hits_byte lead3) (λ k. not (eqb k 224) && not (eqb k 237)) 224 16 tt b l h,
          ne_eqb b 224 f,
          ne_eqb b 237 g,
        )

and_nothing : (x : Bool) → x && false ≡ false
and_nothing true = refl
and_nothing false = refl

-- a character of two or three bytes at i
module _ (s : List ℕ) (i : ℕ) (h : i < length s) where
  two : i + 1 < length s → drop i s ≡ get_or s i 0 ∷ get_or s (i + 1) 0 ∷ drop (i + 2) s
  two l = front s i h ∙ ap (λ bs. get_or s i 0 ∷ bs) (after_front s i 1 (i + 2) l refl)

  pub three : i + 2 < length s → drop i s ≡ get_or s i 0 ∷ get_or s (i + 1) 0 ∷ get_or s (i + 2) 0 ∷ drop (i + 3) s
  three l = two (omega arith) ∙ ap (λ bs. get_or s i 0 ∷ get_or s (i + 1) 0 ∷ bs) (after_front s i 2 (i + 3) l refl)

  pub size_low : get_or s i 0 < 194 → 0 ≡ wide_size (drop i s)
  size_low l = sym (ap wide_size (front s i h) ∙ wide_low (get_or s i 0) (drop (i + 1) s) l)

  pub size_high : 240 ≤ get_or s i 0 → get_or s i 0 < 256 → 0 ≡ wide_size (drop i s)
  size_high l k = sym (ap wide_size (front s i h) ∙ wide_high (get_or s i 0) (drop (i + 1) s) l k)

  pub size_alone : length s ≤ i + 1 → get_or s i 0 < 256 → 0 ≡ wide_size (drop i s)
  size_alone l k = sym (ap wide_size (front s i h ∙ ap (λ bs. get_or s i 0 ∷ bs) (drop_of_length-le s l)) ∙ go (dec_lt (get_or s i 0) 194) (dec_lt (get_or s i 0) 224) (dec_lt (get_or s i 0) 240))
    where
      b : ℕ
      b = get_or s i 0

      go : Dec (b < 194) → Dec (b < 224) → Dec (b < 240) → wide_size (b ∷ []) ≡ 0
      go (yes x) d e = wide_low b [] x
      go (no x) (yes y) e = wide_two b [] (omega arith) y
      go (no x) (no y) (yes z) = wide_three b [] (omega arith) z
      go (no x) (no y) (no z) = wide_high b [] (omega arith) k

  pub size_two : (r : Bool) → 194 ≤ get_or s i 0 → get_or s i 0 < 224 → i + 1 < length s → hits_byte tail (get_or s (i + 1) 0) ≡ r → cond r 2 0 ≡ wide_size (drop i s)
  size_two r l k m q = sym (ap wide_size (two m) ∙ wide_two (get_or s i 0) (get_or s (i + 1) 0 ∷ drop (i + 2) s) l k ∙ rw q (go r))
    where
      go : (x : Bool) → ◌≡◌ {A = ℕ} (cond (x && true) 2 0) (cond x 2 0)
      go true = refl
      go false = refl

  pub size_pair : 224 ≤ get_or s i 0 → get_or s i 0 < 256 → i + 1 < length s → length s ≤ i + 2 → 0 ≡ wide_size (drop i s)
  size_pair l k m n = sym (ap wide_size (two m ∙ ap (λ bs. b ∷ c ∷ bs) (drop_of_length-le s n)) ∙ go (dec_lt b 240))
    where
      b : ℕ
      b = get_or s i 0

      c : ℕ
      c = get_or s (i + 1) 0

      go : Dec (b < 240) → wide_size (b ∷ c ∷ []) ≡ 0
      go (yes z) = wide_three b (c ∷ []) l z ∙ rw (and_nothing (hits_byte (second_of b) c)) refl
      go (no z) = wide_high b (c ∷ []) (omega arith) k

  pub size_three : (r q : Bool) → 224 ≤ get_or s i 0 → get_or s i 0 < 240 → i + 2 < length s → hits_byte (second_of (get_or s i 0)) (get_or s (i + 1) 0) ≡ r → hits_byte tail (get_or s (i + 2) 0) ≡ q →
      cond r (cond q 3 0) 0 ≡ wide_size (drop i s)
  size_three r q l k m d e = sym (ap wide_size (three m) ∙ wide_three (get_or s i 0) (get_or s (i + 1) 0 ∷ get_or s (i + 2) 0 ∷ drop (i + 3) s) l k ∙ rw (d, e) (go r q))
    where
      go : (x y : Bool) → ◌≡◌ {A = ℕ} (cond (x && (y && true)) 3 0) (cond x (cond y 3 0) 0)
      go true true = refl
      go true false = refl
      go false y = refl

-- a character of a comment at i
module _ (s : List ℕ) (i : ℕ) (h : i < length s) where
  pub character_at : character_size (drop i s) ≡ cond (hits_byte commented (get_or s i 0)) 1 (wide_size (drop i s))
  unfolding character_size
  character_at = ap character_size (front s i h) ∙ ap (λ bs. cond (hits_byte commented (get_or s i 0)) 1 (wide_size bs)) (sym (front s i h))

  pub character_tab : get_or s i 0 ≡ 9 → 1 ≡ character_size (drop i s)
  character_tab e = sym (character_at ∙ rw (bytes_agree (hits_byte commented) (λ _. true) 9 1 tt (get_or s i 0) (omega arith) (omega arith)))

  pub character_low : get_or s i 0 < 32 → (get_or s i 0 ≡ 9 → ⊥) → 0 ≡ character_size (drop i s)
  character_low l z = sym (character_at ∙ rw (bytes_agree (hits_byte commented) (λ k. eqb k 9) 0 32 tt (get_or s i 0) zero-le l, ne_eqb (get_or s i 0) 9 z) (sym (size_low s i h (omega arith))))

  pub character_plain : 32 ≤ get_or s i 0 → get_or s i 0 < 128 → 1 ≡ character_size (drop i s)
  character_plain l k = sym (character_at ∙ rw (bytes_agree (hits_byte commented) (λ _. true) 32 96 tt (get_or s i 0) l k))

  pub character_wide : 128 ≤ get_or s i 0 → get_or s i 0 < 256 → wide_size (drop i s) ≡ character_size (drop i s)
  character_wide l k = sym (character_at ∙ rw (bytes_agree (hits_byte commented) (λ _. false) 128 128 tt (get_or s i 0) l k))

-- no character has more bytes than there are
pub cond_le : (x : Bool) (a b n : ℕ) → a ≤ n → b ≤ n → cond x a b ≤ n
cond_le true a b n h k = h
cond_le false a b n h k = k

pub sized_within : (ps : List Set) (bs : List ℕ) → sized ps bs ≤ suc (length bs)
sized_within ps bs = go (dec_lt (length bs) (length ps))
  where
    go : Dec (length bs < length ps) → cond (fits ps bs) (suc (length ps)) 0 ≤ suc (length bs)
    go (yes h) = rw (fits_short ps bs h) zero-le
    go (no h) = cond_le (fits ps bs) (suc (length ps)) 0 (suc (length bs)) (omega arith) zero-le

pub wide_within : (bs : List ℕ) → wide_size bs ≤ length bs
unfolding wide_size
wide_within [] = zero-le
wide_within (b ∷ bs) =
    cond_le (hits_byte lead2 b) (sized (tail ∷ []) bs) _ (suc (length bs)) (sized_within (tail ∷ []) bs)
    (cond_le (hits_byte e0 b) (sized (tail_high ∷ tail ∷ []) bs) _ (suc (length bs)) (sized_within (tail_high ∷ tail ∷ []) bs)
    (cond_le (hits_byte lead3 b) (sized (tail ∷ tail ∷ []) bs) _ (suc (length bs)) (sized_within (tail ∷ tail ∷ []) bs)
    (cond_le (hits_byte ed b) (sized (tail_low ∷ tail ∷ []) bs) 0 (suc (length bs)) (sized_within (tail_low ∷ tail ∷ []) bs) zero-le)))

pub character_within : (bs : List ℕ) → character_size bs ≤ length bs
unfolding character_size
character_within [] = zero-le
character_within (b ∷ bs) = cond_le (hits_byte commented b) 1 (wide_size (b ∷ bs)) (suc (length bs)) (omega arith) (wide_within (b ∷ bs))
