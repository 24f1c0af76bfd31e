-- The sizes of escapes and of parts of a string at a place of a text, by the bytes that stand there.
-- Assumes nothing.
use mathlib.Core.Path.{◌≡◌, refl, sym, ap, ◌∙◌}
use mathlib.Core.Bool.{Bool, true, false, ◌&&◌, not, cond}
use mathlib.Core.List.{List, [], ◌∷◌}
use Prim.Native.Nat.{ℕ, zero, suc, ◌+◌, ◌-◌, ◌<◌, ◌≤◌, zero-le, suc-le-suc}
use native.Mathlib.Omega.{arith}
use lib.Dec.{eqb}
use lib.ListN.{length, drop, get_or, length-drop, drop_of_length-le}
use borrow.Author.Tests.{ne_eqb}
use Rattle.paper.specs.Lexical.{hits_byte, plain, commented, backslash, escaped, u, hex}
use Rattle.text_characters.specs.Characters.{fits, sized, wide_size, character_size}
use Rattle.text_characters.proofs.ByteLaws.{front, bytes_agree}
use Rattle.text_characters.proofs.CharacterLaws.{after_front, fits_short, three, size_low, character_at, cond_le, sized_within, wide_within}
use Rattle.text_scan.specs.Parts.{four_hex, escaped_size, with_one, part_size}

-- four digits at i
pub four_short : (s : List ℕ) (i : ℕ) → length s - i < 4 → false ≡ fits four_hex (drop i s)
four_short s i h = sym (fits_short four_hex (drop i s) (simp length-drop h))

module _ (s : List ℕ) (i : ℕ) (h : i + 4 ≤ length s) where
  four : drop i s ≡ get_or s i 0 ∷ get_or s (i + 1) 0 ∷ get_or s (i + 2) 0 ∷ get_or s (i + 3) 0 ∷ drop (i + 4) s
  four = three s i (omega arith) (omega arith) ∙ ap (λ bs. get_or s i 0 ∷ get_or s (i + 1) 0 ∷ get_or s (i + 2) 0 ∷ bs) (after_front s i 3 (i + 4) (omega arith) refl)

  pub four_fit : (w x y z : Bool) → hits_byte hex (get_or s i 0) ≡ w → hits_byte hex (get_or s (i + 1) 0) ≡ x → hits_byte hex (get_or s (i + 2) 0) ≡ y → hits_byte hex (get_or s (i + 3) 0) ≡ z →
      w && (x && (y && z)) ≡ fits four_hex (drop i s)
  four_fit w x y z a b c d = sym (ap (fits four_hex) four ∙ rw (a, b, c, d) (go z))
    where
      go : (k : Bool) → w && (x && (y && (k && true))) ≡ w && (x && (y && k))
      go true = refl
      go false = refl

-- an escape whose backslash stands at i
pub escape_none : (s : List ℕ) (i : ℕ) → length s ≤ i + 1 → 0 ≡ with_one (escaped_size (drop (i + 1) s))
unfolding escaped_size
escape_none s i l = sym (ap (λ bs. with_one (escaped_size bs)) (drop_of_length-le s l))

module _ (s : List ℕ) (i : ℕ) (h : i + 1 < length s) where
  escape_at : escaped_size (drop (i + 1) s) ≡ cond (hits_byte escaped (get_or s (i + 1) 0)) 1 (cond (hits_byte u (get_or s (i + 1) 0)) (sized four_hex (drop (i + 2) s)) 0)
  unfolding escaped_size
  escape_at = ap escaped_size (after_front s i 1 (i + 2) h refl)

  pub escape_u : (r : Bool) → get_or s (i + 1) 0 ≡ 117 → fits four_hex (drop (i + 2) s) ≡ r → cond r 6 0 ≡ with_one (escaped_size (drop (i + 1) s))
  escape_u r e q = sym (ap with_one escape_at ∙ rw (e, q) (go r))
    where
      go : (x : Bool) → with_one (cond x 5 0) ≡ cond x 6 0
      go true = refl
      go false = refl

  pub escape_other : (r : Bool) → (get_or s (i + 1) 0 ≡ 117 → ⊥) → get_or s (i + 1) 0 < 256 → hits_byte escaped (get_or s (i + 1) 0) ≡ r → cond r 2 0 ≡ with_one (escaped_size (drop (i + 1) s))
  escape_other r e k q = sym (ap with_one escape_at ∙ rw (q, bytes_agree (hits_byte u) (λ b. eqb b 117) 0 256 tt (get_or s (i + 1) 0) zero-le k, ne_eqb (get_or s (i + 1) 0) 117 e) (go r))
    where
      go : (x : Bool) → with_one (cond x 1 0) ≡ cond x 2 0
      go true = refl
      go false = refl

-- a part of a string at i
module _ (s : List ℕ) (i : ℕ) (h : i < length s) where
  part_at : part_size (drop i s) ≡ cond (hits_byte plain (get_or s i 0)) 1 (cond (hits_byte backslash (get_or s i 0)) (with_one (escaped_size (drop (i + 1) s))) (wide_size (drop i s)))
  unfolding part_size
  part_at =
      ap part_size (front s i h) ∙
      ap (λ bs. cond (hits_byte plain (get_or s i 0)) 1 (cond (hits_byte backslash (get_or s i 0)) (with_one (escaped_size (drop (i + 1) s))) (wide_size bs))) (sym (front s i h))

  pub part_escape : get_or s i 0 ≡ 92 → with_one (escaped_size (drop (i + 1) s)) ≡ part_size (drop i s)
  part_escape e = sym (part_at ∙ rw e refl)

  pub part_quote : get_or s i 0 ≡ 34 → 0 ≡ part_size (drop i s)
  part_quote e = sym (part_at ∙ rw e (sym (size_low s i h (omega arith))))

  pub part_other : (get_or s i 0 ≡ 92 → ⊥) → (get_or s i 0 ≡ 34 → ⊥) → get_or s i 0 < 256 → character_size (drop i s) ≡ part_size (drop i s)
  part_other e f k =
      character_at s i h ∙ sym (part_at ∙
      rw
      (bytes_agree (hits_byte plain) (λ b. hits_byte commented b && (not (eqb b 34) && not (eqb b 92))) 0 256 tt b zero-le k, bytes_agree (hits_byte backslash) (λ b. eqb b 92) 0 256 tt b zero-le k, ne_eqb b 34 f, ne_eqb b 92 e)
      (go (hits_byte commented b)))
    where
      b : ℕ
      b = get_or s i 0

      go : (x : Bool) → cond (x && true) 1 (wide_size (drop i s)) ≡ cond x 1 (wide_size (drop i s))
      go true = refl
      go false = refl

-- no part has more bytes than there are
escaped_within : (bs : List ℕ) → escaped_size bs ≤ length bs
unfolding escaped_size
escaped_within [] = zero-le
escaped_within (b ∷ bs) = cond_le (hits_byte escaped b) 1 _ (suc (length bs)) (omega arith) (cond_le (hits_byte u b) (sized four_hex bs) 0 (suc (length bs)) (sized_within four_hex bs) zero-le)

one_within : (n m : ℕ) → n ≤ m → with_one n ≤ suc m
one_within zero m h = zero-le
one_within (suc n) m h = suc-le-suc h

pub part_within : (bs : List ℕ) → part_size bs ≤ length bs
unfolding part_size
part_within [] = zero-le
part_within (b ∷ bs) =
    cond_le (hits_byte plain b) 1 _ (suc (length bs)) (omega arith)
    (cond_le (hits_byte backslash b) (with_one (escaped_size bs)) (wide_size (b ∷ bs)) (suc (length bs)) (one_within (escaped_size bs) (length bs) (escaped_within bs)) (wide_within (b ∷ bs)))
