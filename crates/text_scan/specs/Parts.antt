-- The parts of strings, sized as characters are, and runs of them or of characters.
use Rattle.std.specs.Prelude.{◌≡◌, cond, List, [], ◌∷◌, ℕ, zero, suc, ◌+◌, ◌≤◌, length, drop}
use Rattle.paper.specs.Lexical.{Set, hits_byte, plain, backslash, escaped, u, hex}
use Rattle.text_characters.specs.Characters.{sized, wide_size}

-- four digits, as an escape has them
abbrev pub four_hex : List Set
four_hex = hex ∷ hex ∷ hex ∷ hex ∷ []

-- what stands after a backslash
unfoldable pub escaped_size : List ℕ → ℕ
escaped_size [] = 0
escaped_size (b ∷ bs) = cond (hits_byte escaped b) 1 (cond (hits_byte u b) (sized four_hex bs) 0)

-- with the byte before it
abbrev pub with_one : ℕ → ℕ
with_one zero = 0
with_one (suc n) = suc (suc n)

-- a character of a string, or an escape
unfoldable pub part_size : List ℕ → ℕ
part_size [] = 0
part_size (b ∷ bs) = cond (hits_byte plain b) 1 (cond (hits_byte backslash b) (with_one (escaped_size bs)) (wide_size (b ∷ bs)))

-- from one place of a text to another by whole characters, whose sizes are f
pub data Runs (f : List ℕ → ℕ) (s : List ℕ) (from : ℕ) : ℕ → Type 0 where
  none_yet : {i : ℕ} → from ≡ i → Runs f s from i
  one_more : {i j : ℕ} → Runs f s from i → (n : ℕ) → f (drop i s) ≡ suc n → i + suc n ≡ j → Runs f s from j

-- r is the end of the characters from `from` on
pub record Ended (f : List ℕ → ℕ) (s : List ℕ) (from r : ℕ) : Type 0 where
  pub runs : Runs f s from r
  pub within : r ≤ length s
  pub stops : f (drop r s) ≡ 0
