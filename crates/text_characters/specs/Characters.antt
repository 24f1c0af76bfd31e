-- The characters of comments: how many bytes the one has that some bytes begin with, or 0 where none stands there.
use Rattle.std.specs.Prelude.{Bool, true, false, ◌&&◌, cond, List, [], ◌∷◌, ℕ, suc, eqb, length}
use Rattle.paper.specs.Lexical.{Set, hits_byte, commented, lead2, e0, lead3, ed, tail, tail_high, tail_low}

-- whether the bytes begin with one of each of the sets, in their order
abbrev pub fits : List Set → List ℕ → Bool
fits [] bs = true
fits (p ∷ ps) [] = false
fits (p ∷ ps) (b ∷ bs) = hits_byte p b && fits ps bs

-- the size of what has one byte before those that must fit
abbrev pub sized : List Set → List ℕ → ℕ
sized ps bs = cond (fits ps bs) (suc (length ps)) 0

-- what may stand second in a character of three bytes that begins with this byte
abbrev pub second_of : ℕ → Set
second_of b = cond (eqb b 0xe0) tail_high (cond (eqb b 0xed) tail_low tail)

-- a character of two or three bytes
unfoldable pub wide_size : List ℕ → ℕ
wide_size [] = 0
wide_size (b ∷ bs) =
    cond (hits_byte lead2 b) (sized (tail ∷ []) bs)
    (cond (hits_byte e0 b) (sized (tail_high ∷ tail ∷ []) bs)
    (cond (hits_byte lead3 b) (sized (tail ∷ tail ∷ []) bs)
    (cond (hits_byte ed b) (sized (tail_low ∷ tail ∷ []) bs) 0)))

-- a character of a comment
unfoldable pub character_size : List ℕ → ℕ
character_size [] = 0
character_size (b ∷ bs) = cond (hits_byte commented b) 1 (wide_size (b ∷ bs))
