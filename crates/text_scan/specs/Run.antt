-- Sizes, counted from the front of some bytes: a run of bytes of one set, and the parts of a number.
use Rattle.std.specs.Prelude.{Bool, false, cond, List, [], ◌∷◌, ℕ, ◌+◌, drop}
use Rattle.paper.specs.Lexical.{Set, hits_byte, digit, dot, e, sign, zero}

-- how many bytes of a set stand in front
unfoldable pub run_of : Set → List ℕ → ℕ
run_of p [] = 0
run_of p (b ∷ bs) = cond (hits_byte p b) (1 + run_of p bs) 0

-- whether one does
abbrev pub starts_with : Set → List ℕ → Bool
starts_with p [] = false
starts_with p (b ∷ bs) = hits_byte p b

-- n bytes with the digits behind them, or 0 where no digit stands there
abbrev pub with_digits : ℕ → List ℕ → ℕ
with_digits n bs = cond (starts_with digit bs) (n + run_of digit bs) 0

-- FractionalPart, or 0
unfoldable pub fraction_size : List ℕ → ℕ
fraction_size [] = 0
fraction_size (b ∷ bs) = cond (hits_byte dot b) (with_digits 1 bs) 0

-- Sign?
unfoldable pub sign_size : List ℕ → ℕ
sign_size [] = 0
sign_size (b ∷ bs) = cond (hits_byte sign b) 1 0

-- ExponentPart, or 0
unfoldable pub exponent_size : List ℕ → ℕ
exponent_size [] = 0
exponent_size (b ∷ bs) = cond (hits_byte e b) (with_digits (1 + sign_size bs) (drop (sign_size bs) bs)) 0

-- IntegerPart without its sign, where a digit stands in front
unfoldable pub whole_size : List ℕ → ℕ
whole_size [] = 0
whole_size (b ∷ bs) = cond (hits_byte zero b) 1 (1 + run_of digit bs)
