-- Whole numbers with their sign: the one that an integer token writes, and the one that the 32 bits of an Int hold.
-- States: 01, "Int: −2147483648 to 2147483647"; the promise on tag 33 is said with these.
-- Assumes nothing.
use Rattle.std.specs.Prelude.{Bool, cond, List, [], ◌∷◌, ℕ, ◌-◌, eqb, leb}
use Rattle.paper_values.specs.NumberTokens.{value_of}

-- zero and the numbers above it; those below it by their distance from zero
pub data Signed : Type 0 where
  plus : ℕ → Signed
  minus : ℕ → Signed

-- zero has no sign
abbrev pub negated : ℕ → Signed
negated n = cond (eqb n 0) (plus 0) (minus n)

-- the number that an integer token writes
abbrev pub number_written : List ℕ → Signed
number_written [] = plus 0
number_written (b ∷ bs) = cond (eqb b 0x2d) (negated (value_of bs)) (plus (value_of (b ∷ bs)))

-- the number that 32 bits hold as two's complement
abbrev pub number_held : ℕ → Signed
number_held x = cond (leb x 2147483647) (plus x) (minus (4294967296 - x))

-- within −2147483648 to 2147483647
abbrev pub is_int : Signed → Bool
is_int (plus n) = leb n 2147483647
is_int (minus n) = leb n 2147483648
