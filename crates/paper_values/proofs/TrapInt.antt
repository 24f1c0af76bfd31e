-- 01's trap "testing an Int after narrowing it": the wrong test, which cuts a number to 32 bits before it compares, is not `int_of`.
-- Assumes nothing.
use mathlib.Core.Path.{◌≡◌, refl}
use mathlib.Core.Bool.{cond}
use mathlib.Core.Option.{Option, none, some}
use mathlib.Core.List.{List, [], ◌∷◌}
use Prim.Native.Nat.{ℕ, ◌-◌, ◌%◌}
use native.Mathlib.Omega.{arith}
use lib.Dec.{eqb, leb}
use Rattle.paper_table.specs.Lists.{bytes}
use Rattle.paper_values.specs.NumberTokens.{value_from, value_of, int_of}

-- the low 32 bits of a number
abbrev narrowed : ℕ → ℕ
narrowed n = n % 4294967296

-- `int_of`, but for the narrowing
abbrev pub narrowed_int_of : List ℕ → Option ℕ
narrowed_int_of [] = none
narrowed_int_of (b ∷ bs) =
    cond (eqb b 0x2d)
    (cond (leb (narrowed (value_of bs)) 2147483648) (some (cond (eqb (narrowed (value_of bs)) 0) 0 (4294967296 - narrowed (value_of bs)))) none)
    (cond (leb (narrowed (value_of (b ∷ bs))) 2147483647) (some (narrowed (value_of (b ∷ bs)))) none)

-- it takes 4294967297 for 1, -4294967297 for −1, 4294967296 for 0
pub narrowed_takes :
    narrowed_int_of (bytes "4294967297") ∷ narrowed_int_of (bytes "-4294967297") ∷ narrowed_int_of (bytes "4294967296") ∷ narrowed_int_of (bytes "6442450944") ∷ [] ≡
    some 1 ∷ some 4294967295 ∷ some 0 ∷ none ∷ []
unfolding value_from
narrowed_takes = refl

-- where `int_of` refuses all four
pub int_refuses : int_of (bytes "4294967297") ∷ int_of (bytes "-4294967297") ∷ int_of (bytes "4294967296") ∷ int_of (bytes "6442450944") ∷ [] ≡ none ∷ none ∷ none ∷ none ∷ []
unfolding int_of value_from
int_refuses = refl

-- so it is another test
pub narrowing_differs : ((s : List ℕ) → narrowed_int_of s ≡ int_of s) → ⊥
unfolding int_of value_from
narrowing_differs h = let q : ◌≡◌ {A = Option ℕ} (some 1) none = h (bytes "4294967297") in let z : ◌≡◌ {A = ℕ} 0 1 = cc in omega (arith, z)
