-- Tests that pass, and the facts they are.
use mathlib.Core.Path.{◌≡◌, refl, sym}
use mathlib.Core.Bool.{Bool, true, false, not, true≢false, ◌&&◌, ◌||◌}
use mathlib.Core.Logic.{◌⊎◌, inl, inr}
use lib.Dec.{T}

pub and_l : (a b : Bool) → T (a && b) → T a
and_l true b t = tt
and_l false b t = t

pub and_r : (a b : Bool) → T (a && b) → T b
and_r true b t = t
and_r false b t = absurd t

pub and_i : (a b : Bool) → T a → T b → T (a && b)
and_i true b s t = t
and_i false b s t = s

pub or_cases : (a b : Bool) → T (a || b) → T a ⊎ T b
or_cases true b t = inl tt
or_cases false b t = inr t

pub or_l : (a b : Bool) → T a → T (a || b)
or_l true b t = tt
or_l false b t = absurd t

pub or_r : (a b : Bool) → T b → T (a || b)
or_r true b t = tt
or_r false b t = t

pub T→eq : (b : Bool) → T b → b ≡ true
T→eq true t = refl
T→eq false t = absurd t

pub eq→t : (b : Bool) → b ≡ true → T b
eq→t true e = tt
eq→t false e = absurd (true≢false (sym e))

pub not_eq : (b : Bool) → T (not b) → b ≡ false
not_eq true t = absurd t
not_eq false t = refl

pub eq→t_not : (b : Bool) → b ≡ false → T (not b)
eq→t_not true e = absurd (true≢false e)
eq→t_not false e = tt

pub not_true : (b : Bool) → not b ≡ true → b ≡ false
not_true true e = absurd (true≢false (sym e))
not_true false e = refl

pub not_false : (b : Bool) → not b ≡ false → b ≡ true
not_false true e = refl
not_false false e = absurd (true≢false e)

pub and_left : (a b : Bool) → a && b ≡ true → a ≡ true
and_left true b e = refl
and_left false b e = e

pub and_right : (a b : Bool) → a && b ≡ true → b ≡ true
and_right true b e = e
and_right false b e = absurd (true≢false (sym e))

pub or_no_left : (a b : Bool) → a || b ≡ false → a ≡ false
or_no_left true b e = e
or_no_left false b e = refl

pub or_no_right : (a b : Bool) → a || b ≡ false → b ≡ false
or_no_right true b e = absurd (true≢false e)
or_no_right false b e = e

pub or_true_right : (a b : Bool) → b ≡ true → a || b ≡ true
or_true_right true b e = refl
or_true_right false b e = e
