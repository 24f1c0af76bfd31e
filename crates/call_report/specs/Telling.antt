-- What a refusal shows, as the report's second number.
use Rattle.std.specs.Prelude.{List, [], ◌∷◌, Bool, true, false, ℕ}
use Rattle.paper.specs.declared.Refusal.{Refusal}
use Rattle.paper.specs.declared.Refusal.TheVariants.{Buffer, OverLength, NoToken, NoGoing, TooDeep, TooManyRows, TooMany}

-- the first number that a refusal shows, or 0
abbrev pub first_of : List ℕ → ℕ
first_of [] = 0
first_of (n ∷ ns) = n

-- a refusal that shows the number of its text: 3 to 6
abbrev pub of_text : Refusal → Bool
of_text Buffer = false
of_text (OverLength input) = false
of_text (NoToken at) = true
of_text (NoGoing at) = true
of_text (TooDeep at) = true
of_text (TooManyRows at) = true
of_text (TooMany at) = false
