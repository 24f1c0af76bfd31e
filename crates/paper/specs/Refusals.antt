-- Each refusal's number and what it shows.
-- States: 01, "Sizes and refusals", the table.
-- Assumes nothing.
use Rattle.std.specs.Prelude.{ℕ, List, [], ◌∷◌}
use Rattle.paper.specs.Numbers.{refuse_buffer, refuse_over_length, refuse_no_token, refuse_no_going, refuse_too_deep, refuse_too_many_rows, refuse_too_many}
use Rattle.paper.specs.declared.Refusal.{Refusal}
use Rattle.paper.specs.declared.Refusal.TheVariants.{Buffer, OverLength, NoToken, NoGoing, TooDeep, TooManyRows, TooMany}

-- the column "No."
abbrev pub number_of : Refusal → ℕ
number_of Buffer = refuse_buffer
number_of (OverLength input) = refuse_over_length
number_of (NoToken at) = refuse_no_token
number_of (NoGoing at) = refuse_no_going
number_of (TooDeep at) = refuse_too_deep
number_of (TooManyRows at) = refuse_too_many_rows
number_of (TooMany at) = refuse_too_many

-- the column "Shown", for the document (01: "3 to 6 then show the text", which is 0)
abbrev pub shown_of : Refusal → List ℕ
shown_of Buffer = []
shown_of (OverLength input) = input ∷ []
shown_of (NoToken at) = at ∷ []
shown_of (NoGoing at) = at ∷ []
shown_of (TooDeep at) = at ∷ []
shown_of (TooManyRows at) = at ∷ []
shown_of (TooMany at) = at ∷ []

-- "3 to 6 then show the text as in 2": the same beside the number of the text that is refused
abbrev pub shown_in_text : ℕ → Refusal → List ℕ
shown_in_text text Buffer = []
shown_in_text text (OverLength input) = input ∷ []
shown_in_text text (NoToken at) = at ∷ text ∷ []
shown_in_text text (NoGoing at) = at ∷ text ∷ []
shown_in_text text (TooDeep at) = at ∷ text ∷ []
shown_in_text text (TooManyRows at) = at ∷ text ∷ []
shown_in_text text (TooMany at) = at ∷ []
