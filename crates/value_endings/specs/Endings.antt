-- What is asked of the lengths of a coercing call's buffers and inputs; how it ends, as the paper has it, and what it leaves.
-- Assumes nothing.
use Rattle.std.specs.Prelude.{◌≡◌, cond, List, [], ◌∷◌, ℕ, ◌+◌, ◌≤◌, ◌<◌, length, take, leb, Result, Ok, Err}
use Rattle.paper.specs.Numbers.{report_size, most_text, input_document, input_variables, accepted}
use Rattle.paper.specs.Refusals.{number_of, shown_in_text}
use Rattle.paper.specs.Calls.{filled}
use Rattle.paper.specs.declared.Refusal.{Refusal}
use Rattle.paper.specs.declared.Refusal.TheVariants.{Buffer, OverLength}
use Rattle.paper_table.specs.TableNumbers.{most_table, input_table}
use Rattle.paper_query.specs.Opening.{refuse_no_operation}
use Rattle.paper_values.specs.ValueNumbers.{refuse_value, refuse_too_long, most_coerced}
use Rattle.paper_values.specs.ValueCalls.{Ending, ends, yields}
use Rattle.query_opening.specs.Opens.{stop_number, stop_shown}
use Rattle.value_endings.specs.declared.NotCoerced.{NotCoerced}
use Rattle.value_endings.specs.declared.NotCoerced.TheVariants.{NotOpened, NotReached, BadText, Refused}

-- the first refusal that the lengths ask for: 1, then 2 with the least input
pub data Asks (value document variables table : ℕ) : Refusal → Type 0 where
  short_value : value < most_coerced → Asks value document variables table Buffer
  long_document : most_coerced ≤ value → most_text < document → Asks value document variables table (OverLength input_document)
  long_variables : most_coerced ≤ value → document ≤ most_text → most_text < variables → Asks value document variables table (OverLength input_variables)
  long_table : most_coerced ≤ value → document ≤ most_text → variables ≤ most_text → most_table < table → Asks value document variables table (OverLength input_table)

abbrev pub Sized : ℕ → ℕ → ℕ → ℕ → Result (Unit {0}) Refusal → Type 0
Sized value document variables table (Ok u) = (most_coerced ≤ value) × (document ≤ most_text) × (variables ≤ most_text) × (table ≤ most_table)
Sized value document variables table (Err r) = Asks value document variables table r

-- up to where a value is written; one past its end where there is none
abbrev pub written_of : Result ℕ NotCoerced → ℕ
written_of (Ok at) = at
written_of (Err why) = most_coerced + 1

-- the number of a refusal, and what it shows; a value that is not refused is too long
abbrev pub end_number : Result ℕ NotCoerced → ℕ
end_number (Err (NotOpened o)) = stop_number (Err o)
end_number (Err NotReached) = refuse_no_operation
end_number (Err (BadText r)) = number_of r
end_number (Err (Refused text row why)) = refuse_value
end_number (Ok at) = refuse_too_long

abbrev pub end_shown : Result ℕ NotCoerced → List ℕ
end_shown (Err (NotOpened o)) = stop_shown (Err o)
end_shown (Err NotReached) = []
end_shown (Err (BadText r)) = shown_in_text input_variables r
end_shown (Err (Refused text row why)) = text ∷ row ∷ why ∷ []
end_shown (Ok at) = []

-- how the call ends, where these bytes stand in the output
abbrev pub ending_of : Result ℕ NotCoerced → List ℕ → Ending
ending_of e v = cond (leb (written_of e) most_coerced) (yields (take (written_of e) v)) (ends (end_number e) (end_shown e))

-- what that leaves in the value and the report, and the answer
abbrev pub Leaves : Ending → List ℕ → List ℕ → List ℕ → List ℕ → ℕ → Type 0
Leaves (ends k shown) value report value' report' n = (n ≡ k) × (value' ≡ filled most_coerced [] value) × (report' ≡ filled report_size (k ∷ shown) report)
Leaves (yields bs) value report value' report' n = (n ≡ accepted) × (value' ≡ filled most_coerced bs value) × (report' ≡ filled report_size (accepted ∷ length bs ∷ []) report)
