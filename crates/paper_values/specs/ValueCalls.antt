-- What gw_coerce_variables and gw_coerce_arguments answer, and what they leave in each buffer.
-- States: 01, "Sizes and refusals", the paragraph "Order", for calls that are given a table, a document, an operation's name and a variables text:
-- 1, 2, table 7, 8, 9, document 3 to 6 and 8, 10, 12, variables text 3 to 6, 11, 16. "yields (for 16 too) these alone".
-- Assumes nothing.
use Rattle.std.specs.Prelude.{◌≡◌, cond, List, [], ◌∷◌, ℕ, ◌≤◌, ◌<◌, length, leb}
use Rattle.paper.specs.Numbers.{report_size, most_text, input_document, input_variables, accepted}
use Rattle.paper.specs.Language.{VariablesText}
use Rattle.paper.specs.Tokens.{Text, Tokens}
use Rattle.paper.specs.Rows.{Row}
use Rattle.paper.specs.Refusals.{number_of, shown_in_text}
use Rattle.paper.specs.Reading.{rows_are, refuses, TextAnswer}
use Rattle.paper.specs.Calls.{filled, tells}
use Rattle.paper.specs.declared.Refusal.{Refusal}
use Rattle.paper.specs.declared.Refusal.TheVariants.{Buffer, OverLength}
use Rattle.paper_table.specs.TableNumbers.{most_table, input_table}
use Rattle.paper_table.specs.Types.{table_of}
use Rattle.paper_query.specs.Enclosing.{field_at}
use Rattle.paper_query.specs.DocumentCalls.{read}
use Rattle.paper_query.specs.Opening.{refuse_no_operation, stops, opens, Opened}
use Rattle.paper_values.specs.ValueNumbers.{refuse_value, refuse_too_long, most_coerced}
use Rattle.paper_values.specs.Values.{Tree, Fields, Pairs, Out, Got, No, and_then}
use Rattle.paper_values.specs.Kinds.{kind_of_type}
use Rattle.paper_values.specs.Encoding.{encode}
use Rattle.paper_values.specs.RowValues.{placed, arguments_at}
use Rattle.paper_values.specs.DocumentDues.{variable_dues, given_in, argument_dues, ReachedField}
use Rattle.paper_values.specs.CallRules.{CoercesVariables, CoercesArguments}

-- how a call ends: with a refusal's number and what it shows, or with the bytes of a value
pub data Ending : Type 0 where
  ends : ℕ → List ℕ → Ending
  yields : List ℕ → Ending

-- a value that is refused shows its text, row and reason; one over 8,192 bytes shows nothing
abbrev pub ended : Out Tree → Ending
ended (No i w) = ends refuse_value (i.text ∷ i.row ∷ w ∷ [])
ended (Got t) = cond (leb (length (encode t)) most_coerced) (yields (encode t)) (ends refuse_too_long [])

-- the coerced variables as one object
abbrev pub as_object : Out Pairs → Out Tree
as_object o = and_then o (λ ps. Got (Fields ps))

-- an operation's variables
pub data VariablesEnd (table document name variables : List ℕ) : Ending → Type 0 where
  -- the table, the document or the operation's name is refused
  nothing_opened : {k : ℕ} {shown : List ℕ} → Opened table document name (stops k shown) → VariablesEnd table document name variables (ends k shown)
  -- the variables text is refused
  text_refused : {rs : List Row} {op : ℕ} {t : Text} {r : Refusal} → Opened table document name (opens rs op) →
      Tokens 0 variables t → TextAnswer VariablesText t (refuses r) → VariablesEnd table document name variables (ends (number_of r) (shown_in_text input_variables r))
  -- the variables are coerced
  variables_coerced : {rs vs : List Row} {op : ℕ} {t : Text} {o : Out Pairs} → Opened table document name (opens rs op) →
      Tokens 0 variables t → TextAnswer VariablesText t (rows_are vs) →
      CoercesVariables (kind_of_type (table_of table)) (given_in (read variables vs)) (variable_dues (read document rs) op) o →
      VariablesEnd table document name variables (ended (as_object o))

-- the arguments of the field at a row
pub data ArgumentsEnd (table document name variables : List ℕ) (row : ℕ) : Ending → Type 0 where
  no_operation_opened : {k : ℕ} {shown : List ℕ} → Opened table document name (stops k shown) → ArgumentsEnd table document name variables row (ends k shown)
  -- the row is no field that the operation reaches
  no_field_reached : {rs : List Row} {op : ℕ} → Opened table document name (opens rs op) → (ReachedField (read document rs) op row → ⊥) →
      ArgumentsEnd table document name variables row (ends refuse_no_operation [])
  variables_unread : {rs : List Row} {op : ℕ} {t : Text} {r : Refusal} → Opened table document name (opens rs op) → ReachedField (read document rs) op row →
      Tokens 0 variables t → TextAnswer VariablesText t (refuses r) → ArgumentsEnd table document name variables row (ends (number_of r) (shown_in_text input_variables r))
  arguments_coerced : {rs vs : List Row} {op : ℕ} {t : Text} {o : Out Tree} → Opened table document name (opens rs op) → ReachedField (read document rs) op row →
      Tokens 0 variables t → TextAnswer VariablesText t (rows_are vs) →
      CoercesArguments (kind_of_type (table_of table)) (given_in (read variables vs)) (variable_dues (read document rs) op) (placed input_document (read document rs) row)
      (arguments_at input_document (read document rs) row) (argument_dues (field_at (table_of table) (read document rs) row)) o →
      ArgumentsEnd table document name variables row (ended o)

-- the buffers are long enough; the inputs are not over their lengths
abbrev pub ValueLent : List ℕ → List ℕ → Type 0
ValueLent value report = (report_size ≤ length report) × (most_coerced ≤ length value)

abbrev pub ValueShort : List ℕ → List ℕ → List ℕ → Type 0
ValueShort table document variables = (length document ≤ most_text) × (length variables ≤ most_text) × (length table ≤ most_table)

-- Either call: its inputs with a length; value and report before and after; the answer.
pub data Coerced (End : Ending → Type 0) (table document variables value report value' report' : List ℕ) : ℕ → Type 0 where
  -- a shorter report is untouched, as all else, and the answer is 1
  short_report : length report < report_size → value' ≡ value → report' ≡ report → Coerced End table document variables value report value' report' (number_of Buffer)
  -- refusals 1 and 2 touch no other buffer; of inputs over their lengths the least is told
  short_value : report_size ≤ length report → length value < most_coerced →
      value' ≡ value → report' ≡ tells Buffer report → Coerced End table document variables value report value' report' (number_of Buffer)
  long_document : ValueLent value report → most_text < length document →
      value' ≡ value → report' ≡ tells (OverLength input_document) report →
      Coerced End table document variables value report value' report' (number_of (OverLength input_document))
  long_variables : ValueLent value report → length document ≤ most_text → most_text < length variables →
      value' ≡ value → report' ≡ tells (OverLength input_variables) report →
      Coerced End table document variables value report value' report' (number_of (OverLength input_variables))
  long_table : ValueLent value report → length document ≤ most_text → length variables ≤ most_text → most_table < length table →
      value' ≡ value → report' ≡ tells (OverLength input_table) report →
      Coerced End table document variables value report value' report' (number_of (OverLength input_table))
  -- the other refusals zero the fixed size
  refused : {k : ℕ} {shown : List ℕ} → ValueLent value report → ValueShort table document variables → End (ends k shown) →
      value' ≡ filled most_coerced [] value → report' ≡ filled report_size (k ∷ shown) report → Coerced End table document variables value report value' report' k
  -- success: the value's bytes and their count
  answered : {bs : List ℕ} → ValueLent value report → ValueShort table document variables → End (yields bs) →
      value' ≡ filled most_coerced bs value → report' ≡ filled report_size (accepted ∷ length bs ∷ []) report →
      Coerced End table document variables value report value' report' accepted

-- gw_coerce_variables
abbrev pub CoercedVariables : (table document name variables value report value' report' : List ℕ) → ℕ → Type 0
CoercedVariables table document name variables = Coerced (VariablesEnd table document name variables) table document variables

-- gw_coerce_arguments
abbrev pub CoercedArguments : (table document name variables : List ℕ) → ℕ → (value report value' report' : List ℕ) → ℕ → Type 0
CoercedArguments table document name variables row = Coerced (ArgumentsEnd table document name variables row) table document variables
