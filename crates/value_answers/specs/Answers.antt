-- What a call coerces, and how it ends, as the code's functions ask and answer it.
-- Assumes nothing.
use Rattle.std.specs.Prelude.{◌≡◌, List, [], ℕ, length, Result, Ok, Err}
use Rattle.paper.specs.Numbers.{kind_operation, input_variables}
use Rattle.paper.specs.Language.{Document, VariablesText}
use Rattle.paper.specs.Tokens.{Text, Tokens}
use Rattle.paper.specs.Rows.{Row}
use Rattle.paper.specs.Refusals.{number_of, shown_in_text}
use Rattle.paper.specs.Reading.{rows_are, refuses, TextAnswer}
use Rattle.paper.specs.declared.Refusal.{Refusal}
use Rattle.paper_table.specs.Judging.{judge}
use Rattle.paper_table.specs.declared.TableAnswer.TheVariants.{Accepted}
use Rattle.paper_query.specs.Constructs.{Doc}
use Rattle.paper_query.specs.DocumentCalls.{read}
use Rattle.paper_query.specs.Opening.{refuse_no_operation}
use Rattle.table_types.specs.Booked.{Booked}
use Rattle.query_rows.specs.Rowed.{row_in}
use Rattle.query_rows.proofs.ReadRows.{Taken}
use Rattle.paper_values.specs.ValueNumbers.{most_coerced}
use Rattle.paper_values.specs.Values.{Tree, Out}
use Rattle.paper_values.specs.DocumentDues.{ReachedField}
use Rattle.paper_values.specs.ValueCalls.{Ending, ends, ended, VariablesEnd, ArgumentsEnd}
use Rattle.value_endings.specs.Endings.{ending_of, Leaves}
use Rattle.value_endings.specs.declared.NotCoerced.{NotCoerced}
use Rattle.value_endings.specs.declared.NotCoerced.TheVariants.{Refused}
use Rattle.value_results.specs.Results.{result_of}
use Rattle.value_results.specs.declared.RefusedValue.{RefusedValue}
use Rattle.value_results.specs.declared.Task.{Task}
use Rattle.value_results.specs.declared.Task.TheVariants.{OfOperation, OfField}
use Rattle.value_answers.specs.declared.Call.{Call}
use Rattle.value_answers.specs.declared.Call.TheVariants.{Variables, Arguments}

-- ---- what comes of its task

abbrev pub ended_of : Result ℕ RefusedValue → Result ℕ NotCoerced
ended_of (Ok at) = Ok at
ended_of (Err f) = Err (Refused f.text f.row f.why)

-- the code ends as this result does, where these bytes stand in the output
pub record Gives (o : Out Tree) (v : List ℕ) (r : Result ℕ NotCoerced) : Type 0 where
  pub same : ended o ≡ ending_of r v

-- ---- what is asked

-- an accepted table and its book, a document's rows, and the row of one of its operations
pub record Stands (t book s rows : List ℕ) (n : ℕ) : Type 0 where
  pub accepted : judge t ≡ Accepted
  pub booked : Booked t book
  pub taken : Taken Document s rows n

pub record Standing (t book s rows : List ℕ) (n op : ℕ) : Type 0 where
  pub stands : Stands t book s rows n
  pub operation : (row_in rows n op).kind ≡ kind_operation

-- ---- how a call ends

-- where its task is known: the variables text is refused, or there is a result
pub data ReadEnd (t : List ℕ) (d : Doc) (op : ℕ) (task : Task) (variables : List ℕ) : Ending → Type 0 where
  unread : {k : Text} {r : Refusal} → Tokens 0 variables k → TextAnswer VariablesText k (refuses r) → ReadEnd t d op task variables (ends (number_of r) (shown_in_text input_variables r))
  done : {k : Text} {vs : List Row} → Tokens 0 variables k → TextAnswer VariablesText k (rows_are vs) → ReadEnd t d op task variables (ended (result_of t d op (read variables vs) task))

-- where an operation is opened: the field is not reached, or its task is known
pub data FieldEnd (t : List ℕ) (d : Doc) (op row : ℕ) (variables : List ℕ) : Ending → Type 0 where
  unreached : (ReachedField d op row → ⊥) → FieldEnd t d op row variables (ends refuse_no_operation [])
  reached : {start end : ℕ} {e : Ending} → ReachedField d op row → ReadEnd t d op (OfField row start end) variables e → FieldEnd t d op row variables e

abbrev pub OpenEnd : List ℕ → Doc → ℕ → Call → List ℕ → Ending → Type 0
OpenEnd t d op Variables variables = ReadEnd t d op OfOperation variables
OpenEnd t d op (Arguments row) variables = FieldEnd t d op row variables

-- in whole
abbrev pub EndFor : Call → List ℕ → List ℕ → List ℕ → List ℕ → Ending → Type 0
EndFor Variables table document name variables = VariablesEnd table document name variables
EndFor (Arguments row) table document name variables = ArgumentsEnd table document name variables row

-- some ending is told, in a value of the fixed size
pub record Ends (End : Ending → Type 0) (report value' report' : List ℕ) (n : ℕ) : Type 0 where
  pub ending : Ending
  pub ends_so : End ending
  pub before : List ℕ
  pub size : length before ≡ most_coerced
  pub leaves : Leaves ending before report value' report' n
