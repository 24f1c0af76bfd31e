-- What is coerced, and what comes of it, as the code's functions ask and answer it.
-- Assumes nothing.
use Rattle.std.specs.Prelude.{◌≡◌, cond, List, [], ◌∷◌, ℕ, ◌+◌, ◌≤◌, length, take, leb, Result, Ok, Err}
use Rattle.paper.specs.Numbers.{most_variables, input_document}
use Rattle.paper_table.specs.Types.{table_of}
use Rattle.paper_query.specs.Constructs.{Doc, count}
use Rattle.paper_query.specs.Enclosing.{field_at}
use Rattle.paper_values.specs.ValueNumbers.{refuse_value, refuse_too_long, most_coerced}
use Rattle.paper_values.specs.Values.{Tree, Pairs, Out, and_then}
use Rattle.paper_values.specs.Coercion.{heads, value_in}
use Rattle.paper_values.specs.Computed.{in_object, givens, or_default, variables_of}
use Rattle.paper_values.specs.RowValues.{placed, arguments_at}
use Rattle.paper_values.specs.DocumentDues.{definitions_of, variable_dues, given_in, argument_dues}
use Rattle.paper_values.specs.ValueCalls.{Ending, ends, yields, ended, as_object}
use Rattle.value_held.specs.Given.{kinds_in}
use Rattle.value_fields.specs.Wants.{Holds}
use Rattle.value_results.specs.declared.Task.{Task}
use Rattle.value_results.specs.declared.Task.TheVariants.{OfOperation, OfField}
use Rattle.value_results.specs.declared.RefusedValue.{RefusedValue}

-- ---- results

-- the numbers that are kept of variables
abbrev pub held_room : ℕ
held_room = 448

-- an operation's variables, from what the variables text gives
abbrev pub coerced_variables : List ℕ → Doc → ℕ → Doc → Out Pairs
coerced_variables t d op d1 = variables_of (kinds_in t) (given_in d1) (variable_dues d op)

-- the arguments of the field at a row, where these variables have values
abbrev pub argued : List ℕ → Doc → ℕ → Pairs → Out Tree
argued t d row ps =
    in_object (λ δ rest. or_default (kinds_in t) (placed input_document d row) δ δ.default rest) (heads (arguments_at input_document d row))
    (givens (kinds_in t) (value_in ps) (arguments_at input_document d row)) (argument_dues (field_at (table_of t) d row))

abbrev pub result_of : List ℕ → Doc → ℕ → Doc → Task → Out Tree
result_of t d op d1 OfOperation = as_object (coerced_variables t d op d1)
result_of t d op d1 (OfField row start end) = and_then (coerced_variables t d op d1) (argued t d row)

-- up to where a value is written; one past its end where there is none
abbrev pub written_of : Result ℕ RefusedValue → ℕ
written_of (Ok at) = at
written_of (Err f) = most_coerced + 1

-- the number of a refusal, and what it shows; a value that is not refused is too long
abbrev pub refusal_of : Result ℕ RefusedValue → Ending
refusal_of (Ok at) = ends refuse_too_long []
refusal_of (Err f) = ends refuse_value (f.text ∷ f.row ∷ f.why ∷ [])

-- how the call ends by it, where these bytes stand in the output
abbrev pub outcome_of : Result ℕ RefusedValue → List ℕ → Ending
outcome_of r v = cond (leb (written_of r) most_coerced) (yields (take (written_of r) v)) (refusal_of r)

-- the code comes to this result, where these bytes stand in the output
pub record Gives (o : Out Tree) (v : List ℕ) (r : Result ℕ RefusedValue) : Type 0 where
  pub same : ended o ≡ outcome_of r v

-- ---- what is asked

-- few variables, and room for what is kept of them and for the value
pub record Few (d : Doc) (op : ℕ) (held out : List ℕ) : Type 0 where
  pub few : length (definitions_of d op) ≤ most_variables
  pub held_size : length held ≡ held_room
  pub out_size : length out ≡ most_coerced

-- the row is one of the document's, and there stand the definitions of its field's arguments
pub record FieldServes (t : List ℕ) (d : Doc) (row start end : ℕ) : Type 0 where
  pub there : row ≤ count d
  pub holds : Holds t (field_at (table_of t) d row) start end

abbrev pub Serves : List ℕ → Doc → Task → Type 0
Serves t d OfOperation = Unit
Serves t d (OfField row start end) = FieldServes t d row start end
