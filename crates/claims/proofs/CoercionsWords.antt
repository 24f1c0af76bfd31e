-- Words that the promises of the coercing calls are said with: abbreviations of what `crates/paper_values/specs` and `crates/paper_query/specs` define, no more.
-- Assumes nothing.
use mathlib.Core.List.{List, [], ◌∷◌}
use Prim.Native.Nat.{ℕ}
use lib.ListN.{length}
use Rattle.paper.specs.Numbers.{report_size, input_document, accepted}
use Rattle.paper.specs.Language.{VariablesText}
use Rattle.paper.specs.Tokens.{Text, Tokens}
use Rattle.paper.specs.Rows.{Row}
use Rattle.paper.specs.Reading.{rows_are, refuses, TextAnswer}
use Rattle.paper.specs.Calls.{filled}
use Rattle.paper.specs.declared.Refusal.{Refusal}
use Rattle.paper_table.specs.Types.{table_of}
use Rattle.paper_query.specs.Enclosing.{field_at}
use Rattle.paper_query.specs.DocumentCalls.{read}
use Rattle.paper_query.specs.Opening.{opens, Opened}
use Rattle.paper_values.specs.ValueNumbers.{most_coerced}
use Rattle.paper_values.specs.Values.{Tree, Pairs, Out}
use Rattle.paper_values.specs.Kinds.{kind_of_type}
use Rattle.paper_values.specs.RowValues.{placed, arguments_at}
use Rattle.paper_values.specs.DocumentDues.{variable_dues, given_in, argument_dues}
use Rattle.paper_values.specs.CallRules.{CoercesVariables, CoercesArguments}
use Rattle.paper_values.specs.ValueCalls.{Ending, ends, yields}

-- the operation op of the rows rs is opened, and the variables text is read as the rows vs; or it is refused
abbrev pub VariablesRead : (table document name variables : List ℕ) → List Row → ℕ → List Row → Type 0
VariablesRead table document name variables rs op vs = Opened table document name (opens rs op) × ((t : Text) × Tokens 0 variables t × TextAnswer VariablesText t (rows_are vs))

abbrev pub VariablesUnread : (table document name variables : List ℕ) → List Row → ℕ → Refusal → Type 0
VariablesUnread table document name variables rs op r = Opened table document name (opens rs op) × ((t : Text) × Tokens 0 variables t × TextAnswer VariablesText t (refuses r))

-- what the rules give for that operation's variables, and for the arguments of the field at a row
abbrev pub VariablesGive : (table document variables : List ℕ) → List Row → ℕ → List Row → Out Pairs → Type 0
VariablesGive table document variables rs op vs = CoercesVariables (kind_of_type (table_of table)) (given_in (read variables vs)) (variable_dues (read document rs) op)

abbrev pub ArgumentsGive : (table document variables : List ℕ) → ℕ → List Row → ℕ → List Row → Out Tree → Type 0
ArgumentsGive table document variables row rs op vs =
    CoercesArguments (kind_of_type (table_of table)) (given_in (read variables vs)) (variable_dues (read document rs) op) (placed input_document (read document rs) row)
    (arguments_at input_document (read document rs) row) (argument_dues (field_at (table_of table) (read document rs) row))

-- what a call that ends so answers, and leaves in value and report
abbrev pub answer_of : Ending → ℕ
answer_of (ends k shown) = k
answer_of (yields bs) = accepted

abbrev pub value_left : List ℕ → Ending → List ℕ
value_left value (ends k shown) = filled most_coerced [] value
value_left value (yields bs) = filled most_coerced bs value

abbrev pub report_left : List ℕ → Ending → List ℕ
report_left report (ends k shown) = filled report_size (k ∷ shown) report
report_left report (yields bs) = filled report_size (accepted ∷ length bs ∷ []) report
