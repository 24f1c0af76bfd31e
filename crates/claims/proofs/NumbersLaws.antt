-- The answer of each of the seven calls is 0 or the number of one of the sixteen refusals.
use mathlib.Core.Bool.{Bool, true, false, cond}
use mathlib.Core.List.{List, []}
use Prim.Native.Nat.{ℕ, ◌≤◌}
use native.Mathlib.Omega.{arith}
use lib.Dec.{leb}
use lib.ListN.{length}
use Rattle.paper.specs.Refusals.{number_of}
use Rattle.paper.specs.Calls as parse
use Rattle.paper.specs.Calls.{Parsed}
use Rattle.paper.specs.declared.Refusal.{Refusal}
use Rattle.paper.specs.declared.Refusal.TheVariants.{Buffer, OverLength, NoToken, NoGoing, TooDeep, TooManyRows, TooMany}
use Rattle.paper_table.specs.Judging.{judge, table_number}
use Rattle.paper_table.specs.TableCalls as table-calls
use Rattle.paper_table.specs.TableCalls.{Checked}
use Rattle.paper_table.specs.declared.TableAnswer.{TableAnswer}
use Rattle.paper_table.specs.declared.TableAnswer.TheVariants as answers
use Rattle.paper_query.specs.DocumentCalls as check
use Rattle.paper_query.specs.DocumentCalls.{CheckedDocument}
use Rattle.paper_query.specs.Opening.{Opened, stops, table_refused, text_refused, rule_broken, no_operation}
use Rattle.paper_values.specs.ValueNumbers.{refuse_too_long, most_coerced}
use Rattle.paper_values.specs.Values.{Tree, Out, Got, No}
use Rattle.paper_values.specs.Encoding.{encode}
use Rattle.paper_values.specs.ValueCalls as values
use Rattle.paper_values.specs.ValueCalls.{Ending, ends, yields, ended, as_object, VariablesEnd, ArgumentsEnd, Coerced, CoercedVariables, CoercedArguments}
use Rattle.paper_plan.specs.PlanCalls as plan
use Rattle.paper_plan.specs.PlanCalls.{Planned}
use Rattle.paper_plan.specs.WalkCalls as walk
use Rattle.paper_plan.specs.WalkCalls.{Walked}

abbrev Refusals : ℕ
Refusals = 16

refusal_number : (r : Refusal) → number_of r ≤ Refusals
refusal_number Buffer = omega arith
refusal_number (OverLength input) = omega arith
refusal_number (NoToken at) = omega arith
refusal_number (NoGoing at) = omega arith
refusal_number (TooDeep at) = omega arith
refusal_number (TooManyRows at) = omega arith
refusal_number (TooMany at) = omega arith

table_number_is : (a : TableAnswer) → table_number a ≤ Refusals
table_number_is answers.Accepted = omega arith
table_number_is (answers.Framing at) = omega arith
table_number_is (answers.TooMany at) = omega arith
table_number_is (answers.Breaks i k m p a) = omega arith

-- what stops an opening
stop_number : {table document name shown : List ℕ} {k : ℕ} → Opened table document name (stops k shown) → k ≤ Refusals
stop_number (table_refused {a} j n) = table_number_is a
stop_number (text_refused {r} j k s) = refusal_number r
stop_number (rule_broken j k s q) = omega arith
stop_number (no_operation a q) = omega arith

-- how a coercing call ends
abbrev Numbered : Ending → Type 0
Numbered (ends k shown) = k ≤ Refusals
Numbered (yields bs) = Unit {0}

ended_number : (o : Out Tree) → Numbered (ended o)
ended_number (No i w) = omega arith
ended_number (Got t) = go (leb (length (encode t)) most_coerced)
  where
    go : (b : Bool) → Numbered (cond b (yields (encode t)) (ends refuse_too_long []))
    go true = tt
    go false = omega arith

variables_number : {table document name variables : List ℕ} (e : Ending) → VariablesEnd table document name variables e → Numbered e
variables_number e (values.nothing_opened p) = stop_number p
variables_number e (values.text_refused {r} p k s) = refusal_number r
variables_number e (values.variables_coerced {o} p k s c) = ended_number (as_object o)

arguments_number : {table document name variables : List ℕ} {row : ℕ} (e : Ending) → ArgumentsEnd table document name variables row e → Numbered e
arguments_number e (values.no_operation_opened p) = stop_number p
arguments_number e (values.no_field_reached p n) = omega arith
arguments_number e (values.variables_unread {r} p f k s) = refusal_number r
arguments_number e (values.arguments_coerced {o} p f k s c) = ended_number o

module _ (End : Ending → Type 0) (numbered : (e : Ending) → End e → Numbered e) where
  coerced_number : {table document variables value report value' report' : List ℕ} {a : ℕ} → Coerced End table document variables value report value' report' a → a ≤ Refusals
  coerced_number (values.short_report h e f) = omega arith
  coerced_number (values.short_value h w e f) = omega arith
  coerced_number (values.long_document h w e f) = omega arith
  coerced_number (values.long_variables h v w e f) = omega arith
  coerced_number (values.long_table h u v w e f) = omega arith
  coerced_number (values.refused {k} {shown} l s d e f) = numbered (ends k shown) d
  coerced_number (values.answered l s d e f) = omega arith

-- ---- the seven calls

pub parse_number : {document rows report rows' report' : List ℕ} {a : ℕ} → Parsed document rows report rows' report' a → a ≤ 16
parse_number (parse.short_report h e f) = omega arith
parse_number (parse.short_rows h w e f) = omega arith
parse_number (parse.over_length h w m e f) = omega arith
parse_number (parse.refuses_text {r} h w m k s e f) = refusal_number r
parse_number (parse.reads h w m k s e f) = omega arith

pub table_number_of : {table report report' : List ℕ} {a : ℕ} → Checked table report report' a → a ≤ 16
table_number_of (table-calls.short_report h e) = omega arith
table_number_of (table-calls.over_length h m e) = omega arith
table_number_of {table} (table-calls.judges h m e) = table_number_is (judge table)

pub check_number : {table document rows report rows' report' : List ℕ} {a : ℕ} → CheckedDocument table document rows report rows' report' a → a ≤ 16
check_number (check.short_report h e f) = omega arith
check_number (check.short_rows h w e f) = omega arith
check_number (check.long_document h w e f) = omega arith
check_number (check.long_table h v w e f) = omega arith
check_number (check.refuses_table {a} h s j n e f) = table_number_is a
check_number (check.refuses_text {r} h s j k d e f) = refusal_number r
check_number (check.breaks_rule h s j k d q e f) = omega arith
check_number (check.accepts h s j k d q e f) = omega arith

pub variables_answer : (table document name variables : List ℕ) {value report value' report' : List ℕ} {a : ℕ} → CoercedVariables table document name variables value report value' report' a → a ≤ 16
variables_answer table document name variables = coerced_number (VariablesEnd table document name variables) variables_number

pub arguments_answer : (table document name variables : List ℕ) (row : ℕ) {value report value' report' : List ℕ} {a : ℕ} → CoercedArguments table document name variables row value report value' report' a → a ≤ 16
arguments_answer table document name variables row = coerced_number (ArgumentsEnd table document name variables row) arguments_number

pub plan_number : {table document name plan report plan' report' : List ℕ} {a : ℕ} → Planned table document name plan report plan' report' a → a ≤ 16
plan_number (plan.short_report h e f) = omega arith
plan_number (plan.short_plan h w e f) = omega arith
plan_number (plan.long_document h w e f) = omega arith
plan_number (plan.long_table h v w e f) = omega arith
plan_number (plan.refuses_opening h s o e f) = stop_number o
plan_number (plan.too_many_steps h s p m e f) = omega arith
plan_number (plan.plans h s p m e f) = omega arith

pub walk_number : {table plan : List ℕ} {object : ℕ} {blocks variables pairs report pairs' report' : List ℕ} {a : ℕ} → Walked table plan object blocks variables pairs report pairs' report' a → a ≤ 16
walk_number (walk.short_report h e f) = omega arith
walk_number (walk.short_pairs h w e f) = omega arith
walk_number (walk.long_table h w e f) = omega arith
walk_number (walk.refuses_table {a} h l j n e f) = table_number_is a
walk_number (walk.refuses_walk h r c e f) = omega arith
walk_number (walk.too_many_pairs h r c m e f) = omega arith
walk_number (walk.lists h r c m e f) = omega arith
