-- Document 01's eleven examples, over one list: calls with their answers. What a call is, and what it is to tell something, stands in
-- `ExamplesWords`, by the calls' statements (`Parsed`, `Checked`, `CoercedArguments`, `Planned`, `Walked`), which the code meets.
-- The refuted traps stand in `MainCoercions` (an Int tested after it is narrowed), `MainPlans` (a fragment marked before its skip test) and
-- `MainWalks` (fresh marks for each merged block).
-- Assumes nothing.
use mathlib.Core.List.{[], ◌∷◌, ◌++◌}
use Rattle.paper.specs.Rows.{flat}
use Rattle.paper_table.proofs.WorkedTables.{h}
use Rattle.paper_query.proofs.WorkedRules.{table_t}
use Rattle.paper_plan.proofs.ExamplesPlans.{D}
use Rattle.claims.proofs.ExamplesWords.{AllTell, all_told, ◌and◌, parse, check_table, plan, walk}
use Rattle.claims.proofs.ExamplesWords.{arguments, entry, plan_of_d, lent, none_true}
use Rattle.claims.proofs.ExamplesValuesLaws as values
use Rattle.claims.proofs.ExamplesLaws as examples

-- Each example is a call, the numbers of its report, and those of its output; both buffers hold zeros behind them. `arguments` coerces
-- those of the field at a row of `document_e`; `h` is a house field: tag, length, content; 11 shows text, row and reason. (8) is two calls.
-- The walks are of the plan that (8) leaves, for T's records 1, Fan, and 2, Pump: pairs of key number and row. 9 shows definition and rule;
-- 65,535 is none.
pub examples_1_to_11 : AllTell (
    -- (1) 2147483647 is an Int; (2) 2147483648 is none
    (arguments 3, 0 ∷ 17 ∷ [], h 39 (entry "x" (h 33 (0x7f ∷ 0xff ∷ 0xff ∷ 0xff ∷ [])))) ∷
    (arguments 6, 11 ∷ 0 ∷ 8 ∷ 2 ∷ [], []) ∷
    -- (3) -2147483648 is an Int; (4) -2147483649 is none
    (arguments 9, 0 ∷ 17 ∷ [], h 39 (entry "x" (h 33 (0x80 ∷ 0 ∷ 0 ∷ 0 ∷ [])))) ∷
    (arguments 12, 11 ∷ 0 ∷ 14 ∷ 2 ∷ [], []) ∷
    -- for {a: String, b: Int!}: (5) { a: "abc" } reason 3; (6) { a: null, b: 1 } kept; (7) { a: $var, b: 1 } unset gives b alone
    (arguments 15, 11 ∷ 0 ∷ 17 ∷ 3 ∷ [], []) ∷
    (arguments 20, 0 ∷ 38 ∷ [], h 39 (entry "in" (h 39 (entry "a" (h 32 []) ++ entry "b" (h 33 (0 ∷ 0 ∷ 0 ∷ 1 ∷ [])))))) ∷
    (arguments 27, 0 ∷ 28 ∷ [], h 39 (entry "in" (h 39 (entry "b" (h 33 (0 ∷ 0 ∷ 0 ∷ 1 ∷ [])))))) ∷
    -- (8) D has 20 rows, 4 blocks and 11 steps
    (parse D.bytes, 0 ∷ 20 ∷ [], flat D.rows) ∷
    (plan table_t D.bytes [], 0 ∷ 4 ∷ 11 ∷ [], plan_of_d) ∷
    -- (9) D's blocks 1 and 2 merged for Fan: tag 4, tag 10, rpm 13; (10) for Pump: tag 4, tag 10
    (walk table_t (lent plan_of_d) 1 (1 ∷ 2 ∷ []) none_true, 0 ∷ 3 ∷ [], 4 ∷ 4 ∷ 4 ∷ 10 ∷ 13 ∷ 13 ∷ []) ∷
    (walk table_t (lent plan_of_d) 2 (1 ∷ 2 ∷ []) none_true, 0 ∷ 2 ∷ [], 4 ∷ 4 ∷ 4 ∷ 10 ∷ []) ∷
    -- (11) an empty table: rule 16 at definition 0
    (check_table [], 9 ∷ 0 ∷ 16 ∷ 65535 ∷ 65535 ∷ 65535 ∷ [], []) ∷
    [])
examples_1_to_11 =
    examples.got 3 _ (values.seven_end).0 and
    examples.no_value 6 11 (0 ∷ 8 ∷ 2 ∷ []) (values.seven_end).1 and
    examples.got 9 _ (values.seven_end).2 and
    examples.no_value 12 11 (0 ∷ 14 ∷ 2 ∷ []) (values.seven_end).3 and
    examples.no_value 15 11 (0 ∷ 17 ∷ 3 ∷ []) (values.seven_end).4 and
    examples.got 20 _ (values.seven_end).5 and
    examples.got 27 _ (values.seven_end).6 and
    examples.rows_told and
    examples.plan_told and
    examples.fan_told and
    examples.pump_told and
    examples.empty_told and
    all_told
