-- What `gw_walk` promises, in the manner of `Main`: each theorem is stated in full, and its proof is one name.
-- What the words mean, and is to be believed, stands in `crates/paper_plan/specs`, and in the specs that `Main` names.
-- Assumes nothing.
use mathlib.Core.Path.{◌≡◌}
use mathlib.Core.Bool.{Bool, true}
use mathlib.Core.List.{List, ◌∷◌, [], ◌++◌, map}
use mathlib.Core.Logic.{◌⊎◌, ◌↔◌}
use Prim.Native.Nat.{ℕ, ◌-◌, ◌*◌, ◌≤◌, ◌<◌}
use Prim.Native.String.{String}
use lib.Dec.{eqb}
use lib.ListN.{length, get_or, take, drop, replicate}
use Rattle.paper.specs.Numbers.{report_size}
use Rattle.paper.specs.Rows.{Row}
use Rattle.paper.specs.Calls.{filled}
use Rattle.paper_table.specs.Lists.{bytes}
use Rattle.paper_table.specs.TableNumbers.{most_table}
use Rattle.paper_table.specs.Types.{table_of, is_object}
use Rattle.paper_table.specs.Judging.{judge, table_number}
use Rattle.paper_table.specs.TableCalls.{tells_table}
use Rattle.paper_table.specs.declared.TableAnswer.TheVariants.{Accepted}
use Rattle.paper_query.specs.Enclosing.{definition_at}
use Rattle.paper_query.specs.DocumentCalls.{read}
use Rattle.paper_query.specs.Opening.{AcceptedDocument}
use Rattle.paper_query.proofs.WorkedRules.{table_t}
use Rattle.paper_plan.specs.Keys.{key_at}
use Rattle.paper_plan.specs.Applies.{applies}
use Rattle.paper_plan.specs.Collecting.{Grouped, elem, Pair}
use Rattle.paper_plan.specs.Planning.{walk_answer}
use Rattle.paper_plan.specs.PlanNumbers.{plan_size, plan_numbers, WellFormed}
use Rattle.paper_plan.specs.Selecting.{Name, Collects, pairs_of, block_in, plan_for}
use Rattle.paper_plan.specs.LentPlan.{is_one, pair_numbers}
use Rattle.paper_plan.specs.WalkNumbers.{most_pairs, most_walked, pairs_size, variables_size}
use Rattle.paper_plan.specs.WalkCalls.{CanWalk, listed, WalkLent, Right, Walked}
use Rattle.paper_plan.proofs.ExamplesPlans.{D, plan_d, unset, walked}
use Rattle.paper_plan.proofs.TrapsPlans.{freshly}
use Rattle.paper_plan.proofs.TrapsPlans as traps
use Rattle.paper_plan.proofs.WalkCallsOne as walk-calls
use Rattle.gateway.proofs.walk.gw_walk.Statement as gw-walk
use Rattle.gateway.proofs.walk.gw_walk.Met as gw-walk-met
use Rattle.plan_walk_answer.proofs.SomeLaws as some
use Rattle.plan_walk_answer.proofs.CollectsLaws as collects
use Rattle.plan_walk_answer.proofs.FirstLaws as first
use Rattle.claims.proofs.WalksLaws as walks
use Rattle.claims.proofs.PlansExampleLaws as examples

-- `gw_walk` meets the contract in `crates/gateway/src/walk.rt`, which is `Walked`: for every table, plan, object, blocks, variables, pairs buffer and report of any
-- length and content it says the answer and every number of both buffers. So it ends and harms nothing on every ill-formed plan.
pub gw_walk_meets : {M : Type 1} → gw-walk.statement M
gw_walk_meets = gw-walk-met.met

-- Two results that satisfy it are equal.
pub gw_walk_one : {table plan : List ℕ} {object : ℕ} {blocks variables pairs report pairs' report' pairs'' report'' : List ℕ} {a a' : ℕ} →
    Walked table plan object blocks variables pairs report pairs' report' a → Walked table plan object blocks variables pairs report pairs'' report'' a' →
    (a ≡ a') × (pairs' ≡ pairs'') × (report' ≡ report'')
gw_walk_one = walk-calls.walked_one

-- Some result satisfies it, whatever the inputs and the buffers.
pub gw_walk_some : (table plan : List ℕ) (object : ℕ) (blocks variables pairs report : List ℕ) →
    (pairs' report' : List ℕ) × (a : ℕ) × Walked table plan object blocks variables pairs report pairs' report' a
gw_walk_some = some.walked_some

-- 0 exactly when the buffers are lent, the table is accepted, all is so that a walk asks, and at most 512 pairs are listed.
pub walk_lists_exactly : {table plan : List ℕ} {object : ℕ} {blocks variables pairs report pairs' report' : List ℕ} {a : ℕ} →
    Walked table plan object blocks variables pairs report pairs' report' a →
    (a ≡ 0) ↔ (WalkLent pairs report × Right table × CanWalk (table_of table) plan object blocks variables × (length (listed (table_of table) plan object blocks variables) ≤ most_pairs))
walk_lists_exactly = walks.listed_exactly

-- 14 exactly when something is not so that a walk asks: the plan is not well-formed, a block unknown, the record no object's, over 64 blocks or fewer than 64 variables.
pub walk_refused_exactly : {table plan : List ℕ} {object : ℕ} {blocks variables pairs report pairs' report' : List ℕ} {a : ℕ} →
    Walked table plan object blocks variables pairs report pairs' report' a →
    (a ≡ 14) ↔ (WalkLent pairs report × Right table × (CanWalk (table_of table) plan object blocks variables → ⊥))
walk_refused_exactly = walks.refused_exactly

-- 15 exactly when all is so and over 512 pairs are listed.
pub walk_too_many_exactly : {table plan : List ℕ} {object : ℕ} {blocks variables pairs report pairs' report' : List ℕ} {a : ℕ} →
    Walked table plan object blocks variables pairs report pairs' report' a →
    (a ≡ 15) ↔ (WalkLent pairs report × Right table × CanWalk (table_of table) plan object blocks variables × (most_pairs < length (listed (table_of table) plan object blocks variables)))
walk_too_many_exactly = walks.many_exactly

-- Success leaves the pairs and zeros, and their count.
pub walk_success : {table plan : List ℕ} {object : ℕ} {blocks variables pairs report pairs' report' : List ℕ} {a : ℕ} →
    Walked table plan object blocks variables pairs report pairs' report' a → a ≡ 0 →
    (take pairs_size pairs' ≡ pair_numbers (listed (table_of table) plan object blocks variables) ++ replicate (pairs_size - 2 * length (listed (table_of table) plan object blocks variables)) 0)
    × (take 2 report' ≡ 0 ∷ length (listed (table_of table) plan object blocks variables) ∷ [])
walk_success = walks.pairs_listed

-- Half of demand 3: of the numbers of an accepted document's plan, with any numbers behind them, the walk of the blocks of some of its fields (repeats too) leaves the response keys
-- and fields that the draft's field collection gives for their merged selection sets, in the same order, if there are at most 512, and answers 15 otherwise.
pub walk_collects : (table document : List ℕ) (rs : List Row) → AcceptedDocument table document rs → (op : ℕ) (rows more : List ℕ) (object : ℕ) (holders variables : List ℕ) →
    ((j : ℕ) → j < length holders → elem eqb (get_or holders j 0) rows ≡ true) →
    WellFormed (table_of table) (plan_numbers (plan_for (table_of table) (read document rs) op rows) ++ more) →
    is_object (definition_at (table_of table) object) ≡ true → length holders ≤ most_walked → variables_size ≤ length variables →
    (g : Grouped Name) → Collects (table_of table) (read document rs) op (is_one variables) object holders g →
    (pairs report pairs' report' : List ℕ) (a : ℕ) → WalkLent pairs report → length table ≤ most_table →
    Walked table (plan_numbers (plan_for (table_of table) (read document rs) op rows) ++ more) object (map (block_in rows) holders) variables pairs report pairs' report' a →
    ((length (pairs_of (read document rs) g) ≤ most_pairs) × (a ≡ 0) × (pairs' ≡ filled pairs_size (pair_numbers (pairs_of (read document rs) g)) pairs)
    × (report' ≡ filled report_size (0 ∷ length (pairs_of (read document rs) g) ∷ []) report))
    ⊎ ((most_pairs < length (pairs_of (read document rs) g)) × (a ≡ 15) × (pairs' ≡ filled pairs_size [] pairs) × (report' ≡ filled report_size (15 ∷ []) report))
walk_collects table document rs d op rows more object holders variables h = collects.walked_collects table document rs d op rows more object holders variables (walks.among rows holders h)

-- Of a plan with more than 14,338 numbers the first of them do as well: more are not read.
pub walk_reads_first_numbers : (table plan : List ℕ) (object : ℕ) (blocks variables pairs report pairs' report' : List ℕ) (a : ℕ) → plan_size ≤ length plan →
    Walked table plan object blocks variables pairs report pairs' report' a → Walked table (take plan_size plan) object blocks variables pairs report pairs' report' a
walk_reads_first_numbers table plan object blocks variables pairs report pairs' report' a h = first.walked_first table plan object blocks variables pairs report pairs' report' h

-- The order: a table's refusal comes before what a walk asks.
pub walk_table_first : {table plan : List ℕ} {object : ℕ} {blocks variables pairs report pairs' report' : List ℕ} {a : ℕ} →
    Walked table plan object blocks variables pairs report pairs' report' a →
    WalkLent pairs report → length table ≤ most_table → (judge table ≡ Accepted → ⊥) → (a ≡ table_number (judge table)) × (report' ≡ tells_table (judge table) report)
walk_table_first = walks.first_the_table

-- Refusals 1 and 2 touch no other buffer, and a shorter report is untouched itself; the other refusals zero the fixed size of the pairs.
pub walk_refusals_1_and_2_keep_pairs : {table plan : List ℕ} {object : ℕ} {blocks variables pairs report pairs' report' : List ℕ} {a : ℕ} →
    Walked table plan object blocks variables pairs report pairs' report' a → (a ≡ 1) ⊎ (a ≡ 2) → pairs' ≡ pairs
walk_refusals_1_and_2_keep_pairs = walks.pairs_kept

pub walk_short_report_is_kept : {table plan : List ℕ} {object : ℕ} {blocks variables pairs report pairs' report' : List ℕ} {a : ℕ} →
    Walked table plan object blocks variables pairs report pairs' report' a → length report < report_size → (a ≡ 1) × (pairs' ≡ pairs) × (report' ≡ report)
walk_short_report_is_kept = walks.short_kept

pub walk_refusals_zero_pairs : {table plan : List ℕ} {object : ℕ} {blocks variables pairs report pairs' report' : List ℕ} {a : ℕ} →
    Walked table plan object blocks variables pairs report pairs' report' a → 2 < a → take pairs_size pairs' ≡ replicate pairs_size 0
walk_refusals_zero_pairs = walks.pairs_zeroed

-- The report begins with the answer; beyond the fixed sizes nothing is written.
pub walk_report_tells : {table plan : List ℕ} {object : ℕ} {blocks variables pairs report pairs' report' : List ℕ} {a : ℕ} →
    Walked table plan object blocks variables pairs report pairs' report' a → report_size ≤ length report → (ns : List ℕ) × (report' ≡ a ∷ ns)
walk_report_tells = walks.report_tells

pub walk_pairs_tail : {table plan : List ℕ} {object : ℕ} {blocks variables pairs report pairs' report' : List ℕ} {a : ℕ} →
    Walked table plan object blocks variables pairs report pairs' report' a → (length pairs' ≡ length pairs) × (drop pairs_size pairs' ≡ drop pairs_size pairs)
walk_pairs_tail = walks.pairs_tail

pub walk_report_tail : {table plan : List ℕ} {object : ℕ} {blocks variables pairs report pairs' report' : List ℕ} {a : ℕ} →
    Walked table plan object blocks variables pairs report pairs' report' a → (length report' ≡ length report) × (drop report_size report' ≡ drop report_size report)
walk_report_tail = walks.report_tail

-- ---- 01'S EXAMPLES (9) AND (10), ON 01'S TABLE T AND DOCUMENT D (whose plan `example_8` of `MainPlans` has)

-- a pair, its response key by name
abbrev named : Pair → Name × ℕ
named p = (key_at D p.0, p.1)

-- D's blocks 1 and 2 merged for Fan, T's record 1: tag 4, tag 10, rpm 13. This is what the draft collects for Fan of the selection sets of the rows 1 and 7.
pub example_9 : (walk_answer unset (λ k. applies (table_of table_t) k 1) plan_d (1 ∷ 2 ∷ []) ≡ (4, 4) ∷ (4, 10) ∷ (13, 13) ∷ [])
    × (map named ((4, 4) ∷ (4, 10) ∷ (13, 13) ∷ []) ≡ (bytes "tag", 4) ∷ (bytes "tag", 10) ∷ (bytes "rpm", 13) ∷ [])
    × ((g : Grouped Name) × Collects (table_of table_t) D 0 unset 1 (1 ∷ 7 ∷ []) g × (pairs_of D g ≡ (4, 4) ∷ (4, 10) ∷ (13, 13) ∷ []))
example_9 = examples.nine

-- For Pump, record 2: tag 4, tag 10.
pub example_10 : (walk_answer unset (λ k. applies (table_of table_t) k 2) plan_d (1 ∷ 2 ∷ []) ≡ (4, 4) ∷ (4, 10) ∷ [])
    × (map named ((4, 4) ∷ (4, 10) ∷ []) ≡ (bytes "tag", 4) ∷ (bytes "tag", 10) ∷ [])
    × ((g : Grouped Name) × Collects (table_of table_t) D 0 unset 2 (1 ∷ 7 ∷ []) g × (pairs_of D g ≡ (4, 4) ∷ (4, 10) ∷ []))
example_10 = examples.ten

-- 01's trap: a walk with fresh marks for each merged block lists other pairs.
pub fresh_marks_differ : ((s : String) (vars : ℕ → Bool) (bs : List ℕ) → freshly s vars bs ≡ walked s vars bs) → ⊥
fresh_marks_differ = traps.fresh_marks_differ
