-- What `gw_plan` promises, in the manner of `Main`: each theorem is stated in full, and its proof is one name.
-- What the words mean, and is to be believed, stands in `crates/paper_plan/specs`, and in the specs that `Main` names.
-- Assumes nothing.
use mathlib.Core.Path.{◌≡◌}
use mathlib.Core.Bool.{Bool, false}
use mathlib.Core.Option.{none}
use mathlib.Core.Logic.{◌⊎◌, ◌↔◌}
use mathlib.Core.List.{List, [], ◌∷◌, ◌++◌}
use Prim.Native.Nat.{ℕ, ◌-◌, ◌*◌, ◌≤◌, ◌<◌}
use Prim.Native.String.{String}
use lib.ListN.{length, take, drop, replicate}
use Rattle.paper.specs.Numbers.{report_size, most_text, input_document}
use Rattle.paper.specs.Rows.{Row}
use Rattle.paper.specs.Calls.{filled, tells}
use Rattle.paper.specs.declared.Refusal.TheVariants.{Buffer, OverLength}
use Rattle.paper_table.specs.Lists.{bytes}
use Rattle.paper_table.specs.TableNumbers.{most_table, input_table}
use Rattle.paper_query.specs.Constructs.{Doc}
use Rattle.paper_query.specs.DocumentCalls.{read, Short}
use Rattle.paper_query.specs.Opening.{AcceptedDocument, operation_meant, stops, opens, Opened}
use Rattle.paper_query.proofs.WorkedRules.{table_t, document}
use Rattle.paper_plan.specs.Keys.{key_number}
use Rattle.paper_plan.specs.Planning.{Plan, dropped}
use Rattle.paper_plan.specs.PlanNumbers.{plan_size, most_steps, most_blocks, plan_numbers}
use Rattle.paper_plan.specs.Selecting.{Name, if_of, IsBlock}
use Rattle.paper_plan.specs.PlanCalls.{PlanLent, PlanIs, Planned}
use Rattle.paper_plan.proofs.ExamplesPlans.{D, plan_d, walked}
use Rattle.paper_plan.proofs.ExamplesBlocks as example-blocks
use Rattle.paper_plan.proofs.TrapsPlans.{walked_by, mark_first, body_once, own_key}
use Rattle.paper_plan.proofs.TrapsPlans as traps
use Rattle.plan_theory.proofs.PlanCallsOne as plan-calls
use Rattle.gateway.proofs.plan.gw_plan.Statement as gw-plan
use Rattle.gateway.proofs.plan.gw_plan.Met as gw-plan-met
use Rattle.claims.proofs.PlansSomeLaws as some
use Rattle.claims.proofs.PlansLaws as plans
use Rattle.claims.proofs.PlansExampleLaws as examples

-- `gw_plan` meets the contract in `crates/gateway/src/plan.rt`, which is `Planned`: for every table, document, operation's name, plan buffer and report
-- of any length and content it says the answer and every number of both buffers. A plan is made before any variable's value is known: `PlanIs` and the plan's
-- numbers speak of a table, a document and a name alone.
pub gw_plan_meets : {M : Type 1} → gw-plan.statement M
gw_plan_meets = gw-plan-met.met

-- Two results that satisfy it are equal; an operation has one plan.
pub gw_plan_one : {table document name plan report plan' report' plan'' report'' : List ℕ} {a a' : ℕ} →
    Planned table document name plan report plan' report' a → Planned table document name plan report plan'' report'' a' →
    (a ≡ a') × (plan' ≡ plan'') × (report' ≡ report'')
gw_plan_one = plan-calls.planned_one

pub plan_one : {table document name : List ℕ} {p p' : Plan} → PlanIs table document name p → PlanIs table document name p' → p ≡ p'
plan_one = plan-calls.plan_one

-- Some result satisfies it, whatever the inputs and the buffers: that none does is refuted.
pub gw_plan_some : (table document name plan report : List ℕ) → ((plan' report' : List ℕ) (a : ℕ) → Planned table document name plan report plan' report' a → ⊥) → ⊥
gw_plan_some = some.planned_some

-- 0 exactly when the buffers are lent, the inputs short enough, and the operation that is opened has a plan of at most 4,096 steps.
pub plan_made_exactly : {table document name plan report plan' report' : List ℕ} {a : ℕ} → Planned table document name plan report plan' report' a →
    (a ≡ 0) ↔ (PlanLent plan report × Short table document × ((p : Plan) × PlanIs table document name p × (length p.steps ≤ most_steps)))
plan_made_exactly = plans.made_exactly

-- 13 exactly when its plan has more; an operation that is opened is answered with one of the two.
pub plan_too_many_exactly : {table document name plan report plan' report' : List ℕ} {a : ℕ} → Planned table document name plan report plan' report' a →
    (a ≡ 13) ↔ (PlanLent plan report × Short table document × ((p : Plan) × PlanIs table document name p × (most_steps < length p.steps)))
plan_too_many_exactly = plans.many_exactly

pub plan_opened_answers : {table document name plan report plan' report' : List ℕ} {a : ℕ} → Planned table document name plan report plan' report' a →
    PlanLent plan report → Short table document → (rs : List Row) (op : ℕ) → Opened table document name (opens rs op) → (a ≡ 0) ⊎ (a ≡ 13)
plan_opened_answers = plans.opened_answers

-- 12 exactly when table and document are accepted and the name means no operation.
pub plan_no_operation_exactly : {table document name plan report plan' report' : List ℕ} {a : ℕ} → Planned table document name plan report plan' report' a →
    (a ≡ 12) ↔ (PlanLent plan report × Short table document × ((rs : List Row) × AcceptedDocument table document rs × (operation_meant (read document rs) name ≡ none)))
plan_no_operation_exactly = plans.unnamed_exactly

-- The order: the plan's buffer, the document's length, the table's; then what stops the opening (`Opened`: table 7, 8, 9, document 3 to 6 and 8, 10, 12) is told;
-- and 3 to 12 tell nothing else.
pub plan_short_buffer_first : {table document name plan report plan' report' : List ℕ} {a : ℕ} → Planned table document name plan report plan' report' a →
    report_size ≤ length report → length plan < plan_size → (a ≡ 1) × (report' ≡ tells Buffer report)
plan_short_buffer_first = plans.short_told

pub plan_document_length_next : {table document name plan report plan' report' : List ℕ} {a : ℕ} → Planned table document name plan report plan' report' a →
    PlanLent plan report → most_text < length document → (a ≡ 2) × (report' ≡ tells (OverLength input_document) report)
plan_document_length_next = plans.first_the_document

pub plan_table_length_next : {table document name plan report plan' report' : List ℕ} {a : ℕ} → Planned table document name plan report plan' report' a →
    PlanLent plan report → length document ≤ most_text → most_table < length table → (a ≡ 2) × (report' ≡ tells (OverLength input_table) report)
plan_table_length_next = plans.then_the_table

pub plan_opening_next : {table document name plan report plan' report' : List ℕ} {a : ℕ} → Planned table document name plan report plan' report' a →
    PlanLent plan report → Short table document → (k : ℕ) (shown : List ℕ) → Opened table document name (stops k shown) → (a ≡ k) × (report' ≡ filled report_size (k ∷ shown) report)
plan_opening_next = plans.opening_told

pub plan_refusals_tell_the_opening : {table document name plan report plan' report' : List ℕ} {a : ℕ} → Planned table document name plan report plan' report' a → 2 < a → a < 13 →
    PlanLent plan report × Short table document × ((shown : List ℕ) × Opened table document name (stops a shown) × (report' ≡ filled report_size (a ∷ shown) report))
plan_refusals_tell_the_opening = plans.told_of_opening

-- Success leaves the plan's numbers in the 14,338 (counts, first steps, three a step), unused ones 0, and its counts of blocks and steps in the report.
pub plan_success : {table document name plan report plan' report' : List ℕ} {a : ℕ} → Planned table document name plan report plan' report' a → a ≡ 0 →
    (p : Plan) × PlanIs table document name p × (1 ≤ length p.first) × (length p.first ≤ most_blocks) × (length p.steps ≤ most_steps)
    × (take plan_size plan' ≡ plan_numbers p ++ replicate (3 * (most_steps - length p.steps)) 0) × (take 3 report' ≡ 0 ∷ length p.first ∷ length p.steps ∷ [])
plan_success = plans.plan_left

-- Refusals 1 and 2 keep the plan, and a shorter report is untouched itself; the other refusals zero the plan's 14,338 numbers.
pub plan_refusals_1_and_2_keep : {table document name plan report plan' report' : List ℕ} {a : ℕ} → Planned table document name plan report plan' report' a → (a ≡ 1) ⊎ (a ≡ 2) → plan' ≡ plan
plan_refusals_1_and_2_keep = plans.plan_kept

pub plan_short_report_is_kept : {table document name plan report plan' report' : List ℕ} {a : ℕ} → Planned table document name plan report plan' report' a →
    length report < report_size → (a ≡ 1) × (plan' ≡ plan) × (report' ≡ report)
plan_short_report_is_kept = plans.short_kept

pub plan_refusals_zero : {table document name plan report plan' report' : List ℕ} {a : ℕ} → Planned table document name plan report plan' report' a → 2 < a → take plan_size plan' ≡ replicate plan_size 0
plan_refusals_zero = plans.plan_zeroed

-- The report begins with the answer; beyond the fixed sizes nothing is written.
pub plan_report_tells : {table document name plan report plan' report' : List ℕ} {a : ℕ} → Planned table document name plan report plan' report' a → report_size ≤ length report → (ns : List ℕ) × (report' ≡ a ∷ ns)
plan_report_tells = plans.report_tells

pub plan_tail : {table document name plan report plan' report' : List ℕ} {a : ℕ} → Planned table document name plan report plan' report' a → (length plan' ≡ length plan) × (drop plan_size plan' ≡ drop plan_size plan)
plan_tail = plans.plan_tail

pub plan_report_tail : {table document name plan report plan' report' : List ℕ} {a : ℕ} → Planned table document name plan report plan' report' a →
    (length report' ≡ length report) × (drop report_size report' ≡ drop report_size report)
plan_report_tail = plans.report_tail

-- ---- 01'S EXAMPLE (8), ON 01'S TABLE T AND DOCUMENT D

-- D's bytes are accepted, with 20 rows; the plan of its operation has 4 blocks and 11 steps.
pub example_8 : AcceptedDocument table_t D.bytes D.rows × (length D.rows ≡ 20) × PlanIs table_t D.bytes [] plan_d × (length plan_d.first ≡ 4) × (length plan_d.steps ≡ 11)
example_8 = examples.eight

-- So every result of `gw_plan` tells 0, 4 and 11.
pub example_8_told : {plan report plan' report' : List ℕ} {a : ℕ} → Planned table_t D.bytes [] plan report plan' report' a → PlanLent plan report →
    (a ≡ 0) × (take 3 report' ≡ 0 ∷ 4 ∷ 11 ∷ [])
example_8_told = examples.eight_told

-- ---- WRONG DEFINITIONS OF A PLAN, each with a document on which it differs

-- 01's trap: a spread marked before its skip test lists other pairs.
pub mark_before_skip_differs : ((s : String) (vars : ℕ → Bool) → walked_by mark_first s vars ≡ walked s vars (0 ∷ [])) → ⊥
mark_before_skip_differs = traps.mark_before_skip_differs

-- So does a plan with a fragment's body at its first spread alone.
pub body_once_differs : ((s : String) (vars : ℕ → Bool) → walked_by body_once s vars ≡ walked s vars (0 ∷ [])) → ⊥
body_once_differs = traps.body_once_differs

-- Keys numbered by the operation's rows only have other numbers.
pub own_keys_differ : ((s : String) (op : ℕ) (k : Name) → own_key (document (bytes s)) op k ≡ key_number (document (bytes s)) k) → ⊥
own_keys_differ = traps.own_keys_differ

-- A dropped field has its block.
pub kept_blocks_differ : ((d : Doc) (op i : ℕ) → IsBlock d op i → dropped (if_of d op (bytes "skip") i) (if_of d op (bytes "include") i) ≡ false) → ⊥
kept_blocks_differ = example-blocks.kept_blocks_differ
