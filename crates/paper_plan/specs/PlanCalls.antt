-- What gw_plan answers, and what it leaves in each buffer.
-- States: 01, "Sizes and refusals", the paragraph "Order", for a call that is given a table, a document and an operation's name; row 13:
-- "plan over 4,096 steps"; "Plan and walk", the plan's numbers.
-- Assumes nothing.
use Rattle.std.specs.Prelude.{◌≡◌, List, [], ◌∷◌, ℕ, ◌≤◌, ◌<◌, length}
use Rattle.paper.specs.Numbers.{report_size, most_text, input_document, accepted}
use Rattle.paper.specs.Rows.{Row}
use Rattle.paper.specs.Refusals.{number_of}
use Rattle.paper.specs.Calls.{filled, tells}
use Rattle.paper.specs.declared.Refusal.TheVariants.{Buffer, OverLength}
use Rattle.paper_table.specs.TableNumbers.{most_table, input_table}
use Rattle.paper_table.specs.Types.{table_of}
use Rattle.paper_query.specs.DocumentCalls.{read, Short}
use Rattle.paper_query.specs.Opening.{stops, opens, Opened}
use Rattle.paper_plan.specs.Planning.{Plan}
use Rattle.paper_plan.specs.Selecting.{BlockRows, plan_for}
use Rattle.paper_plan.specs.PlanNumbers.{plan_size, most_steps, plan_numbers}

-- the column "No."
abbrev pub refuse_too_many_steps : ℕ
refuse_too_many_steps = 13

-- the buffers are long enough
abbrev pub PlanLent : List ℕ → List ℕ → Type 0
PlanLent plan report = (report_size ≤ length report) × (plan_size ≤ length plan)

-- the plan of an operation of the document: the operation and its blocks are opened from the inputs
pub record PlanIs (table document name : List ℕ) (p : Plan) : Type 0 where
  pub rows : List Row
  pub operation : ℕ
  pub blocks : List ℕ
  pub opened : Opened table document name (opens rows operation)
  pub their : BlockRows (read document rows) operation blocks
  pub is : p ≡ plan_for (table_of table) (read document rows) operation blocks

-- gw_plan: the table's and the document's bytes, the operation's name; plan and report before and after; the answer
pub data Planned (table document name plan report plan' report' : List ℕ) : ℕ → Type 0 where
  -- a shorter report is untouched, as all else, and the answer is 1
  short_report : length report < report_size → plan' ≡ plan → report' ≡ report → Planned table document name plan report plan' report' (number_of Buffer)
  -- refusals 1 and 2 touch no other buffer; of two inputs over their lengths the least is told
  short_plan : report_size ≤ length report → length plan < plan_size →
      plan' ≡ plan → report' ≡ tells Buffer report → Planned table document name plan report plan' report' (number_of Buffer)
  long_document : PlanLent plan report → most_text < length document →
      plan' ≡ plan → report' ≡ tells (OverLength input_document) report →
      Planned table document name plan report plan' report' (number_of (OverLength input_document))
  long_table : PlanLent plan report → length document ≤ most_text → most_table < length table →
      plan' ≡ plan → report' ≡ tells (OverLength input_table) report →
      Planned table document name plan report plan' report' (number_of (OverLength input_table))
  -- the others zero the fixed size: first what stops the opening of the operation, from 7 to 12
  refuses_opening : {number : ℕ} {shown : List ℕ} → PlanLent plan report → Short table document → Opened table document name (stops number shown) →
      plan' ≡ filled plan_size [] plan → report' ≡ filled report_size (number ∷ shown) report → Planned table document name plan report plan' report' number
  -- then too many steps
  too_many_steps : {p : Plan} → PlanLent plan report → Short table document → PlanIs table document name p → most_steps < length p.steps →
      plan' ≡ filled plan_size [] plan → report' ≡ filled report_size (refuse_too_many_steps ∷ []) report →
      Planned table document name plan report plan' report' refuse_too_many_steps
  -- success: the plan's numbers, and the counts of its blocks and steps
  plans : {p : Plan} → PlanLent plan report → Short table document → PlanIs table document name p → length p.steps ≤ most_steps →
      plan' ≡ filled plan_size (plan_numbers p) plan → report' ≡ filled report_size (accepted ∷ length p.first ∷ length p.steps ∷ []) report →
      Planned table document name plan report plan' report' accepted
