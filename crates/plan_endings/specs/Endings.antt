-- Whether the plan's buffer and the inputs keep to their sizes; and what is told of a plan that was made.
-- Assumes nothing.
use Rattle.std.specs.Prelude.{◌≡◌, List, [], ◌∷◌, ℕ, suc, ◌≤◌, ◌<◌, get_or, Result, Ok, Err}
use Rattle.paper.specs.Numbers.{report_size, most_text, input_document, accepted}
use Rattle.paper.specs.Calls.{filled}
use Rattle.paper.specs.declared.Refusal.{Refusal}
use Rattle.paper.specs.declared.Refusal.TheVariants.{Buffer, OverLength}
use Rattle.paper_table.specs.TableNumbers.{most_table, input_table}
use Rattle.call_buffers.specs.Buffers.{cleared}
use Rattle.paper_plan.specs.PlanNumbers.{plan_size, most_steps}
use Rattle.paper_plan.specs.PlanCalls.{refuse_too_many_steps}

-- the first refusal that the lengths ask for: 1, then 2 with the least input
pub data PlanAsks (plan document table : ℕ) : Refusal → Type 0 where
  short_plan : plan < plan_size → PlanAsks plan document table Buffer
  long_document : plan_size ≤ plan → most_text < document → PlanAsks plan document table (OverLength input_document)
  long_table : plan_size ≤ plan → document ≤ most_text → most_table < table → PlanAsks plan document table (OverLength input_table)

abbrev pub PlanSized : ℕ → ℕ → ℕ → Result (Unit {0}) Refusal → Type 0
PlanSized plan document table (Ok u) = (plan_size ≤ plan) × (document ≤ most_text) × (table ≤ most_table)
PlanSized plan document table (Err r) = PlanAsks plan document table r

-- what is told of so many steps and left of the plan: one more than the most stands for all that are too many
pub record MadeTold (steps : ℕ) (plan plan' report report' : List ℕ) (r : ℕ) : Type 0 where
  pub too_many : steps ≡ suc most_steps → (r ≡ refuse_too_many_steps) × (plan' ≡ cleared 0 plan) × (report' ≡ filled report_size (refuse_too_many_steps ∷ []) report)
  pub counted : steps ≤ most_steps → (r ≡ accepted) × (plan' ≡ plan) × (report' ≡ filled report_size (accepted ∷ get_or plan 0 0 ∷ steps ∷ []) report)
