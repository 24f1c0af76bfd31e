-- What is left of an operation that was opened.
-- Assumes nothing.
use Rattle.std.specs.Prelude.{◌≡◌, List, [], ◌∷◌, ◌⊎◌, ℕ, ◌≤◌, ◌<◌, length}
use Rattle.paper.specs.Numbers.{report_size, accepted}
use Rattle.paper.specs.Calls.{filled}
use Rattle.paper_table.specs.Types.{Table}
use Rattle.paper_query.specs.Constructs.{Doc}
use Rattle.paper_plan.specs.Selecting.{BlockRows, plan_for}
use Rattle.paper_plan.specs.PlanNumbers.{plan_size, most_steps, plan_numbers}
use Rattle.paper_plan.specs.PlanCalls.{refuse_too_many_steps}

-- too many steps, or the plan
pub record TooManyTold (t : Table) (d : Doc) (o : ℕ) (blocks plan plan' report report' : List ℕ) (r : ℕ) : Type 0 where
  pub many : most_steps < length (plan_for t d o blocks).steps
  pub answer : r ≡ refuse_too_many_steps
  pub cleared : plan' ≡ filled plan_size [] plan
  pub told : report' ≡ filled report_size (refuse_too_many_steps ∷ []) report

pub record PlanTold (t : Table) (d : Doc) (o : ℕ) (blocks plan plan' report report' : List ℕ) (r : ℕ) : Type 0 where
  pub few : length (plan_for t d o blocks).steps ≤ most_steps
  pub answer : r ≡ accepted
  pub written : plan' ≡ filled plan_size (plan_numbers (plan_for t d o blocks)) plan
  pub told : report' ≡ filled report_size (accepted ∷ length (plan_for t d o blocks).first ∷ length (plan_for t d o blocks).steps ∷ []) report

pub record Left (t : Table) (d : Doc) (o : ℕ) (plan plan' report report' : List ℕ) (r : ℕ) : Type 0 where
  pub blocks : List ℕ
  pub their : BlockRows d o blocks
  pub left : TooManyTold t d o blocks plan plan' report report' r ⊎ PlanTold t d o blocks plan plan' report report' r
