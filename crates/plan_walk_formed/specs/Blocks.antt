-- A plan's well-formedness in parts, as the code tests them: its head, then block by block.
-- Assumes nothing.
use Rattle.std.specs.Prelude.{◌≡◌, List, ℕ, ◌≤◌, ◌<◌, length}
use Rattle.paper_table.specs.Types.{Table}
use Rattle.paper_plan.specs.PlanNumbers.{plan_size, most_blocks, most_steps, blocks_in, steps_in, first_in, end_in, Formed}

abbrev pub StepsFormed : Table → List ℕ → ℕ → ℕ → Type 0
StepsFormed t p from end = (i : ℕ) → from ≤ i → i < end → Formed t p end i

pub record BlockFormed (t : Table) (p : List ℕ) (b : ℕ) : Type 0 where
  pub order : first_in p b ≤ end_in p b
  pub top : end_in p b ≤ steps_in p
  pub steps : StepsFormed t p (first_in p b) (end_in p b)

pub record Headed (p : List ℕ) : Type 0 where
  pub long : plan_size ≤ length p
  pub some : 1 ≤ blocks_in p
  pub few_blocks : blocks_in p ≤ most_blocks
  pub few_steps : steps_in p ≤ most_steps
  pub zeroth : first_in p 0 ≡ 0

abbrev pub BlocksFormed : Table → List ℕ → Type 0
BlocksFormed t p = (b : ℕ) → b < blocks_in p → BlockFormed t p b
