-- Which blocks a plan has, for what a walk asks.
-- Assumes nothing.
use Rattle.std.specs.Prelude.{List, ℕ, ◌<◌, length, get_or}
use Rattle.paper_plan.specs.PlanNumbers.{blocks_in}

-- the plan has these blocks
abbrev pub Known : List ℕ → List ℕ → Type 0
Known p blocks = (j : ℕ) → j < length blocks → get_or blocks j 0 < blocks_in p
