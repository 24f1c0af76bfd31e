use mathlib.Core.Path.{◌≡◌}
use Prim.Native.Nat.{ℕ, ◌<◌}
use Rattle.paper_table.specs.Types.{table_of}
use Rattle.paper_plan.specs.PlanNumbers.{blocks_in}
use Rattle.plan_walk_formed.specs.Blocks.{BlockFormed}
use Rattle.plan_walk_formed.proofs.blocks_formed.Given as goal

abbrev pub invariant-loop-b : goal.invariant-loop-b
invariant-loop-b l = (l.n ≡ blocks_in l.p) × ((j : ℕ) → j < l.b → BlockFormed (table_of l.t) l.p j)
