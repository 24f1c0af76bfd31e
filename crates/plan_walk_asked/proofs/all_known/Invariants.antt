-- `all_known` meets its contract: the blocks before this one are the plan's.
use Prim.Native.Nat.{ℕ, ◌<◌}
use mathlib.Core.Path.{◌≡◌}
use lib.ListN.{get_or}
use Rattle.paper_plan.specs.PlanNumbers.{blocks_in}
use Rattle.plan_walk_asked.proofs.all_known.Given as goal

abbrev pub invariant-loop-b : goal.invariant-loop-b
invariant-loop-b l = (l.n ≡ blocks_in l.p) × ((i : ℕ) → i < l.b-index → get_or l.blocks i 0 < blocks_in l.p)
