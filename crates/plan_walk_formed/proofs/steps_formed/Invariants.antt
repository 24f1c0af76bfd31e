use Prim.Native.Nat.{ℕ, ◌≤◌, ◌<◌}
use Rattle.paper_table.specs.Types.{table_of}
use Rattle.paper_plan.specs.PlanNumbers.{Formed}
use Rattle.plan_walk_formed.proofs.steps_formed.Given as goal

abbrev pub invariant-loop-i : goal.invariant-loop-i
invariant-loop-i l = (j : ℕ) → l.from ≤ j → j < l.i → Formed (table_of l.t) l.p l.end j
