use mathlib.Core.Path.{◌≡◌}
use Prim.Native.Nat.{◌≤◌}
use Rattle.plan_walk_blocks.specs.Answers.{before}
use Rattle.plan_walk_blocks.proofs.came_before.Given as goal

abbrev pub invariant-loop-j : goal.invariant-loop-j
invariant-loop-j l = (l.j ≤ l.i) × (before l.found l.i l.key ≡ before l.found l.j l.key)
