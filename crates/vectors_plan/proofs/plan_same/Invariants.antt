-- `vectors_plan::plan_same` ends and is safe: each turn takes the next number.
use Prim.Native.Nat.{◌-◌}
use Rattle.vectors_plan.proofs.plan_same.Given as goal

abbrev pub invariant-loop-i : goal.invariant-loop-i
invariant-loop-i l = Unit

abbrev pub decreases-loop-i : goal.decreases-loop-i
decreases-loop-i l = 14342 - l.i
