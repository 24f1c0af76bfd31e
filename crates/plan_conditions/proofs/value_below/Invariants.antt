use Prim.Native.Nat.{◌-◌}
use Rattle.plan_conditions.proofs.ConditionLaws.{Valuing}
use Rattle.plan_conditions.proofs.value_below.Given as goal

abbrev pub invariant-loop-j : goal.invariant-loop-j
invariant-loop-j l = Valuing l.rows l.n l.a l.j

abbrev pub decreases-loop-j : goal.decreases-loop-j
decreases-loop-j l = l.n - l.j
