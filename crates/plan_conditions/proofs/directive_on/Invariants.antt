use Prim.Native.Nat.{◌-◌}
use Rattle.table_book.specs.Book.{part}
use Rattle.plan_conditions.proofs.ConditionLaws.{Directing}
use Rattle.plan_conditions.proofs.directive_on.Given as goal

abbrev pub invariant-loop-j : goal.invariant-loop-j
invariant-loop-j l = Directing l.s l.rows l.n l.i (part l.t l.at l.l) l.j

abbrev pub decreases-loop-j : goal.decreases-loop-j
decreases-loop-j l = l.n - l.j
