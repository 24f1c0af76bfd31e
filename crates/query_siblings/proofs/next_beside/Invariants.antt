-- Along the rows beside row j: the first of the kind from here on is the first from row j on.
use Prim.Native.Nat.{◌-◌}
use Rattle.query_siblings.proofs.BesideLaws.{Seeking}
use Rattle.query_siblings.proofs.next_beside.Given as goal

abbrev pub invariant-loop-m : goal.invariant-loop-m
invariant-loop-m l = Seeking l.rows l.n l.k l.j l.m

abbrev pub decreases-loop-m : goal.decreases-loop-m
decreases-loop-m l = l.n - l.m
