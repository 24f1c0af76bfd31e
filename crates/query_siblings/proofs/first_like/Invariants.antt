-- Along the rows beside row i: the first that is like it from here on is the first of all.
use Prim.Native.Nat.{◌-◌}
use Rattle.query_siblings.proofs.BesideLaws.{Liking}
use Rattle.query_siblings.proofs.first_like.Given as goal

abbrev pub invariant-loop-j : goal.invariant-loop-j
invariant-loop-j l = Liking l.s l.rows l.n l.i l.j

abbrev pub decreases-loop-j : goal.decreases-loop-j
decreases-loop-j l = l.n - l.j
