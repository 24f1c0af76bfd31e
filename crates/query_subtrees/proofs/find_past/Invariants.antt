-- From row to row, each over its own subtree.
use Prim.Native.Nat.{◌-◌}
use Rattle.query_rows.specs.Rowed.{rows_in}
use Rattle.query_subtrees.proofs.Hops.{Hops}
use Rattle.query_subtrees.proofs.find_past.Given as goal

abbrev pub invariant-loop-j : goal.invariant-loop-j
invariant-loop-j l = Hops (rows_in l.rows l.n) l.n l.i l.j

abbrev pub decreases-loop-j : goal.decreases-loop-j
decreases-loop-j l = l.n - l.j
