-- Spread by spread, along the rows of that kind.
use Prim.Native.Nat.{◌-◌}
use Rattle.query_rows.specs.Rowed.{doc_of}
use Rattle.query_spreads.proofs.TargetLaws.{Targeting}
use Rattle.query_spreads.proofs.targets.Given as goal

abbrev pub invariant-loop-i : goal.invariant-loop-i
invariant-loop-i l = Targeting (doc_of l.s l.rows l.n) l.target l.i

abbrev pub decreases-loop-i : goal.decreases-loop-i
decreases-loop-i l = l.n - l.i
