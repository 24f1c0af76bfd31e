-- Definition by definition: each bit that is set is right.
use Rattle.table_possible.specs.Possible.{Possible}
use Rattle.table_possible.proofs.fill.Given as goal

abbrev pub invariant-loop-k : goal.invariant-loop-k
invariant-loop-k l = Possible l.t l.book l.bits
