-- Definition by definition, as long as one waits: each row is put on the stack once at most.
use Prim.Native.Nat.{◌+◌}
use Rattle.query_rows.specs.Rowed.{doc_of}
use Rattle.query_reach_pass.specs.Marks.{stamp, others}
use Rattle.query_reach.proofs.SearchLaws.{Searching}
use Rattle.query_reach.proofs.reach.Given as goal

abbrev pub invariant-loop-top : goal.invariant-loop-top
invariant-loop-top l = Searching (doc_of l.s l.rows l.n) l.a l.mark l.stack l.top

abbrev pub decreases-loop-top : goal.decreases-loop-top
decreases-loop-top l = l.top + others (stamp l.a) l.mark
