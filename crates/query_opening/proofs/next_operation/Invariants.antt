use Rattle.paper.specs.Numbers.{kind_operation}
use Rattle.paper_query.specs.Constructs.{is}
use Rattle.query_opening.proofs.OpeningLaws.{Seeks}
use Rattle.query_opening.proofs.next_operation.Given as goal

abbrev pub invariant-loop-i : goal.invariant-loop-i
invariant-loop-i l = Seeks l.rows l.n (is kind_operation) l.from l.i
