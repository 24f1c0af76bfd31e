use Rattle.paper.specs.Numbers.{kind_operation}
use Rattle.query_rows.specs.Rowed.{doc_of}
use Rattle.query_siblings.specs.Alike.{kind_called}
use Rattle.query_opening.proofs.OpeningLaws.{Seeks}
use Rattle.query_opening.proofs.first_named.Given as goal

abbrev pub invariant-loop-i : goal.invariant-loop-i
invariant-loop-i l = Seeks l.rows l.n (kind_called (doc_of l.s l.rows l.n) kind_operation l.name) 0 l.i
