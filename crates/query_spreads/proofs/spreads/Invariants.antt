-- From the last row to the first: each spread goes in front of those of its definition.
use lib.ListN.{length}
use Rattle.query_rows.specs.Rowed.{doc_of}
use Rattle.query_spreads.proofs.LinkLaws.{Linking}
use Rattle.query_spreads.proofs.spreads.Given as goal

abbrev pub invariant-loop-j : goal.invariant-loop-j
invariant-loop-j l = Linking (doc_of l.s l.rows l.n) (length l.initial.first) l.first l.next l.j
