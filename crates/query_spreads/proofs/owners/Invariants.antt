-- From the first row to the last: parents stand before their children.
use Rattle.query_rows.specs.Rowed.{doc_of}
use Rattle.query_spreads.specs.Owners.{OwnedTo}
use Rattle.query_spreads.proofs.owners.Given as goal

abbrev pub invariant-loop-i : goal.invariant-loop-i
invariant-loop-i l = OwnedTo (doc_of l.s l.rows l.n) l.i l.owner
