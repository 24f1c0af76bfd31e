-- From the last row to the first.
use Rattle.query_rows.specs.Rowed.{rows_in}
use Rattle.query_subtrees.specs.Past.{PastsFrom}
use Rattle.query_subtrees.proofs.fill_pasts.Given as goal

abbrev pub invariant-loop-i : goal.invariant-loop-i
invariant-loop-i l = PastsFrom (rows_in l.rows l.n) l.past l.i
