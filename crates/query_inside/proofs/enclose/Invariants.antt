-- Row by row.
use Rattle.query_inside.specs.Enclosed.{EnclosedTo}
use Rattle.query_inside.proofs.enclose.Given as goal

abbrev pub invariant-loop-i : goal.invariant-loop-i
invariant-loop-i l = EnclosedTo l.t l.book l.es l.s l.rows l.n l.i l.inside l.at
