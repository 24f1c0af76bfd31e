-- Row by row.
use Rattle.query_rows.specs.Rowed.{doc_of}
use Rattle.plan_keys.specs.Keyed.{Filed}
use Rattle.plan_keys.proofs.number_by.Given as goal

abbrev pub invariant-loop-i : goal.invariant-loop-i
invariant-loop-i l = Filed (doc_of l.s l.rows l.n) l.seed l.head l.next l.keys l.i
