use Rattle.paper_table.specs.Types.{table_of}
use Rattle.query_rows.specs.Rowed.{doc_of}
use Rattle.query_first_break.proofs.JudgedLaws.{NoneBefore}
use Rattle.query_first_break.proofs.judge_rows.Given as goal

abbrev pub invariant-loop-i : goal.invariant-loop-i
invariant-loop-i l = NoneBefore (table_of l.t) (doc_of l.s l.rows l.n) l.i
