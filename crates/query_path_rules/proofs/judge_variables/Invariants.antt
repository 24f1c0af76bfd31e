-- Variable by variable, along the rows of that kind; those that are like others are passed over.
use Prim.Native.Nat.{◌-◌}
use Rattle.paper_table.specs.Types.{table_of}
use Rattle.query_rows.specs.Rowed.{doc_of}
use Rattle.query_alike.proofs.LikenLaws.{JudgeLoop}
use Rattle.query_path_rules.proofs.judge_variables.Given as goal

abbrev pub invariant-loop-i : goal.invariant-loop-i
invariant-loop-i l = JudgeLoop (table_of l.t) (doc_of l.s l.rows l.n) l.n l.o l.flag l.i

abbrev pub decreases-loop-i : goal.decreases-loop-i
decreases-loop-i l = l.n - l.i
