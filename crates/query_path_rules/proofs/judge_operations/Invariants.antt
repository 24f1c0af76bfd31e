-- Operation by operation, along the rows of that kind: the search from it, then every variable.
use Prim.Native.Nat.{◌-◌}
use Rattle.paper_table.specs.Types.{table_of}
use Rattle.query_rows.specs.Rowed.{doc_of}
use Rattle.query_alike.proofs.FlagsLaws.{OperationLoop}
use Rattle.query_path_rules.proofs.judge_operations.Given as goal

abbrev pub invariant-loop-o : goal.invariant-loop-o
invariant-loop-o l = OperationLoop (table_of l.t) (doc_of l.s l.rows l.n) l.n l.flag l.mark l.stack l.o

abbrev pub decreases-loop-o : goal.decreases-loop-o
decreases-loop-o l = l.n - l.o
