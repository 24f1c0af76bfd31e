-- Variable by variable, along the rows of that kind: the row that it is like stands before it.
use Prim.Native.Nat.{◌-◌}
use Rattle.paper_table.specs.Types.{table_of}
use Rattle.query_rows.specs.Rowed.{doc_of}
use Rattle.query_alike.proofs.LikenLaws.{SettleLoop}
use Rattle.query_alike.proofs.settle.Given as goal

abbrev pub invariant-loop-v : goal.invariant-loop-v
invariant-loop-v l = SettleLoop (table_of l.t) (doc_of l.s l.rows l.n) l.n l.n l.flag l.v

abbrev pub decreases-loop-v : goal.decreases-loop-v
decreases-loop-v l = l.n - l.v
