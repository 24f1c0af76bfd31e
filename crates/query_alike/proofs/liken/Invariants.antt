-- Variable by variable, along the rows of that kind.
use Prim.Native.Nat.{◌-◌}
use Rattle.paper_table.specs.Types.{table_of}
use Rattle.query_rows.specs.Rowed.{doc_of}
use Rattle.query_alike.proofs.LikenLaws.{LikenLoop}
use Rattle.query_alike.proofs.liken.Given as goal

abbrev pub invariant-loop-v : goal.invariant-loop-v
invariant-loop-v l = LikenLoop (table_of l.t) (doc_of l.s l.rows l.n) l.n l.stack l.flag l.m l.v

abbrev pub decreases-loop-v : goal.decreases-loop-v
decreases-loop-v l = l.n - l.v
