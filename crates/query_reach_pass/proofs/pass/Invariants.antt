-- Along the links of the definition's spreads: what those before row j lead to is marked.
use Prim.Native.Nat.{◌-◌}
use Rattle.query_rows.specs.Rowed.{doc_of}
use Rattle.query_reach_pass.proofs.PassLaws.{Passing}
use Rattle.query_reach_pass.proofs.pass.Given as goal

abbrev pub invariant-loop-j : goal.invariant-loop-j
invariant-loop-j l = Passing (doc_of l.s l.rows l.n) l.a l.initial.mark l.top l.mark l.stack l.height l.g l.j

abbrev pub decreases-loop-j : goal.decreases-loop-j
decreases-loop-j l = l.n - l.j
