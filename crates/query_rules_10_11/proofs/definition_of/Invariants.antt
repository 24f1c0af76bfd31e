-- Along the rows right below the operation, to the first definition of the name.
use Prim.Native.Nat.{◌-◌}
use Rattle.paper_query.specs.Constructs.{below, name_of}
use Rattle.paper_query.specs.Rule10Undefined.{defines_it}
use Rattle.query_rows.specs.Rowed.{doc_of}
use Rattle.query_links.proofs.ChainWalks.{RowWalk}
use Rattle.query_rules_10_11.proofs.definition_of.Given as goal

abbrev pub invariant-loop-j : goal.invariant-loop-j
invariant-loop-j l = RowWalk l.rows l.n (below l.o) (defines_it (doc_of l.s l.rows l.n) l.o (name_of (doc_of l.s l.rows l.n) l.i)) 0 l.j

abbrev pub decreases-loop-j : goal.decreases-loop-j
decreases-loop-j l = l.n - l.j
