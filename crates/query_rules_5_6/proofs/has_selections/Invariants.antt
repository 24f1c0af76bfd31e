-- A walk over the rows right below.
use Prim.Native.Nat.{◌-◌}
use Rattle.paper_query.specs.Constructs.{below}
use Rattle.query_links.proofs.ChainWalks.{RowWalk}
use Rattle.query_rules_5_6.proofs.RuleLaws.{selects}
use Rattle.query_rules_5_6.proofs.has_selections.Given as goal

abbrev pub invariant-loop-j : goal.invariant-loop-j
invariant-loop-j l = RowWalk l.rows l.n (below l.i) (selects l.i) 0 l.j

abbrev pub decreases-loop-j : goal.decreases-loop-j
decreases-loop-j l = l.n - l.j
