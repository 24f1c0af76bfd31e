-- `walk_plan` meets its contract: what is asked is not so, or the pairs are listed and told.
use Rattle.paper_table.specs.Types.{table_of}
use Rattle.paper_plan.specs.WalkCalls.{CanWalk}
use Rattle.plan_walk_formed.proofs.FormedLaws.{decided_yes, decided_no}
use Rattle.plan_walk_told.proofs.FixedLaws.{walk_refused, pairs_told}
use Rattle.plan_walk_told.proofs.walk_plan.Goals as goal

pub list_pairs-n-requires : goal.list_pairs-n-requires
list_pairs-n-requires c = let a = c.args in
    let p = c.requires in
    (p.2, decided_yes (CanWalk (table_of a.t.now) a.plan.now a.object a.blocks.now a.variables.now) _ c.can_walk.ensures c.if-can_walk.true, p.3)

pub returns-then-can_walk : goal.returns-then-can_walk
returns-then-can_walk c = let a = c.args in
    let p = c.requires in
    pairs_told _ _ _ _ _ _ _ _ _ p.0 p.3 _ _ p.1 (decided_yes (CanWalk (table_of a.t.now) a.plan.now a.object a.blocks.now a.variables.now) _ c.can_walk.ensures c.if-can_walk.true) c.list_pairs-n.ensures c.tell_pairs.ensures

pub returns : goal.returns
returns c = let a = c.args in
    let p = c.requires in
    walk_refused _ _ _ _ _ _ _ _ _ p.0 p.3 p.1 (decided_no (CanWalk (table_of a.t.now) a.plan.now a.object a.blocks.now a.variables.now) _ c.can_walk.ensures c.if-can_walk.false) c.clear.ensures c.tell.ensures
