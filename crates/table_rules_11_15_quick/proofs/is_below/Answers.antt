-- By the two base names: the same, or the second can be the first or not.
use Rattle.table_rules_11_15_quick.proofs.KeepingLaws.{below_alike, below_other}
use Rattle.table_rules_11_15_quick.proofs.is_below.Goals as goal

pub returns-then-is_text : goal.returns-then-is_text
returns-then-is_text c = let a = c.args in
    below_alike a.t.now a.r.at a.r.size a.r.wrappers a.q.at a.q.size a.q.wrappers c.is_text.ensures c.if-is_text.true c.sub_type.ensures

pub returns : goal.returns
returns c = let a = c.args in
    below_other a.t.now a.r.at a.r.size a.r.wrappers a.q.at a.q.size a.q.wrappers c.is_text.ensures c.is_possible.result c.sub_type-2.result c.if-is_text.false c.is_possible.ensures c.sub_type-2.ensures
