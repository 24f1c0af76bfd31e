use Rattle.paper_table.specs.Types.{table_of}
use Rattle.plan_walk_formed.proofs.FormedLaws.{decided_yes, decided_no, formed_is, formed_head}
use Rattle.plan_walk_formed.proofs.is_formed.Goals as goal

pub blocks_formed-requires : goal.blocks_formed-requires
blocks_formed-requires c = (c.requires, decided_yes _ _ c.is_headed.ensures c.if-is_headed.true)

pub returns-then-is_headed : goal.returns-then-is_headed
returns-then-is_headed c = let a = c.args in
    formed_is (table_of a.t.now) a.p.now (decided_yes _ _ c.is_headed.ensures c.if-is_headed.true) c.blocks_formed.result c.blocks_formed.ensures

pub returns : goal.returns
returns c = λ w. decided_no _ _ c.is_headed.ensures c.if-is_headed.false (formed_head _ _ w)
