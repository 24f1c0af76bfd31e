use Rattle.table_rules_13_15.proofs.ArgumentLaws.{beside_other, beside_wrappers, beside_names}
use Rattle.table_members.specs.Members.{argument_from}
use Rattle.table_rules_13_15.proofs.is_beside_wrong.Goals as goal

pub returns-then-rule-ne-RULE_ARGUMENT_TYPE : goal.returns-then-rule-ne-RULE_ARGUMENT_TYPE
returns-then-rule-ne-RULE_ARGUMENT_TYPE c = let a = c.args in beside_other a.rule (argument_from a.t.now a.start a.end) (argument_from a.t.now a.from a.stop) c.if-rule-ne-RULE_ARGUMENT_TYPE.true

pub returns-then-y-x : goal.returns-then-y-x
returns-then-y-x c = let a = c.args in beside_wrappers a.rule (argument_from a.t.now a.start a.end) (argument_from a.t.now a.from a.stop) a.t.now c.type_in-x.result.at c.type_in-x.result.size c.type_in-x.result.wrappers c.type_in-y.result.at c.type_in-y.result.size c.type_in-y.result.wrappers c.if-rule-ne-RULE_ARGUMENT_TYPE.false c.type_in-x.ensures c.type_in-y.ensures c.requires.2 c.requires.3 c.if-y-x.true

pub returns : goal.returns
returns c = let a = c.args in beside_names a.rule (argument_from a.t.now a.start a.end) (argument_from a.t.now a.from a.stop) a.t.now c.type_in-x.result.at c.type_in-x.result.size c.type_in-x.result.wrappers c.type_in-y.result.at c.type_in-y.result.size c.type_in-y.result.wrappers c.if-rule-ne-RULE_ARGUMENT_TYPE.false c.type_in-x.ensures c.type_in-y.ensures c.requires.2 c.requires.3 c.if-y-x.false c.is_text.ensures
