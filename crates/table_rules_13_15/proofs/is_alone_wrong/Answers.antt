use Rattle.table_rules_13_15.proofs.ArgumentLaws.{alone_missing, alone_other, alone_extra}
use Rattle.table_members.specs.Members.{argument_from}
use Rattle.table_rules_13_15.proofs.is_alone_wrong.Goals as goal

pub returns-then-rule-eq-RULE_ARGUMENT_MISSING : goal.returns-then-rule-eq-RULE_ARGUMENT_MISSING
returns-then-rule-eq-RULE_ARGUMENT_MISSING c = let a = c.args in alone_missing a.rule (argument_from a.t.now a.start a.end) c.if-rule-eq-RULE_ARGUMENT_MISSING.true

pub returns-then-rule-ne-RULE_ARGUMENT_EXTRA : goal.returns-then-rule-ne-RULE_ARGUMENT_EXTRA
returns-then-rule-ne-RULE_ARGUMENT_EXTRA c = let a = c.args in alone_other a.rule (argument_from a.t.now a.start a.end) c.if-rule-eq-RULE_ARGUMENT_MISSING.false c.if-rule-ne-RULE_ARGUMENT_EXTRA.true

pub returns : goal.returns
returns c = let a = c.args in alone_extra a.rule (argument_from a.t.now a.start a.end) a.t.now c.type_in-x.result.at c.type_in-x.result.size c.type_in-x.result.wrappers c.if-rule-eq-RULE_ARGUMENT_MISSING.false c.if-rule-ne-RULE_ARGUMENT_EXTRA.false c.type_in-x.ensures
