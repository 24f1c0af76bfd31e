use Rattle.query_row_verdict.proofs.RowLaws.{field_first, field_last}
use Rattle.query_row_verdict.proofs.field_rule.Goals as goal

pub returns-then-field_missing : goal.returns-then-field_missing
returns-then-field_missing c = field_first c.requires.4 c.field_missing.ensures c.if-field_missing.true

pub returns : goal.returns
returns c = field_last c.requires.4 c.field_missing.ensures c.if-field_missing.false _ c.leaf_wrong-wrong.ensures c.rule_if.ensures
