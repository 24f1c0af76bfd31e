use Rattle.query_row_verdict.proofs.RowLaws.{argument_first, argument_last}
use Rattle.query_row_verdict.proofs.argument_rule.Goals as goal

pub returns-then-name_twice : goal.returns-then-name_twice
returns-then-name_twice c = argument_first c.requires.4 c.name_twice.ensures c.if-name_twice.true

pub returns : goal.returns
returns c = argument_last c.requires.4 c.name_twice.ensures c.if-name_twice.false _ c.argument_unknown-unknown.ensures c.rule_if.ensures
