use Rattle.query_row_verdict.proofs.RowLaws.{definition_first, definition_last}
use Rattle.query_row_verdict.proofs.definition_rule.Goals as goal

pub returns-then-no_input_type : goal.returns-then-no_input_type
returns-then-no_input_type c = definition_first c.requires.4 c.no_input_type.ensures c.if-no_input_type.true

pub returns : goal.returns
returns c = definition_last c.requires.4 c.no_input_type.ensures c.if-no_input_type.false _ c.name_twice.ensures c.rule_if.ensures
