use Rattle.query_row_verdict.proofs.RowLaws.{operation_first, operation_second, operation_last}
use Rattle.query_row_verdict.proofs.operation_rule.Goals as goal

pub returns-then-operation_repeated : goal.returns-then-operation_repeated
returns-then-operation_repeated c = operation_first c.requires.4 c.operation_repeated.ensures c.if-operation_repeated.true

pub returns-then-operation_unnamed : goal.returns-then-operation_unnamed
returns-then-operation_unnamed c = operation_second c.requires.4 c.operation_repeated.ensures c.if-operation_repeated.false (c.operation_unnamed.ensures _) c.if-operation_unnamed.true

pub returns : goal.returns
returns c = operation_last c.requires.4 c.operation_repeated.ensures c.if-operation_repeated.false (c.operation_unnamed.ensures _) c.if-operation_unnamed.false _ c.no_root.ensures c.rule_if.ensures
