-- `text_documents::operation_rest` meets its contract: each way out is a law of `BodyLaws`.
use Rattle.text_cursor.proofs.Exits.{handed_back}
use Rattle.text_variables.proofs.CountedLaws.{counted_went, counted_ready}
use Rattle.text_documents.proofs.BodyLaws.{rest_bare, rest_stop, rest_says}
use Rattle.text_documents.proofs.operation_rest.Goals as goal

pub returns-then-c-ne-TOKEN_PAREN_OPEN : goal.returns-then-c-ne-TOKEN_PAREN_OPEN
returns-then-c-ne-TOKEN_PAREN_OPEN c = rest_bare _ _ _ _ c.requires.0 c.if-c-ne-TOKEN_PAREN_OPEN.true _ c.definition_body.result c.definition_body.ensures

pub returns-in_err-d : goal.returns-in_err-d
returns-in_err-d c = rw (handed_back _ _ _ c.from_residual.ensures c.in_err-d.was) (rest_stop _ _ _ _ c.requires.0 c.if-c-ne-TOKEN_PAREN_OPEN.false _ _ c.variable_definitions.result c.variable_definitions.ensures _ c.in_err-d.was)

pub definition_body-requires-2 : goal.definition_body-requires-2
definition_body-requires-2 c = (counted_ready _ _ _ _ _ _ _ _ _ _ _ _ c.requires.0.short (counted_went _ _ _ _ _ _ _ _ c.variable_definitions.result _ _ _ c.variable_definitions.ensures _ c.in_ok-d.was) _ c.requires.0.below, c.requires.1)

pub returns : goal.returns
returns c = rest_says _ _ _ _ c.requires.0 c.if-c-ne-TOKEN_PAREN_OPEN.false _ _ (counted_went _ _ _ _ _ _ _ _ c.variable_definitions.result _ _ _ c.variable_definitions.ensures _ c.in_ok-d.was) _ c.definition_body-2.result c.definition_body-2.ensures
