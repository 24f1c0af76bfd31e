-- `text_documents::definition_body` meets its contract: each way out is a law of `BodyLaws`.
use Rattle.text_cursor.proofs.Exits.{handed_back}
use Rattle.text_variables.proofs.CountedLaws.{said_went, went_ready}
use Rattle.text_documents.proofs.BodyLaws.{body_bare, body_stop, body_says}
use Rattle.text_documents.proofs.definition_body.Goals as goal

pub returns-then-c-ne-TOKEN_AT : goal.returns-then-c-ne-TOKEN_AT
returns-then-c-ne-TOKEN_AT c = body_bare _ _ _ _ c.requires.0 c.if-c-ne-TOKEN_AT.true _ c.definition_set.result c.definition_set.ensures

pub directives-requires : goal.directives-requires
directives-requires c = (c.requires.0, c.if-c-ne-TOKEN_AT.false)

pub returns-in_err-d : goal.returns-in_err-d
returns-in_err-d c = rw (handed_back _ _ _ c.from_residual.ensures c.in_err-d.was) (body_stop _ _ _ _ _ _ c.directives.result c.directives.ensures _ c.in_err-d.was)

pub definition_set-requires-2 : goal.definition_set-requires-2
definition_set-requires-2 c = (went_ready _ _ _ _ _ _ _ _ _ c.requires.0.short (said_went _ _ _ _ _ _ _ _ c.directives.result c.directives.ensures _ c.in_ok-d.was) _ c.requires.0.below, c.requires.1)

pub returns : goal.returns
returns c = body_says _ _ _ _ _ _ (said_went _ _ _ _ _ _ _ _ c.directives.result c.directives.ensures _ c.in_ok-d.was) _ c.definition_set-2.result c.definition_set-2.ensures
