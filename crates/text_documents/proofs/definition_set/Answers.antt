-- `text_documents::definition_set` meets its contract: each way out is a law of `BodyLaws`.
use Rattle.text_cursor.proofs.Exits.{handed_back}
use Rattle.text_variables.proofs.CountedLaws.{said_went}
use Rattle.text_documents.proofs.BodyLaws.{set_stop, set_done}
use Rattle.text_documents.proofs.definition_set.Goals as goal

pub returns-in_err-e : goal.returns-in_err-e
returns-in_err-e c = rw (handed_back _ _ _ c.from_residual.ensures c.in_err-e.was) (set_stop _ _ _ _ _ _ c.selection_set.result c.selection_set.ensures _ c.in_err-e.was)

pub returns : goal.returns
returns c = set_done _ _ _ _ _ _ _ (said_went _ _ _ _ _ _ _ _ c.selection_set.result c.selection_set.ensures _ c.in_ok-e.was) c.put_end.ensures
