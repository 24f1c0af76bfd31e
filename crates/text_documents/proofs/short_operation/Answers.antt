-- `text_documents::short_operation` meets its contract: each way out is a law of `OperationLaws`.
use Rattle.text_cursor.proofs.Exits.{handed_back}
use Rattle.text_variables.proofs.CountedLaws.{said_went}
use Rattle.text_documents.proofs.OperationLaws.{short_full, short_stop, short_done}
use Rattle.text_documents.proofs.short_operation.Goals as goal

pub returns-then-n-eq-MOST_ROWS : goal.returns-then-n-eq-MOST_ROWS
returns-then-n-eq-MOST_ROWS c = short_full _ _ _ c.requires.0 c.requires.1 c.if-n-eq-MOST_ROWS.true

pub returns-in_err-e : goal.returns-in_err-e
returns-in_err-e c = rw (handed_back _ _ _ c.from_residual.ensures c.in_err-e.was) (short_stop _ _ _ c.requires.0 c.requires.1 _ c.put_row.ensures _ _ c.selection_set.result c.selection_set.ensures _ c.in_err-e.was)

pub returns : goal.returns
returns c = short_done _ _ _ c.requires.0 c.requires.1 _ c.put_row.ensures _ _ _ (said_went _ _ _ _ _ _ _ _ c.selection_set.result c.selection_set.ensures _ c.in_ok-e.was) c.put_end.ensures
