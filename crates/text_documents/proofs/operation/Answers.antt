-- `text_documents::operation` meets its contract: each way out is a law of `OperationLaws`.
use Rattle.text_cursor.proofs.Exits.{handed_back}
use Rattle.text_references.proofs.MovedLaws.{end_within}
use Rattle.text_documents.proofs.OperationLaws.{operation_full, operation_bad, name_ends, unnamed_ready, unnamed_says, operation_bad_2, named_ready, named_says}
use Rattle.text_documents.proofs.operation.Goals as goal

pub returns-then-n-eq-MOST_ROWS : goal.returns-then-n-eq-MOST_ROWS
returns-then-n-eq-MOST_ROWS c = operation_full _ _ _ _ c.requires.0 c.requires.1 c.if-n-eq-MOST_ROWS.true

pub past-requires : goal.past-requires
past-requires c = (c.requires.0.short, (end_within _ c.args.c c.requires.0.within c.requires.0.looks).1)

pub returns-in_err-d : goal.returns-in_err-d
returns-in_err-d c = rw (handed_back _ _ _ c.from_residual.ensures c.in_err-d.was) (operation_bad _ _ _ _ c.requires.0 c.requires.1 c.if-n-eq-MOST_ROWS.false c.past.result c.past.ensures _ _ c.in_err-d.was)

pub operation_rest-requires : goal.operation_rest-requires
operation_rest-requires c = unnamed_ready _ _ _ _ c.requires.0 c.requires.1 c.if-n-eq-MOST_ROWS.false c.past.result c.past.ensures _ c.in_ok-d.was _ c.put_row.ensures

pub returns-then-d-ne-TOKEN_NAME : goal.returns-then-d-ne-TOKEN_NAME
returns-then-d-ne-TOKEN_NAME c = unnamed_says _ _ _ _ c.requires.0 c.requires.1 c.if-n-eq-MOST_ROWS.false c.past.result c.past.ensures _ c.in_ok-d.was c.if-d-ne-TOKEN_NAME.true _ c.put_row.ensures _ c.operation_rest.result c.operation_rest.ensures

pub overflow_sub-d : goal.overflow_sub-d
overflow_sub-d c = (name_ends _ _ _ _ c.requires.0 c.requires.1 c.if-n-eq-MOST_ROWS.false c.past.result c.past.ensures _ c.in_ok-d.was).0

pub past-requires-2 : goal.past-requires-2
past-requires-2 c = (c.requires.0.short, (name_ends _ _ _ _ c.requires.0 c.requires.1 c.if-n-eq-MOST_ROWS.false c.past.result c.past.ensures _ c.in_ok-d.was).1)

pub returns-in_err-e : goal.returns-in_err-e
returns-in_err-e c = rw (handed_back _ _ _ c.from_residual-in_err-e.ensures c.in_err-e.was) (operation_bad_2 _ _ _ _ c.requires.0 c.requires.1 c.if-n-eq-MOST_ROWS.false c.past.result c.past.ensures _ c.in_ok-d.was c.if-d-ne-TOKEN_NAME.false c.past-2.result c.past-2.ensures _ _ c.in_err-e.was)

pub operation_rest-requires-2 : goal.operation_rest-requires-2
operation_rest-requires-2 c = named_ready _ _ _ _ c.requires.0 c.requires.1 c.if-n-eq-MOST_ROWS.false c.past.result c.past.ensures _ c.in_ok-d.was c.if-d-ne-TOKEN_NAME.false c.past-2.result c.past-2.ensures _ c.in_ok-e.was _ c.put_row-2.ensures

pub returns : goal.returns
returns c = named_says _ _ _ _ c.requires.0 c.requires.1 c.if-n-eq-MOST_ROWS.false c.past.result c.past.ensures _ c.in_ok-d.was c.if-d-ne-TOKEN_NAME.false c.past-2.result c.past-2.ensures _ c.in_ok-e.was _ c.put_row-2.ensures _ c.operation_rest-2.result c.operation_rest-2.ensures
