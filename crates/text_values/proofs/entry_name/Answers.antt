-- entry_name: each way it ends by its law.
use Rattle.text_cursor.proofs.Exits.{handed_back}
use Rattle.text_leaves.proofs.MovedLaws.{ready_lies}
use Rattle.text_values.proofs.EntryLaws.{entry_no_name, entry_full, entry_bad, colon_lies, entry_no_colon, entry_named}
use Rattle.text_values.proofs.entry_name.Goals as goal

pub returns-then-c-ne-TOKEN_NAME : goal.returns-then-c-ne-TOKEN_NAME
returns-then-c-ne-TOKEN_NAME c = rw c.no_going.ensures (entry_no_name _ _ _ _ c.requires.0 c.args.kind c.requires.1 c.if-c-ne-TOKEN_NAME.true)

pub returns-then-n-eq-MOST_ROWS : goal.returns-then-n-eq-MOST_ROWS
returns-then-n-eq-MOST_ROWS c = entry_full _ _ _ _ c.requires.0 c.args.kind c.requires.1 c.if-c-ne-TOKEN_NAME.false c.if-n-eq-MOST_ROWS.true

pub overflow_sub-size : goal.overflow_sub-size
overflow_sub-size c = (ready_lies _ _ _ _ c.requires.0).1

pub past-requires : goal.past-requires
past-requires c = (c.requires.0.short, (ready_lies _ _ _ _ c.requires.0).2)

pub returns-in_err-colon : goal.returns-in_err-colon
returns-in_err-colon c = rw (handed_back _ _ _ c.from_residual.ensures c.in_err-colon.was) (entry_bad _ _ _ _ c.requires.0 c.args.kind c.requires.1 c.if-c-ne-TOKEN_NAME.false c.if-n-eq-MOST_ROWS.false _ _ _ c.past.ensures c.in_err-colon.was)

pub returns-then-colon-ne-TOKEN_COLON : goal.returns-then-colon-ne-TOKEN_COLON
returns-then-colon-ne-TOKEN_COLON c = rw c.no_going-then-colon-ne-TOKEN_COLON.ensures (entry_no_colon _ _ _ _ c.requires.0 c.args.kind c.requires.1 c.if-c-ne-TOKEN_NAME.false c.if-n-eq-MOST_ROWS.false _ _ c.past.ensures c.in_ok-colon.was c.if-colon-ne-TOKEN_COLON.true)

pub past-requires-2 : goal.past-requires-2
past-requires-2 c = (c.requires.0.short, (colon_lies _ _ _ _ c.requires.0 c.args.kind c.requires.1 c.if-c-ne-TOKEN_NAME.false c.if-n-eq-MOST_ROWS.false _ _ c.past.ensures c.in_ok-colon.was).2)

pub returns : goal.returns
returns c = entry_named _ _ _ _ c.requires.0 c.args.kind c.requires.1 c.if-c-ne-TOKEN_NAME.false c.if-n-eq-MOST_ROWS.false _ _ c.past.ensures c.in_ok-colon.was c.if-colon-ne-TOKEN_COLON.false _ c.put_row.ensures _ c.past-2.ensures
