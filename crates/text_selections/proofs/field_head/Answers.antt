-- `field_head` is the machine at a field, up to its selection set.
use mathlib.Core.Path.{◌∙◌}
use Rattle.text_cursor.proofs.Exits.{handed_on}
use Rattle.text_arguments.proofs.Onward.{ready_past, ready_order}
use Rattle.text_selections.proofs.FieldLaws.{head_full, head_bad, head_rows, head_ready, head_size, head_aliased, head_plain}
use Rattle.text_selections.proofs.field_head.Goals as goal

pub returns-then-n-eq-MOST_ROWS : goal.returns-then-n-eq-MOST_ROWS
returns-then-n-eq-MOST_ROWS c = head_full _ _ _ _ _ c.requires.0 c.requires.1 c.if-n-eq-MOST_ROWS.true

pub past-requires : goal.past-requires
past-requires c = ready_past _ _ _ _ c.requires.0

pub returns-in_err-after : goal.returns-in_err-after
returns-in_err-after c = rw (handed_on _ _ c.from_residual.ensures) (head_bad _ _ _ _ _ c.requires.0 c.requires.1 c.if-n-eq-MOST_ROWS.false _ c.past.ensures _ c.in_err-after.was)

pub aliased-requires : goal.aliased-requires
aliased-requires c = (head_ready _ _ _ _ 0 c.requires.0 c.requires.1 c.if-n-eq-MOST_ROWS.false _ c.past.ensures _ c.in_ok-after.was _ c.requires.0.size, c.if-after-eq-TOKEN_COLON.true, head_rows _ _ _ _ 0 c.requires.0 c.requires.1 c.if-n-eq-MOST_ROWS.false _ c.past.ensures _ c.in_ok-after.was)

pub shape_of-rows-then-after-eq-TOKEN_COLON : goal.shape_of-rows-then-after-eq-TOKEN_COLON
shape_of-rows-then-after-eq-TOKEN_COLON c = c.aliased.auto.rows

pub returns-then-after-eq-TOKEN_COLON : goal.returns-then-after-eq-TOKEN_COLON
returns-then-after-eq-TOKEN_COLON c = head_aliased _ _ _ _ c.args.left c.requires.0 c.requires.1 c.if-n-eq-MOST_ROWS.false _ c.past.ensures _ c.in_ok-after.was _ c.aliased.result c.aliased.ensures

pub overflow_sub-c : goal.overflow_sub-c
overflow_sub-c c = ready_order _ _ _ _ c.requires.0

pub field_rest-requires : goal.field_rest-requires
field_rest-requires c = head_ready _ _ _ _ 0 c.requires.0 c.requires.1 c.if-n-eq-MOST_ROWS.false _ c.past.ensures _ c.in_ok-after.was _ (head_size _ _ _ _ 0 c.requires.0 c.requires.1 c.if-n-eq-MOST_ROWS.false _ c.past.ensures _ c.in_ok-after.was _ c.put_row.ensures)

pub shape_of-rows : goal.shape_of-rows
shape_of-rows c = c.field_rest.auto.rows ∙ c.put_row.auto.rows

pub returns : goal.returns
returns c = head_plain _ _ _ _ c.args.left c.requires.0 c.requires.1 c.if-n-eq-MOST_ROWS.false _ c.past.ensures _ c.in_ok-after.was c.if-after-eq-TOKEN_COLON.false _ c.put_row.ensures _ c.field_rest.result c.field_rest.ensures
