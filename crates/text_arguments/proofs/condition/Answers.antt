-- `condition` is the machine at TypeCondition.
use Rattle.text_cursor.proofs.Exits.{handed_on}
use Rattle.text_arguments.proofs.Onward.{ready_past, next_order, next_past}
use Rattle.text_arguments.proofs.ConditionLaws.{condition_bad, condition_name, condition_nameless, condition_full, condition_said}
use Rattle.text_arguments.proofs.condition.Goals as goal

pub past-requires : goal.past-requires
past-requires c = ready_past _ _ _ _ c.requires.0

pub returns-in_err-name : goal.returns-in_err-name
returns-in_err-name c = rw (handed_on _ _ c.from_residual.ensures) (condition_bad _ _ _ _ _ c.requires.0 c.requires.1 _ c.past.ensures _ c.in_err-name.was)

pub returns-then-name-ne-TOKEN_NAME : goal.returns-then-name-ne-TOKEN_NAME
returns-then-name-ne-TOKEN_NAME c = rw c.no_going.ensures (condition_nameless _ _ _ _ _ c.requires.0 c.requires.1 _ c.past.ensures _ c.in_ok-name.was c.if-name-ne-TOKEN_NAME.true)

pub returns-then-n-eq-MOST_ROWS : goal.returns-then-n-eq-MOST_ROWS
returns-then-n-eq-MOST_ROWS c = condition_full _ _ _ _ _ c.requires.0 c.requires.1 _ c.past.ensures _ c.in_ok-name.was c.if-name-ne-TOKEN_NAME.false c.if-n-eq-MOST_ROWS.true

pub overflow_sub-name : goal.overflow_sub-name
overflow_sub-name c = next_order _ _ _ _ (condition_name _ _ _ _ 0 c.requires.0 c.requires.1 _ c.past.ensures _ c.in_ok-name.was)

pub past-requires-2 : goal.past-requires-2
past-requires-2 c = (c.requires.0.short, next_past _ _ _ _ (condition_name _ _ _ _ 0 c.requires.0 c.requires.1 _ c.past.ensures _ c.in_ok-name.was))

pub shape_of-rows : goal.shape_of-rows
shape_of-rows c = c.put_row.auto.rows

pub returns : goal.returns
returns c = condition_said _ _ _ _ _ c.requires.0 c.requires.1 _ c.past.ensures _ c.in_ok-name.was c.if-name-ne-TOKEN_NAME.false c.if-n-eq-MOST_ROWS.false _ c.put_row.ensures _ c.past-2.ensures
