-- variable: each way it ends by its law.
use mathlib.Core.List.{[]}
use Rattle.text_cursor.proofs.Exits.{handed_back}
use Rattle.text_leaves.proofs.MovedLaws.{ready_lies}
use Rattle.text_values.proofs.VariableLaws.{variable_full, variable_bad, variable_no_name, name_lies, variable_said}
use Rattle.text_values.proofs.variable.Goals as goal

pub returns-then-n-eq-MOST_ROWS : goal.returns-then-n-eq-MOST_ROWS
returns-then-n-eq-MOST_ROWS c = variable_full _ _ [] _ _ c.requires.0 c.requires.1 c.if-n-eq-MOST_ROWS.true

pub past-requires : goal.past-requires
past-requires c = (c.requires.0.short, (ready_lies _ _ _ _ c.requires.0).2)

pub returns-in_err-name : goal.returns-in_err-name
returns-in_err-name c = rw (handed_back _ _ _ c.from_residual.ensures c.in_err-name.was) (variable_bad _ _ [] _ _ c.requires.0 c.requires.1 c.if-n-eq-MOST_ROWS.false _ _ c.past.ensures c.in_err-name.was)

pub returns-then-name-ne-TOKEN_NAME : goal.returns-then-name-ne-TOKEN_NAME
returns-then-name-ne-TOKEN_NAME c = rw c.no_going.ensures (variable_no_name _ _ [] _ _ c.requires.0 c.requires.1 c.if-n-eq-MOST_ROWS.false _ _ c.past.ensures c.in_ok-name.was c.if-name-ne-TOKEN_NAME.true)

pub overflow_sub-name : goal.overflow_sub-name
overflow_sub-name c = (name_lies _ _ [] _ _ c.requires.0 c.requires.1 c.if-n-eq-MOST_ROWS.false _ _ c.past.ensures c.in_ok-name.was).1

pub past-requires-2 : goal.past-requires-2
past-requires-2 c = (c.requires.0.short, (name_lies _ _ [] _ _ c.requires.0 c.requires.1 c.if-n-eq-MOST_ROWS.false _ _ c.past.ensures c.in_ok-name.was).2)

pub returns : goal.returns
returns c = variable_said _ _ _ _ _ c.requires.0 c.requires.1 c.if-n-eq-MOST_ROWS.false _ _ c.past.ensures c.in_ok-name.was c.if-name-ne-TOKEN_NAME.false c.put_row.ensures _ c.past-2.ensures
