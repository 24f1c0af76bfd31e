-- `aliased` is the machine at a field, from the colon of its alias to its selection set.
use mathlib.Core.Path.{◌∙◌}
use Rattle.text_cursor.proofs.Exits.{handed_on}
use Rattle.text_arguments.proofs.Onward.{ready_past, next_order, next_past}
use Rattle.text_selections.proofs.FieldLaws.{alias_bad, alias_name, alias_nameless, alias_bad_behind, alias_ready, alias_said}
use Rattle.text_selections.proofs.aliased.Goals as goal

pub past-requires : goal.past-requires
past-requires c = ready_past _ _ _ _ c.requires.0

pub returns-in_err-name : goal.returns-in_err-name
returns-in_err-name c = rw (handed_on _ _ c.from_residual.ensures) (alias_bad _ _ _ c.args.parent c.args.left _ c.args.start c.requires.0 c.requires.1 c.requires.2 _ c.past.ensures c.args.rows.now _ c.in_err-name.was)

pub returns-then-name-ne-TOKEN_NAME : goal.returns-then-name-ne-TOKEN_NAME
returns-then-name-ne-TOKEN_NAME c = rw c.no_going.ensures (alias_nameless _ _ _ c.args.parent c.args.left _ c.args.start c.requires.0 c.requires.1 c.requires.2 _ c.past.ensures _ c.in_ok-name.was c.if-name-ne-TOKEN_NAME.true c.args.rows.now)

pub overflow_sub-name : goal.overflow_sub-name
overflow_sub-name c = next_order _ _ _ _ (alias_name _ _ _ 0 0 _ 0 c.requires.0 c.requires.1 c.requires.2 _ c.past.ensures _ c.in_ok-name.was)

pub past-requires-2 : goal.past-requires-2
past-requires-2 c = (c.requires.0.short, next_past _ _ _ _ (alias_name _ _ _ 0 0 _ 0 c.requires.0 c.requires.1 c.requires.2 _ c.past.ensures _ c.in_ok-name.was))

pub shape_of-rows-in_err-after : goal.shape_of-rows-in_err-after
shape_of-rows-in_err-after c = c.put_row.auto.rows

pub returns-in_err-after : goal.returns-in_err-after
returns-in_err-after c = rw (handed_on _ _ c.from_residual-in_err-after.ensures) (alias_bad_behind _ _ _ c.args.parent c.args.left _ c.args.start c.requires.0 c.requires.1 c.requires.2 _ c.past.ensures _ c.in_ok-name.was c.if-name-ne-TOKEN_NAME.false _ c.put_row.ensures _ c.past-2.ensures c.args.rows.now _ c.in_err-after.was)

pub field_rest-requires : goal.field_rest-requires
field_rest-requires c = alias_ready _ _ _ c.args.parent c.args.left _ c.args.start c.requires.0 c.requires.1 c.requires.2 _ c.past.ensures _ c.in_ok-name.was c.if-name-ne-TOKEN_NAME.false _ c.put_row.ensures _ c.past-2.ensures _ c.in_ok-after.was

pub shape_of-rows : goal.shape_of-rows
shape_of-rows c = c.field_rest.auto.rows ∙ c.put_row.auto.rows

pub returns : goal.returns
returns c = alias_said _ _ _ c.args.parent c.args.left _ c.args.start c.requires.0 c.requires.1 c.requires.2 _ c.past.ensures _ c.in_ok-name.was c.if-name-ne-TOKEN_NAME.false _ c.put_row.ensures _ c.past-2.ensures _ c.in_ok-after.was _ c.field_rest.result c.field_rest.ensures
