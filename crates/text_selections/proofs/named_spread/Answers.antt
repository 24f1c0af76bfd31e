-- `named_spread` is the machine at a fragment spread, from its name on.
use mathlib.Core.Path.{◌∙◌}
use native.Mathlib.Omega.{arith}
use Rattle.text_cursor.proofs.Exits.{handed_on}
use Rattle.text_arguments.proofs.Onward.{ready_past, ready_order}
use Rattle.text_selections.proofs.SpreadLaws.{named_bad, named_ready, named_stops, named_read, named_ends, named_bare}
use Rattle.text_selections.proofs.named_spread.Goals as goal

pub overflow_sub-c : goal.overflow_sub-c
overflow_sub-c c = ready_order _ _ _ _ c.requires.0

pub past-requires : goal.past-requires
past-requires c = ready_past _ _ _ _ c.requires.0

pub shape_of-rows-in_err-after : goal.shape_of-rows-in_err-after
shape_of-rows-in_err-after c = c.put_row.auto.rows

pub returns-in_err-after : goal.returns-in_err-after
returns-in_err-after c = rw (handed_on _ _ c.from_residual.ensures) (named_bad _ _ _ _ _ _ _ c.requires.0 c.requires.1 c.requires.2 _ c.put_row.ensures _ c.past.ensures _ c.in_err-after.was c.args.rows.now)

pub put_end-requires : goal.put_end-requires
put_end-requires c = (omega (arith, c.requires.0.few, c.requires.2), (named_ready _ _ _ _ 0 _ _ c.requires.0 c.requires.1 c.requires.2 _ c.put_row.ensures _ c.past.ensures _ c.in_ok-after.was).size)

pub shape_of-rows-then-after-ne-TOKEN_AT : goal.shape_of-rows-then-after-ne-TOKEN_AT
shape_of-rows-then-after-ne-TOKEN_AT c = c.put_end.auto.rows ∙ c.put_row.auto.rows

pub returns-then-after-ne-TOKEN_AT : goal.returns-then-after-ne-TOKEN_AT
returns-then-after-ne-TOKEN_AT c = named_bare _ _ _ _ _ _ _ c.requires.0 c.requires.1 c.requires.2 _ c.put_row.ensures _ c.past.ensures _ c.in_ok-after.was c.if-after-ne-TOKEN_AT.true _ c.put_end.ensures

pub directives-requires : goal.directives-requires
directives-requires c = (named_ready _ _ _ _ 0 _ _ c.requires.0 c.requires.1 c.requires.2 _ c.put_row.ensures _ c.past.ensures _ c.in_ok-after.was, c.if-after-ne-TOKEN_AT.false)

pub shape_of-rows-in_err-d : goal.shape_of-rows-in_err-d
shape_of-rows-in_err-d c = c.directives.auto.rows ∙ c.put_row.auto.rows

pub returns-in_err-d : goal.returns-in_err-d
returns-in_err-d c = rw (handed_on _ _ c.from_residual-in_err-d.ensures) (named_stops _ _ _ _ _ _ _ c.requires.0 c.requires.1 c.requires.2 _ c.put_row.ensures _ c.past.ensures _ c.in_ok-after.was _ _ c.directives.ensures _ c.in_err-d.was c.args.rows.now)

pub put_end-requires-2 : goal.put_end-requires-2
put_end-requires-2 c = (omega (arith, c.requires.0.few, c.requires.2), (named_read _ _ _ _ _ _ _ c.requires.0 c.requires.1 c.requires.2 _ c.put_row.ensures _ c.past.ensures _ c.in_ok-after.was _ _ c.directives.ensures _ c.in_ok-d.was).size)

pub shape_of-rows : goal.shape_of-rows
shape_of-rows c = c.put_end-2.auto.rows ∙ c.directives.auto.rows ∙ c.put_row.auto.rows

pub returns : goal.returns
returns c = named_ends _ _ _ _ _ _ _ c.requires.0 c.requires.1 c.requires.2 _ c.put_row.ensures _ c.past.ensures _ c.in_ok-after.was _ _ c.directives.ensures _ c.in_ok-d.was _ c.put_end-2.ensures
