-- `directive` is the machine at Directive.
use mathlib.Core.Path.{◌∙◌}
use Rattle.text_cursor.proofs.Exits.{handed_on}
use Rattle.text_arguments.proofs.Onward.{ready_past, next_order, next_past}
use Rattle.text_arguments.proofs.DirectivesLaws.{directive_full, directive_room, directive_bad, directive_name, directive_nameless, directive_bad_behind, directive_ready, directive_stops, directive_read, directive_ends, directive_bare}
use Rattle.text_arguments.proofs.directive.Goals as goal

pub returns-then-n-eq-MOST_ROWS : goal.returns-then-n-eq-MOST_ROWS
returns-then-n-eq-MOST_ROWS c = directive_full _ _ _ _ _ c.requires.0 c.requires.1 c.if-n-eq-MOST_ROWS.true

pub past-requires : goal.past-requires
past-requires c = ready_past _ _ _ _ c.requires.0

pub returns-in_err-name : goal.returns-in_err-name
returns-in_err-name c = rw (handed_on _ _ c.from_residual.ensures) (directive_bad _ _ _ _ _ c.requires.0 c.requires.1 c.if-n-eq-MOST_ROWS.false _ c.past.ensures _ c.in_err-name.was)

pub returns-then-name-ne-TOKEN_NAME : goal.returns-then-name-ne-TOKEN_NAME
returns-then-name-ne-TOKEN_NAME c = rw c.no_going.ensures (directive_nameless _ _ _ _ _ c.requires.0 c.requires.1 c.if-n-eq-MOST_ROWS.false _ c.past.ensures _ c.in_ok-name.was c.if-name-ne-TOKEN_NAME.true)

pub overflow_sub-name : goal.overflow_sub-name
overflow_sub-name c = next_order _ _ _ _ (directive_name _ _ _ _ 0 c.requires.0 c.requires.1 c.if-n-eq-MOST_ROWS.false _ c.past.ensures _ c.in_ok-name.was)

pub past-requires-2 : goal.past-requires-2
past-requires-2 c = (c.requires.0.short, next_past _ _ _ _ (directive_name _ _ _ _ 0 c.requires.0 c.requires.1 c.if-n-eq-MOST_ROWS.false _ c.past.ensures _ c.in_ok-name.was))

pub shape_of-rows-in_err-first : goal.shape_of-rows-in_err-first
shape_of-rows-in_err-first c = c.put_row.auto.rows

pub returns-in_err-first : goal.returns-in_err-first
returns-in_err-first c = rw (handed_on _ _ c.from_residual-in_err-first.ensures) (directive_bad_behind _ _ _ _ _ c.requires.0 c.requires.1 c.if-n-eq-MOST_ROWS.false _ c.past.ensures _ c.in_ok-name.was c.if-name-ne-TOKEN_NAME.false _ c.put_row.ensures _ c.past-2.ensures _ c.in_err-first.was)

pub put_end-requires : goal.put_end-requires
put_end-requires c = (directive_room _ _ _ _ 0 c.requires.0 c.requires.1 c.if-n-eq-MOST_ROWS.false, (directive_ready _ _ _ _ 0 c.requires.0 c.requires.1 c.if-n-eq-MOST_ROWS.false _ c.past.ensures _ c.in_ok-name.was c.if-name-ne-TOKEN_NAME.false _ c.put_row.ensures _ c.past-2.ensures _ c.in_ok-first.was).size)

pub shape_of-rows-then-first-ne-TOKEN_PAREN_OPEN : goal.shape_of-rows-then-first-ne-TOKEN_PAREN_OPEN
shape_of-rows-then-first-ne-TOKEN_PAREN_OPEN c = c.put_end.auto.rows ∙ c.put_row.auto.rows

pub returns-then-first-ne-TOKEN_PAREN_OPEN : goal.returns-then-first-ne-TOKEN_PAREN_OPEN
returns-then-first-ne-TOKEN_PAREN_OPEN c = directive_bare _ _ _ _ _ c.requires.0 c.requires.1 c.if-n-eq-MOST_ROWS.false _ c.past.ensures _ c.in_ok-name.was c.if-name-ne-TOKEN_NAME.false _ c.put_row.ensures _ c.past-2.ensures _ c.in_ok-first.was c.if-first-ne-TOKEN_PAREN_OPEN.true _ c.put_end.ensures

pub arguments-requires : goal.arguments-requires
arguments-requires c = (directive_ready _ _ _ _ 0 c.requires.0 c.requires.1 c.if-n-eq-MOST_ROWS.false _ c.past.ensures _ c.in_ok-name.was c.if-name-ne-TOKEN_NAME.false _ c.put_row.ensures _ c.past-2.ensures _ c.in_ok-first.was, c.if-first-ne-TOKEN_PAREN_OPEN.false)

pub shape_of-rows-in_err-d : goal.shape_of-rows-in_err-d
shape_of-rows-in_err-d c = c.arguments.auto.rows ∙ c.put_row.auto.rows

pub returns-in_err-d : goal.returns-in_err-d
returns-in_err-d c = rw (handed_on _ _ c.from_residual-in_err-d.ensures) (directive_stops _ _ _ _ _ c.requires.0 c.requires.1 c.if-n-eq-MOST_ROWS.false _ c.past.ensures _ c.in_ok-name.was c.if-name-ne-TOKEN_NAME.false _ c.put_row.ensures _ c.past-2.ensures _ c.in_ok-first.was _ _ c.arguments.ensures _ c.in_err-d.was)

pub put_end-requires-2 : goal.put_end-requires-2
put_end-requires-2 c = (directive_room _ _ _ _ 0 c.requires.0 c.requires.1 c.if-n-eq-MOST_ROWS.false, (directive_read _ _ _ _ _ c.requires.0 c.requires.1 c.if-n-eq-MOST_ROWS.false _ c.past.ensures _ c.in_ok-name.was c.if-name-ne-TOKEN_NAME.false _ c.put_row.ensures _ c.past-2.ensures _ c.in_ok-first.was _ _ c.arguments.ensures _ c.in_ok-d.was).size)

pub shape_of-rows : goal.shape_of-rows
shape_of-rows c = c.put_end-2.auto.rows ∙ c.arguments.auto.rows ∙ c.put_row.auto.rows

pub returns : goal.returns
returns c = directive_ends _ _ _ _ _ c.requires.0 c.requires.1 c.if-n-eq-MOST_ROWS.false _ c.past.ensures _ c.in_ok-name.was c.if-name-ne-TOKEN_NAME.false _ c.put_row.ensures _ c.past-2.ensures _ c.in_ok-first.was _ _ c.arguments.ensures _ c.in_ok-d.was _ c.put_end-2.ensures
