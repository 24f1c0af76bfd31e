-- `inline_head` is the machine at an inline fragment, from behind its dots to its selection set.
use mathlib.Core.Path.{◌∙◌}
use Rattle.text_cursor.proofs.Exits.{handed_on}
use Rattle.text_selections.proofs.SpreadLaws.{inline_ready, inline_on, inline_stops, inline_ready_behind, inline_said, inline_undirected, inline_plain, inline_bare}
use Rattle.text_selections.proofs.inline_head.Goals as goal

pub condition-requires : goal.condition-requires
condition-requires c = (inline_ready _ _ _ _ 0 _ _ c.requires.0 c.requires.1 _ c.put_row.ensures, inline_on _ _ _ _ 0 _ _ c.requires.0 c.requires.1 _ c.put_row.ensures c.if-c-eq-TOKEN_NAME.true)

pub shape_of-rows-in_err-d : goal.shape_of-rows-in_err-d
shape_of-rows-in_err-d c = c.condition.auto.rows ∙ c.put_row.auto.rows

pub returns-in_err-d : goal.returns-in_err-d
returns-in_err-d c = rw (handed_on _ _ c.from_residual.ensures) (inline_stops _ _ _ _ _ _ _ c.requires.0 c.requires.1 _ c.put_row.ensures c.if-c-eq-TOKEN_NAME.true _ _ c.condition.ensures _ c.in_err-d.was c.args.rows.now)

pub directives-requires : goal.directives-requires
directives-requires c = (inline_ready_behind _ _ _ _ _ _ _ c.requires.0 c.requires.1 _ c.put_row.ensures c.if-c-eq-TOKEN_NAME.true _ _ c.condition.ensures _ c.in_ok-d.was, c.if-d-eq-TOKEN_AT.true)

pub shape_of-rows-then-d-eq-TOKEN_AT : goal.shape_of-rows-then-d-eq-TOKEN_AT
shape_of-rows-then-d-eq-TOKEN_AT c = c.directives.auto.rows ∙ c.condition.auto.rows ∙ c.put_row.auto.rows

pub returns-then-d-eq-TOKEN_AT : goal.returns-then-d-eq-TOKEN_AT
returns-then-d-eq-TOKEN_AT c = inline_said _ _ _ _ _ _ _ c.requires.0 c.requires.1 _ c.put_row.ensures c.if-c-eq-TOKEN_NAME.true _ _ c.condition.ensures _ c.in_ok-d.was _ c.directives.result c.directives.ensures

pub shape_of-rows-then-c-eq-TOKEN_NAME : goal.shape_of-rows-then-c-eq-TOKEN_NAME
shape_of-rows-then-c-eq-TOKEN_NAME c = c.condition.auto.rows ∙ c.put_row.auto.rows

pub returns-then-c-eq-TOKEN_NAME : goal.returns-then-c-eq-TOKEN_NAME
returns-then-c-eq-TOKEN_NAME c = inline_undirected _ _ _ _ _ _ _ c.requires.0 c.requires.1 _ c.put_row.ensures c.if-c-eq-TOKEN_NAME.true _ _ c.condition.ensures _ c.in_ok-d.was c.if-d-eq-TOKEN_AT.false

pub directives-requires-then-c-eq-TOKEN_AT : goal.directives-requires-then-c-eq-TOKEN_AT
directives-requires-then-c-eq-TOKEN_AT c = (inline_ready _ _ _ _ 0 _ _ c.requires.0 c.requires.1 _ c.put_row.ensures, c.if-c-eq-TOKEN_AT.true)

pub shape_of-rows-then-c-eq-TOKEN_AT : goal.shape_of-rows-then-c-eq-TOKEN_AT
shape_of-rows-then-c-eq-TOKEN_AT c = c.directives-then-c-eq-TOKEN_AT.auto.rows ∙ c.put_row.auto.rows

pub returns-then-c-eq-TOKEN_AT : goal.returns-then-c-eq-TOKEN_AT
returns-then-c-eq-TOKEN_AT c = inline_plain _ _ _ _ c.args.left _ _ c.requires.0 c.requires.1 _ c.put_row.ensures c.if-c-eq-TOKEN_NAME.false _ c.directives-then-c-eq-TOKEN_AT.result c.directives-then-c-eq-TOKEN_AT.ensures

pub shape_of-rows : goal.shape_of-rows
shape_of-rows c = c.put_row.auto.rows

pub returns : goal.returns
returns c = inline_bare _ _ _ _ c.args.left _ _ c.requires.0 c.requires.1 _ c.put_row.ensures c.if-c-eq-TOKEN_NAME.false c.if-c-eq-TOKEN_AT.false
