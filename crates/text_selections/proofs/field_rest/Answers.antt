-- `field_rest` is the machine at the arguments and directives of a field.
use mathlib.Core.Path.{◌∙◌}
use Rattle.text_cursor.proofs.Exits.{handed_on}
use Rattle.text_selections.proofs.FieldLaws.{rest_stops, rest_ready, rest_said, rest_undirected, rest_bare, rest_none}
use Rattle.text_selections.proofs.field_rest.Goals as goal

pub arguments-requires : goal.arguments-requires
arguments-requires c = (c.requires, c.if-c-eq-TOKEN_PAREN_OPEN.true)

pub shape_of-rows-in_err-d : goal.shape_of-rows-in_err-d
shape_of-rows-in_err-d c = c.arguments.auto.rows

pub returns-in_err-d : goal.returns-in_err-d
returns-in_err-d c = rw (handed_on _ _ c.from_residual.ensures) (rest_stops _ _ _ _ _ _ _ c.arguments.ensures _ c.in_err-d.was)

pub directives-requires : goal.directives-requires
directives-requires c = (rest_ready _ _ _ _ _ _ _ c.arguments.ensures _ c.in_ok-d.was c.requires.short c.requires.below, c.if-d-eq-TOKEN_AT.true)

pub shape_of-rows-then-d-eq-TOKEN_AT : goal.shape_of-rows-then-d-eq-TOKEN_AT
shape_of-rows-then-d-eq-TOKEN_AT c = c.directives.auto.rows ∙ c.arguments.auto.rows

pub returns-then-d-eq-TOKEN_AT : goal.returns-then-d-eq-TOKEN_AT
returns-then-d-eq-TOKEN_AT c = rest_said _ _ _ _ _ _ _ c.arguments.ensures _ c.in_ok-d.was _ c.directives.result c.directives.ensures

pub shape_of-rows-then-c-eq-TOKEN_PAREN_OPEN : goal.shape_of-rows-then-c-eq-TOKEN_PAREN_OPEN
shape_of-rows-then-c-eq-TOKEN_PAREN_OPEN c = c.arguments.auto.rows

pub returns-then-c-eq-TOKEN_PAREN_OPEN : goal.returns-then-c-eq-TOKEN_PAREN_OPEN
returns-then-c-eq-TOKEN_PAREN_OPEN c = rest_undirected _ _ _ _ _ _ _ c.arguments.ensures _ c.in_ok-d.was c.requires.short c.requires.below c.if-d-eq-TOKEN_AT.false

pub directives-requires-then-c-eq-TOKEN_AT : goal.directives-requires-then-c-eq-TOKEN_AT
directives-requires-then-c-eq-TOKEN_AT c = (c.requires, c.if-c-eq-TOKEN_AT.true)

pub shape_of-rows-then-c-eq-TOKEN_AT : goal.shape_of-rows-then-c-eq-TOKEN_AT
shape_of-rows-then-c-eq-TOKEN_AT c = c.directives-then-c-eq-TOKEN_AT.auto.rows

pub returns-then-c-eq-TOKEN_AT : goal.returns-then-c-eq-TOKEN_AT
returns-then-c-eq-TOKEN_AT c = rest_bare _ _ _ _ _ c.requires c.if-c-eq-TOKEN_PAREN_OPEN.false _ c.directives-then-c-eq-TOKEN_AT.result c.directives-then-c-eq-TOKEN_AT.ensures

pub returns : goal.returns
returns c = rest_none _ _ _ _ _ c.requires c.if-c-eq-TOKEN_PAREN_OPEN.false c.if-c-eq-TOKEN_AT.false
