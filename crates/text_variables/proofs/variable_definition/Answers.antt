-- `text_variables::variable_definition` meets its contract: each way out is a law of `VariableLaws`.
use native.Mathlib.Omega.{arith}
use mathlib.Core.Path.{sym, ◌∙◌}
use Rattle.text_cursor.proofs.Exits.{handed_back}
use Rattle.text_variables.proofs.CountedLaws.{said_went, counted_went, counted_ready}
use Rattle.text_variables.proofs.VariableLaws.{variable_none, variable_full, variable_many, variable_stop, variable_stop_2, variable_stop_3, variable_done, type_went, type_ready}
use Rattle.text_variables.proofs.variable_definition.Goals as goal

pub returns-then-c-ne-TOKEN_DOLLAR : goal.returns-then-c-ne-TOKEN_DOLLAR
returns-then-c-ne-TOKEN_DOLLAR c = variable_none _ _ _ _ _ _ c.requires _ c.if-c-ne-TOKEN_DOLLAR.true c.no_going.result c.no_going.ensures

pub returns-then-n-eq-MOST_ROWS : goal.returns-then-n-eq-MOST_ROWS
returns-then-n-eq-MOST_ROWS c = variable_full _ _ _ _ _ _ c.requires c.if-c-ne-TOKEN_DOLLAR.false c.if-n-eq-MOST_ROWS.true

pub returns-then-before-eq-MOST_VARIABLES : goal.returns-then-before-eq-MOST_VARIABLES
returns-then-before-eq-MOST_VARIABLES c = variable_many _ _ _ _ _ _ c.requires c.if-c-ne-TOKEN_DOLLAR.false c.if-n-eq-MOST_ROWS.false (omega arith)

pub returns-in_err-first : goal.returns-in_err-first
returns-in_err-first c = rw (handed_back _ _ _ c.from_residual.ensures c.in_err-first.was) (variable_stop _ _ _ _ _ _ c.requires c.if-c-ne-TOKEN_DOLLAR.false c.if-n-eq-MOST_ROWS.false c.if-before-eq-MOST_VARIABLES.false _ _ c.variable_head.result (c.variable_head.ensures c.args.left) _ c.in_err-first.was)

pub type_reference-requires : goal.type_reference-requires
type_reference-requires c = counted_ready _ _ _ _ _ _ _ _ _ _ _ _ c.requires.short (counted_went _ _ _ _ _ _ _ _ c.variable_head.result _ _ _ (c.variable_head.ensures c.args.left) _ c.in_ok-first.was) _ c.requires.few

pub returns-in_err-after : goal.returns-in_err-after
returns-in_err-after c = rw (handed_back _ _ _ c.from_residual-in_err-after.ensures c.in_err-after.was) (variable_stop_2 _ _ _ _ _ _ c.requires c.if-c-ne-TOKEN_DOLLAR.false c.if-n-eq-MOST_ROWS.false c.if-before-eq-MOST_VARIABLES.false _ _ (counted_went _ _ _ _ _ _ _ _ c.variable_head.result _ _ _ (c.variable_head.ensures c.args.left) _ c.in_ok-first.was) _ _ c.type_reference.result c.type_reference.ensures _ c.in_err-after.was)

pub default_if-requires : goal.default_if-requires
default_if-requires c = type_ready _ _ _ _ _ _ _ c.requires.short (type_went _ _ _ _ _ _ c.type_reference.result c.type_reference.ensures _ c.in_ok-after.was) _ c.requires.few

pub returns-in_err-d : goal.returns-in_err-d
returns-in_err-d c = rw (handed_back _ _ _ c.from_residual-in_err-d.ensures c.in_err-d.was) (variable_stop_3 _ _ _ _ _ _ c.requires c.if-c-ne-TOKEN_DOLLAR.false c.if-n-eq-MOST_ROWS.false c.if-before-eq-MOST_VARIABLES.false _ _ (counted_went _ _ _ _ _ _ _ _ c.variable_head.result _ _ _ (c.variable_head.ensures c.args.left) _ c.in_ok-first.was) _ _ (type_went _ _ _ _ _ _ c.type_reference.result c.type_reference.ensures _ c.in_ok-after.was) _ _ c.default_if.result c.default_if.ensures _ c.in_err-d.was)

pub put_end-requires : goal.put_end-requires
put_end-requires c = (omega (arith, c.requires.few, c.if-n-eq-MOST_ROWS.false), (said_went _ _ _ _ _ _ _ _ c.default_if.result c.default_if.ensures _ c.in_ok-d.was).size)

pub shape_of-rows : goal.shape_of-rows
shape_of-rows c = c.put_end.auto.rows ∙ (said_went _ _ _ _ _ _ _ _ c.default_if.result c.default_if.ensures _ c.in_ok-d.was).size ∙ sym c.requires.size

pub returns : goal.returns
returns c = variable_done _ _ _ _ _ _ c.requires c.if-c-ne-TOKEN_DOLLAR.false c.if-n-eq-MOST_ROWS.false c.if-before-eq-MOST_VARIABLES.false _ _ (counted_went _ _ _ _ _ _ _ _ c.variable_head.result _ _ _ (c.variable_head.ensures c.args.left) _ c.in_ok-first.was) _ _ (type_went _ _ _ _ _ _ c.type_reference.result c.type_reference.ensures _ c.in_ok-after.was) _ _ c.default_if.result c.default_if.ensures _ c.in_ok-d.was c.put_end.ensures
