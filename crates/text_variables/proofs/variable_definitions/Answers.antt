-- `text_variables::variable_definitions` meets its contract: the loop has read i definitions, and what is left of the text falls.
use native.Mathlib.Omega.{arith}
use mathlib.Core.Path.{sym, ◌∙◌}
use Rattle.text_cursor.proofs.Exits.{handed_back}
use Rattle.text_references.proofs.MovedLaws.{end_within}
use Rattle.text_variables.proofs.CountedLaws.{counted_went}
use Rattle.text_variables.proofs.VariablesLaws.{turns_none, list_deep, list_bad, list_ready, turn_ready, turn_stop, turn_again, close_end, list_says}
use Rattle.text_variables.proofs.variable_definitions.Goals as goal

pub returns-then-left-eq0 : goal.returns-then-left-eq0
returns-then-left-eq0 c = list_deep _ _ _ _ _ c.requires.0 c.requires.1 c.if-left-eq0.true

pub past-requires : goal.past-requires
past-requires c = (c.requires.0.short, (end_within _ c.args.c c.requires.0.within c.requires.0.looks).1)

pub returns-in_err-d : goal.returns-in_err-d
returns-in_err-d c = rw (handed_back _ _ _ c.from_residual.ensures c.in_err-d.was) (list_bad _ _ _ _ _ c.requires.0 c.requires.1 c.if-left-eq0.false c.past.result c.past.ensures _ _ c.in_err-d.was)

pub loop-next-init : goal.loop-next-init
loop-next-init c = turns_none _ _ _ _ _ (list_ready _ _ _ _ c.args.left c.requires.0 c.requires.1 c.if-left-eq0.false c.past.result c.past.ensures _ c.in_ok-d.was)

pub overflow_sub-left : goal.overflow_sub-left
overflow_sub-left c = omega arith

pub variable_definition-requires : goal.variable_definition-requires
variable_definition-requires c = turn_ready _ _ _ _ c.args.left c.requires.0 c.requires.1 c.if-left-eq0.false c.past.result c.past.ensures _ c.in_ok-d.was _ _ _ c.loop-next.invariant

pub shape_of-rows-in_err-next : goal.shape_of-rows-in_err-next
shape_of-rows-in_err-next c = c.variable_definition.auto.rows ∙ c.loop-next.invariant.size ∙ sym c.requires.0.size

pub returns-in_err-next : goal.returns-in_err-next
returns-in_err-next c = rw (handed_back _ _ _ c.from_residual-in_err-next.ensures c.in_err-next.was) (turn_stop _ _ _ _ _ c.requires.0 c.requires.1 c.if-left-eq0.false c.past.result c.past.ensures _ c.in_ok-d.was _ _ _ c.loop-next.invariant _ _ c.variable_definition.result c.variable_definition.ensures _ c.in_err-next.was)

pub past-requires-then-next-eq-TOKEN_PAREN_CLOSE : goal.past-requires-then-next-eq-TOKEN_PAREN_CLOSE
past-requires-then-next-eq-TOKEN_PAREN_CLOSE c = (c.requires.0.short, close_end _ _ _ _ _ c.requires.0 c.requires.1 c.if-left-eq0.false c.past.result c.past.ensures _ c.in_ok-d.was _ _ _ c.loop-next.invariant _ _ (counted_went _ _ _ _ _ _ _ _ c.variable_definition.result _ _ _ c.variable_definition.ensures _ c.in_ok-next.was) c.if-next-eq-TOKEN_PAREN_CLOSE.true)

pub shape_of-rows-then-next-eq-TOKEN_PAREN_CLOSE : goal.shape_of-rows-then-next-eq-TOKEN_PAREN_CLOSE
shape_of-rows-then-next-eq-TOKEN_PAREN_CLOSE c = c.variable_definition.auto.rows ∙ c.loop-next.invariant.size ∙ sym c.requires.0.size

pub returns-then-next-eq-TOKEN_PAREN_CLOSE : goal.returns-then-next-eq-TOKEN_PAREN_CLOSE
returns-then-next-eq-TOKEN_PAREN_CLOSE c = list_says _ _ _ _ _ c.requires.0 c.requires.1 c.if-left-eq0.false c.past.result c.past.ensures _ c.in_ok-d.was _ _ _ c.loop-next.invariant _ _ (counted_went _ _ _ _ _ _ _ _ c.variable_definition.result _ _ _ c.variable_definition.ensures _ c.in_ok-next.was) c.if-next-eq-TOKEN_PAREN_CLOSE.true c.past-then-next-eq-TOKEN_PAREN_CLOSE.result c.past-then-next-eq-TOKEN_PAREN_CLOSE.ensures

pub overflow_add-i : goal.overflow_add-i
overflow_add-i c = omega (arith, c.requires.0.short, c.loop-next.invariant.on, c.loop-next.invariant.within)

pub loop-next-smaller : goal.loop-next-smaller
loop-next-smaller c = omega (arith, counted_went _ _ _ _ _ _ _ _ c.variable_definition.result _ _ _ c.variable_definition.ensures _ c.in_ok-next.was)

pub loop-next-preserved : goal.loop-next-preserved
loop-next-preserved c = turn_again _ _ _ _ c.args.left c.requires.0 c.requires.1 c.if-left-eq0.false c.past.result c.past.ensures _ c.in_ok-d.was _ _ _ c.loop-next.invariant _ _ (counted_went _ _ _ _ _ _ _ _ c.variable_definition.result _ _ _ c.variable_definition.ensures _ c.in_ok-next.was) c.if-next-eq-TOKEN_PAREN_CLOSE.false
