-- `directives` is the machine at Directives: at each turn of its loop one more is to be read.
use mathlib.Core.Path.{sym, ◌∙◌}
use native.Mathlib.Omega.{arith}
use Rattle.text_cursor.proofs.Exits.{handed_on}
use Rattle.text_arguments.proofs.DirectivesLaws.{turn_first, turn_ready, turn_ends, turn_stops, turn_read, turn_more}
use Rattle.text_arguments.proofs.directives.Goals as goal

pub loop-next-init : goal.loop-next-init
loop-next-init c = (turn_first _ _ _ _ _ c.requires.0, c.requires.1)

pub directive-requires : goal.directive-requires
directive-requires c = (turn_ready _ _ _ _ _ _ _ c.loop-next.invariant.0 c.requires.0.short c.requires.0.below, c.loop-next.invariant.1)

pub shape_of-rows-in_err-next : goal.shape_of-rows-in_err-next
shape_of-rows-in_err-next c = c.directive.auto.rows ∙ c.loop-next.invariant.0.size ∙ sym c.requires.0.size

pub returns-in_err-next : goal.returns-in_err-next
returns-in_err-next c = rw (handed_on _ _ c.from_residual.ensures) (turn_stops _ _ _ _ _ _ _ c.loop-next.invariant.0 c.loop-next.invariant.1 _ _ c.directive.ensures _ c.in_err-next.was)

pub shape_of-rows-then-next-ne-TOKEN_AT : goal.shape_of-rows-then-next-ne-TOKEN_AT
shape_of-rows-then-next-ne-TOKEN_AT c = c.directive.auto.rows ∙ c.loop-next.invariant.0.size ∙ sym c.requires.0.size

pub returns-then-next-ne-TOKEN_AT : goal.returns-then-next-ne-TOKEN_AT
returns-then-next-ne-TOKEN_AT c = turn_ends _ _ _ _ _ _ _ (turn_more _ _ _ _ _ _ _ c.loop-next.invariant.0 c.loop-next.invariant.1 _ _ c.directive.ensures _ c.in_ok-next.was) c.if-next-ne-TOKEN_AT.true

pub loop-next-smaller : goal.loop-next-smaller
loop-next-smaller c = let v = turn_read _ _ _ _ _ _ _ c.loop-next.invariant.0 c.loop-next.invariant.1 _ _ c.directive.ensures _ c.in_ok-next.was in omega (arith, v.on, v.within)

pub loop-next-preserved : goal.loop-next-preserved
loop-next-preserved c = (turn_more _ _ _ _ _ _ _ c.loop-next.invariant.0 c.loop-next.invariant.1 _ _ c.directive.ensures _ c.in_ok-next.was, c.if-next-ne-TOKEN_AT.false)
