-- `plan_endings::tell_made` meets its contract: too many steps, or their count and that of the blocks.
use native.Mathlib.Omega.{arith}
use Rattle.plan_endings.proofs.EndLaws.{told_many, told_counts}
use Rattle.plan_endings.proofs.tell_made.Goals as goal

pub clear-requires : goal.clear-requires
clear-requires c = omega arith

pub returns-then-steps-eq-TOO_MANY_STEPS : goal.returns-then-steps-eq-TOO_MANY_STEPS
returns-then-steps-eq-TOO_MANY_STEPS c = told_many _ _ _ _ _ c.if-steps-eq-TOO_MANY_STEPS.true c.clear.ensures c.tell.ensures

pub bounds-plan-0 : goal.bounds-plan-0
bounds-plan-0 c = omega (arith, c.requires.0)

pub overflow_cast-steps : goal.overflow_cast-steps
overflow_cast-steps c = omega (arith, c.requires.2)

pub returns : goal.returns
returns c = told_counts _ _ _ _ c.if-steps-eq-TOO_MANY_STEPS.false c.tell_five.ensures
