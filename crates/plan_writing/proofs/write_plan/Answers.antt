use mathlib.Core.Path.{◌≡◌}
use mathlib.Core.Logic.{inl, inr}
use mathlib.Core.List.{◌∷◌}
use Prim.Native.Nat.{◌+◌}
use native.Mathlib.Omega.{arith}
use lib.ListN.{length, take, length-set}
use Rattle.plan_writing.proofs.BlockWrites.{holders_size, going_by, many_by, going_fits}
use Rattle.plan_writing.proofs.write_plan.Goals as goal

pub write_blocks-steps-requires : goal.write_blocks-steps-requires
write_blocks-steps-requires c = (c.requires.0, c.requires.1, c.requires.2, c.requires.3, c.requires.4)

pub returns-then-steps-eq-TOO_MANY_STEPS : goal.returns-then-steps-eq-TOO_MANY_STEPS
returns-then-steps-eq-TOO_MANY_STEPS c = inr (many_by c.write_blocks-steps.ensures c.if-steps-eq-TOO_MANY_STEPS.true)

pub overflow_add-plan : goal.overflow_add-plan
overflow_add-plan c = omega (arith, c.requires.1.few)

pub overflow_cast-plan : goal.overflow_cast-plan
overflow_cast-plan c = omega (arith, c.requires.1.few)

pub bounds-plan-0 : goal.bounds-plan-0
bounds-plan-0 c = let w = going_by c.write_blocks-steps.ensures c.if-steps-eq-TOO_MANY_STEPS.false in omega (arith, w.size)

pub overflow_cast-plan-2 : goal.overflow_cast-plan-2
overflow_cast-plan-2 c = let w = going_by c.write_blocks-steps.ensures c.if-steps-eq-TOO_MANY_STEPS.false in omega (arith, w.top)

pub bounds-plan-1 : goal.bounds-plan-1
bounds-plan-1 c = let w = going_by c.write_blocks-steps.ensures c.if-steps-eq-TOO_MANY_STEPS.false in simp length-set (omega (arith, w.size))

pub returns : goal.returns
returns c = let z : c.args.m + 1 ≡ length (c.args.o ∷ take c.args.m c.args.out.now) = omega (arith, holders_size c.args.o c.args.m c.args.out.now c.requires.1.within) in inl (going_fits c.args.cells.now c.args.n (c.args.o ∷ take c.args.m c.args.out.now) _ _ (going_by c.write_blocks-steps.ensures c.if-steps-eq-TOO_MANY_STEPS.false) (c.args.m + 1) (omega (arith, c.requires.1.few, holders_size c.args.o c.args.m c.args.out.now c.requires.1.within)) z)
