use mathlib.Core.Path.{◌≡◌, refl, sym, ap, ◌∙◌, subst}
use mathlib.Core.Logic.{inl, inr}
use mathlib.Core.List.{◌∷◌}
use Prim.Native.Nat.{ℕ, ◌+◌}
use native.Mathlib.Omega.{arith}
use lib.ListN.{length, take, length-set, length-replicate}
use Rattle.paper_plan.specs.PlanNumbers.{plan_size}
use Rattle.plan_writing.specs.Writing.{Going}
use Rattle.plan_writing.proofs.BlockWrites.{holders_size, holder_is, holder_most, going_start, going_more, going_over, fitted_by, over_by, space_at}
use Rattle.plan_writing.proofs.write_blocks.Goals as goal

pub loop-b-init : goal.loop-b-init
loop-b-init c = (going_start c.args.cells.now c.args.n (c.args.o ∷ take c.args.m c.args.out.now) c.args.plan.now c.requires.2, refl, refl)

pub block_row-holder-requires : goal.block_row-holder-requires
block_row-holder-requires c = omega (arith, c.loop-b-test.true, c.requires.1.within)

pub overflow_cast-plan : goal.overflow_cast-plan
overflow_cast-plan c = omega (arith, c.loop-b.invariant.0.top)

pub overflow_add-plan : goal.overflow_add-plan
overflow_add-plan c = omega (arith, c.loop-b-test.true, c.requires.1.few)

pub bounds-plan-b : goal.bounds-plan-b
bounds-plan-b c = omega (arith, c.loop-b-test.true, c.requires.1.few, c.loop-b.invariant.0.size)

pub overflow_add-n : goal.overflow_add-n
overflow_add-n c = omega (arith, c.requires.0.rows)

pub expand-at-requires : goal.expand-at-requires
expand-at-requires c = (space_at c.args.cells.now _ c.args.first.now c.args.next.now c.args.n c.loop-b.at c.requires.0 c.loop-b.invariant.0.top (length-set c.loop-b.plan (2 + c.loop-b.b) c.loop-b.at ∙ c.loop-b.invariant.0.size), c.requires.0.chained, holder_most c.args.o c.args.m c.args.out.now c.requires.1 c.loop-b.b _ c.loop-b-test.true c.block_row-holder.ensures, omega (arith, c.loop-b.invariant.1, c.requires.3), omega (arith, c.loop-b.invariant.2, c.requires.4))

pub shape_of-opened-then-at-eq-TOO_MANY_STEPS : goal.shape_of-opened-then-at-eq-TOO_MANY_STEPS
shape_of-opened-then-at-eq-TOO_MANY_STEPS c = c.opened-1.given ∙ c.loop-b.invariant.1

pub shape_of-begun-then-at-eq-TOO_MANY_STEPS : goal.shape_of-begun-then-at-eq-TOO_MANY_STEPS
shape_of-begun-then-at-eq-TOO_MANY_STEPS c = c.begun-1.given ∙ c.loop-b.invariant.2

pub shape_of-plan-then-at-eq-TOO_MANY_STEPS : goal.shape_of-plan-then-at-eq-TOO_MANY_STEPS
shape_of-plan-then-at-eq-TOO_MANY_STEPS c = c.plan-1.given ∙ length-set c.loop-b.plan (2 + c.loop-b.b) c.loop-b.at ∙ c.loop-b.invariant.0.size ∙ sym (ap length c.requires.2 ∙ length-replicate {A = ℕ} plan_size 0)

pub returns-then-at-eq-TOO_MANY_STEPS : goal.returns-then-at-eq-TOO_MANY_STEPS
returns-then-at-eq-TOO_MANY_STEPS c = inr (going_over c.args.cells.now c.args.n (c.args.o ∷ take c.args.m c.args.out.now) c.loop-b.plan c.loop-b.at c.loop-b.b c.loop-b.invariant.0 (omega (arith, c.loop-b-test.true, holders_size c.args.o c.args.m c.args.out.now c.requires.1.within)) _ (holder_is c.args.o c.args.m c.args.out.now c.loop-b.b _ c.loop-b-test.true c.block_row-holder.ensures) _ (over_by c.expand-at.ensures c.if-at-eq-TOO_MANY_STEPS.true))

pub loop-b-preserved : goal.loop-b-preserved
loop-b-preserved c = (going_more c.args.cells.now c.args.n (c.args.o ∷ take c.args.m c.args.out.now) c.loop-b.plan c.loop-b.at c.loop-b.b c.loop-b.invariant.0 (omega (arith, c.loop-b-test.true, holders_size c.args.o c.args.m c.args.out.now c.requires.1.within)) _ (holder_is c.args.o c.args.m c.args.out.now c.loop-b.b _ c.loop-b-test.true c.block_row-holder.ensures) _ _ _ (omega (arith, c.requires.1.few, holders_size c.args.o c.args.m c.args.out.now c.requires.1.within)) refl (fitted_by c.expand-at.ensures c.if-at-eq-TOO_MANY_STEPS.false), c.opened-1.given ∙ c.loop-b.invariant.1, c.begun-1.given ∙ c.loop-b.invariant.2)

pub shape_of-opened : goal.shape_of-opened
shape_of-opened c = c.loop-b.invariant.1

pub shape_of-begun : goal.shape_of-begun
shape_of-begun c = c.loop-b.invariant.2

pub shape_of-plan : goal.shape_of-plan
shape_of-plan c = c.loop-b.invariant.0.size ∙ sym (ap length c.requires.2 ∙ length-replicate {A = ℕ} plan_size 0)

pub returns : goal.returns
returns c = let z : c.loop-b.b ≡ length (c.args.o ∷ take c.args.m c.args.out.now) = omega (arith, c.loop-b-test.false, c.loop-b.invariant.0.most, holders_size c.args.o c.args.m c.args.out.now c.requires.1.within) in inl (subst (Going c.args.cells.now c.args.n (c.args.o ∷ take c.args.m c.args.out.now) c.loop-b.plan c.loop-b.at) z c.loop-b.invariant.0)

pub returns-else-at-eq-TOO_MANY_STEPS : goal.returns-else-at-eq-TOO_MANY_STEPS
returns-else-at-eq-TOO_MANY_STEPS c =
    let size = holders_size c.args.o c.args.m c.args.out.now c.requires.1.within in
    let w : Going c.args.cells.now c.args.n (c.args.o ∷ take c.args.m c.args.out.now) c.expand-at.new.p c.expand-at.result (c.loop-b.b + 1) =
    going_more c.args.cells.now c.args.n (c.args.o ∷ take c.args.m c.args.out.now) c.loop-b.plan c.loop-b.at c.loop-b.b c.loop-b.invariant.0 (omega (arith, c.loop-b-test.true, size)) _ (holder_is c.args.o c.args.m c.args.out.now c.loop-b.b _ c.loop-b-test.true c.block_row-holder.ensures) _ _ _ (omega (arith, c.requires.1.few, size)) refl (fitted_by c.expand-at.ensures c.if-at-eq-TOO_MANY_STEPS.false) in
    let z : c.loop-b.b + 1 ≡ length (c.args.o ∷ take c.args.m c.args.out.now) = omega (arith, size) in
    inl (subst (Going c.args.cells.now c.args.n (c.args.o ∷ take c.args.m c.args.out.now) c.expand-at.new.p c.expand-at.result) z w)
