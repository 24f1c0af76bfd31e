use mathlib.Core.Path.{refl, sym, ◌∙◌, subst}
use mathlib.Core.Logic.{inl, inr}
use Prim.Native.Nat.{ℕ, ◌<◌}
use native.Mathlib.Omega.{arith}
use Rattle.paper_plan.specs.PlanNumbers.{blocks_in}
use Rattle.plan_walk_steps.specs.Numbers.{Over}
use Rattle.plan_walk_blocks.specs.Answers.{after_all}
use Rattle.plan_walk_blocks.proofs.BlocksLaws.{going_start, going_over, going_on, going_end}
use Rattle.plan_walk_blocks.proofs.walk_blocks.Goals as goal

pub loop-j-init : goal.loop-j-init
loop-j-init c = let a = c.args in
    (omega arith, going_start a.p.now a.blocks.now a.vars.now a.fits.now _ _ c.requires.3, refl, refl)

pub walk_one-m-requires : goal.walk_one-m-requires
walk_one-m-requires c = let p = c.requires in
    let l = c.loop-j in
    let r = p.2 in (
      p.0,
      subst (λ (x : ℕ). x < blocks_in c.args.p.now) (sym c.number_at-b.ensures) (p.1 l.j c.loop-j-test.true),
      record { vars_long = r.vars_long; fits_long = r.fits_long; met_long = omega (arith, r.met_long, l.invariant.2); out_long = omega (arith, r.out_long, l.invariant.3) },
      l.invariant.1.held.few,
    )

pub returns-then-m-eq-TOO_MANY_PAIRS : goal.returns-then-m-eq-TOO_MANY_PAIRS
returns-then-m-eq-TOO_MANY_PAIRS c = let a = c.args in
    let l = c.loop-j in
    let e = c.if-m-eq-TOO_MANY_PAIRS.true in
    inl (subst (λ (k : ℕ). Over k (after_all a.p.now a.blocks.now a.vars.now a.fits.now)) e (going_over a.p.now a.blocks.now a.vars.now a.fits.now _ _ l.j _ l.invariant.1 c.loop-j-test.true _ _ _ _ c.number_at-b.ensures c.walk_one-m.ensures e))

pub loop-j-preserved : goal.loop-j-preserved
loop-j-preserved c = let a = c.args in
    let l = c.loop-j in
    let k = c.walk_one-m.auto in
    (omega (arith, c.loop-j-test.true), going_on a.p.now a.blocks.now a.vars.now a.fits.now _ _ l.j _ l.invariant.1 c.loop-j-test.true _ _ _ _ c.number_at-b.ensures c.walk_one-m.ensures c.if-m-eq-TOO_MANY_PAIRS.false, k.met ∙ l.invariant.2, k.out ∙ l.invariant.3)

pub returns : goal.returns
returns c = let a = c.args in
    let l = c.loop-j in
    inr (going_end a.p.now a.blocks.now a.vars.now a.fits.now _ _ l.j _ l.invariant.1 c.loop-j-test.false)
