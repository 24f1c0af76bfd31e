use native.Mathlib.Omega.{arith}
use Rattle.plan_walk_formed.proofs.FormedLaws.{steps_more, decided_yes, decided_no}
use Rattle.plan_walk_formed.proofs.steps_formed.Goals as goal

pub loop-i-init : goal.loop-i-init
loop-i-init c = λ j h l. absurd (omega arith)

pub step_formed-requires : goal.step_formed-requires
step_formed-requires c = let p = c.requires in
    (p.0, p.1, omega (arith, p.2, c.loop-i-test.true))

pub loop-i-preserved : goal.loop-i-preserved
loop-i-preserved c = let l = c.loop-i in
    steps_more _ _ _ _ l.i l.invariant (decided_yes _ _ c.step_formed.ensures c.if-not-step_formed.false)

pub returns-then-not-step_formed : goal.returns-then-not-step_formed
returns-then-not-step_formed c = let l = c.loop-i in
    λ f. decided_no _ _ c.step_formed.ensures c.if-not-step_formed.true (f l.i l.auto.i c.loop-i-test.true)

pub returns : goal.returns
returns c = let l = c.loop-i in
    λ j h v. l.invariant j h (omega (arith, c.loop-i-test.false))
