-- `all_known` meets its contract: the blocks before this one are the plan's.
use mathlib.Core.Path.{refl}
use native.Mathlib.Omega.{arith}
use Rattle.plan_walk_asked.proofs.AskedLaws.{known_more}
use Rattle.plan_walk_asked.proofs.all_known.Goals as goal

pub bounds-p-0 : goal.bounds-p-0
bounds-p-0 c = omega arith

pub loop-b-init : goal.loop-b-init
loop-b-init c = (refl, λ i h. absurd (omega arith))

pub loop-b-preserved : goal.loop-b-preserved
loop-b-preserved c = let l = c.loop-b in
    let a = c.args in
    (l.invariant.0, known_more a.p.now a.blocks.now l.b-index l.invariant.1 (omega (arith, c.if-n-b.false)))

pub returns-then-n-b : goal.returns-then-n-b
returns-then-n-b c = λ k. let h = k c.loop-b.b-index c.loop-b-test.true in omega (arith, h, c.if-n-b.true)

pub returns : goal.returns
returns c = λ j h. c.loop-b.invariant.1 j (omega (arith, c.loop-b-test.false))
