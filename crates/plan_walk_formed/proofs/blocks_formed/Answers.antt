use native.Mathlib.Omega.{arith}
use Rattle.plan_walk_formed.proofs.FormedLaws.{blocks_more, decided_yes, decided_no}
use Rattle.plan_walk_formed.proofs.blocks_formed.Goals as goal

pub number_at-n-requires : goal.number_at-n-requires
number_at-n-requires c = omega (arith, c.requires.1.long)

pub loop-b-init : goal.loop-b-init
loop-b-init c = (c.number_at-n.ensures, λ j h. absurd (omega arith))

pub block_formed-requires : goal.block_formed-requires
block_formed-requires c = let p = c.requires in
    (p.0, p.1.long, omega (arith, p.1.few_blocks, c.loop-b.invariant.0, c.loop-b-test.true), p.1.few_steps)

pub loop-b-preserved : goal.loop-b-preserved
loop-b-preserved c = let l = c.loop-b in
    (l.invariant.0, blocks_more _ _ l.b l.invariant.1 (decided_yes _ _ c.block_formed.ensures c.if-not-block_formed.false))

pub returns-then-not-block_formed : goal.returns-then-not-block_formed
returns-then-not-block_formed c = let l = c.loop-b in
    λ f. decided_no _ _ c.block_formed.ensures c.if-not-block_formed.true (f l.b (omega (arith, l.invariant.0, c.loop-b-test.true)))

pub returns : goal.returns
returns c = let l = c.loop-b in
    λ j h. l.invariant.1 j (omega (arith, l.invariant.0, c.loop-b-test.false))
