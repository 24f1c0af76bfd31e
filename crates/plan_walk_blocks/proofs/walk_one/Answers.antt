use native.Mathlib.Omega.{arith}
use Rattle.plan_walk_blocks.proofs.BlocksLaws.{block_ready, block_walks}
use Rattle.plan_walk_blocks.proofs.walk_one.Goals as goal

pub number_at-requires : goal.number_at-requires
number_at-requires c = let p = c.requires in
    omega (arith, p.0.long, p.0.few_blocks, p.1)

pub end_of-requires : goal.end_of-requires
end_of-requires c = let p = c.requires in
    (p.0.long, omega (arith, p.0.few_blocks, p.1))

pub walk_block-requires : goal.walk_block-requires
walk_block-requires c = let p = c.requires in
    block_ready _ p.0 _ p.1 _ _ _ _ _ _ _ c.number_at.ensures c.end_of.ensures p.2 p.3

pub returns : goal.returns
returns c = let p = c.requires in
    let a = c.args in
    block_walks a.p.now p.0 a.b p.1 a.vars.now a.fits.now a.met.now a.out.now a.n _ _ _ _ _ c.number_at.ensures c.end_of.ensures c.walk_block.ensures
