-- Row by row.
use mathlib.Core.Path.{◌≡◌, refl, ◌∙◌, subst}
use mathlib.Core.Bool.{Bool}
use native.Mathlib.Omega.{arith}
use lib.ListN.{length-set}
use Rattle.query_rows.specs.Rowed.{doc_of, Decides}
use Rattle.paper_plan.specs.Selecting.{IsBlock}
use Rattle.plan_blocks.specs.Blocks.{BlocksTo}
use Rattle.plan_blocks.proofs.BlockLaws.{blocks_none, blocks_skip, blocks_add}
use Rattle.plan_blocks.proofs.list_blocks.Goals as goal

pub loop-i-init : goal.loop-i-init
loop-i-init c = let a = c.args in
    (blocks_none (doc_of a.s.now a.rows.now a.n) a.o _, refl, omega arith)

pub is_block-requires : goal.is_block-requires
is_block-requires c = let p = c.requires in
    (p.0, p.1, p.2, p.3, p.4, c.loop-i-test.true)

pub overflow_cast-out : goal.overflow_cast-out
overflow_cast-out c = omega (arith, c.loop-i-test.true, c.requires.0.few)

pub bounds-out-m : goal.bounds-out-m
bounds-out-m c = omega (arith, c.loop-i-test.true, c.loop-i.invariant.0.few, c.loop-i.invariant.1, c.requires.5)

pub overflow_add-m : goal.overflow_add-m
overflow_add-m c = omega (arith, c.loop-i-test.true, c.loop-i.invariant.0.few, c.requires.0.few)

pub loop-i-preserved-then-not-is_block : goal.loop-i-preserved-then-not-is_block
loop-i-preserved-then-not-is_block c = let a = c.args in let l = c.loop-i in
    let w = subst (λ (b : Bool). Decides b (IsBlock (doc_of a.s.now a.rows.now a.n) a.o l.i)) c.if-not-is_block.true c.is_block.ensures in
    (blocks_skip (doc_of a.s.now a.rows.now a.n) a.o l.out l.m l.i l.invariant.0 w, l.invariant.1, omega (arith, c.loop-i-test.true))

pub loop-i-preserved : goal.loop-i-preserved
loop-i-preserved c = let a = c.args in let l = c.loop-i in
    let w = subst (λ (b : Bool). Decides b (IsBlock (doc_of a.s.now a.rows.now a.n) a.o l.i)) c.if-not-is_block.false c.is_block.ensures in
    (blocks_add (doc_of a.s.now a.rows.now a.n) a.o l.out l.m l.i l.invariant.0 w (omega (arith, c.loop-i-test.true, l.invariant.0.few, l.invariant.1, c.requires.5)) _ refl, length-set l.out l.m l.i ∙ l.invariant.1, omega (arith, c.loop-i-test.true))

pub shape_of-out : goal.shape_of-out
shape_of-out c = c.loop-i.invariant.1

pub returns : goal.returns
returns c = let a = c.args in let l = c.loop-i in
    let z : l.i ≡ a.n = omega (arith, c.loop-i-test.false, l.invariant.2) in
    subst (BlocksTo (doc_of a.s.now a.rows.now a.n) a.o l.out l.m) z l.invariant.0
