use mathlib.Core.Path.{sym, ◌∙◌}
use native.Mathlib.Omega.{arith}
use Rattle.plan_walk_blocks.proofs.GroupLaws.{groups_start, groups_past, groups_room, groups_more, groups_end}
use Rattle.plan_walk_blocks.proofs.group.Goals as goal

pub loop-i-init : goal.loop-i-init
loop-i-init c = groups_start c.args.found.now c.args.n _

pub came_before-requires : goal.came_before-requires
came_before-requires c = let l = c.loop-i in
    (omega (arith, c.requires.0, l.invariant.high), omega (arith, c.requires.1, l.invariant.high))

pub loop-i-preserved-then-came_before : goal.loop-i-preserved-then-came_before
loop-i-preserved-then-came_before c = let a = c.args in
    let l = c.loop-i in
    groups_past a.found.now a.n _ _ _ l.i l.invariant c.loop-i-test.true (sym c.came_before.ensures ∙ c.if-came_before.true)

pub emit-m-requires : goal.emit-m-requires
emit-m-requires c = let a = c.args in
    let l = c.loop-i in
    let p = c.requires in
    (p.0, omega (arith, l.invariant.high), p.1, omega (arith, p.2, l.invariant.size), groups_room a.found.now a.n _ _ l.m l.i l.invariant c.loop-i-test.true (sym c.came_before.ensures ∙ c.if-came_before.false) p.1)

pub loop-i-preserved : goal.loop-i-preserved
loop-i-preserved c = let a = c.args in
    let l = c.loop-i in
    groups_more a.found.now a.n _ _ l.m l.i l.invariant c.loop-i-test.true (sym c.came_before.ensures ∙ c.if-came_before.false) _ _ c.emit-m.auto.out c.emit-m.ensures

pub shape_of-out : goal.shape_of-out
shape_of-out c = c.loop-i.invariant.size

pub returns : goal.returns
returns c = let a = c.args in
    let l = c.loop-i in
    groups_end a.found.now a.n _ _ l.m l.i l.invariant c.loop-i-test.false
