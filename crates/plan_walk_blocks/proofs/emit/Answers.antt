use Prim.Native.Nat.{◌*◌}
use native.Mathlib.Omega.{arith}
use lib.ListN.{length-set}
use Rattle.plan_walk_blocks.proofs.GroupLaws.{emits_start, emits_below, emits_found, emits_past, emits_end}
use Rattle.plan_walk_blocks.proofs.emit.Goals as goal

pub loop-j-init : goal.loop-j-init
loop-j-init c = let a = c.args in
    let p = c.requires in
    emits_start a.found.now a.i a.n a.key _ a.m p.1 p.4

pub bounds-out-k : goal.bounds-out-k
bounds-out-k c = let a = c.args in
    let l = c.loop-j in
    omega (arith, c.requires.3, l.invariant.size, emits_below a.found.now a.i a.n a.key _ a.m _ l.k l.j l.invariant c.loop-j-test.true c.if-found-j.false)

pub bounds-out-k-in-loop-j : goal.bounds-out-k-in-loop-j
bounds-out-k-in-loop-j c = let a = c.args in
    let l = c.loop-j in
    omega (arith, c.requires.3, l.invariant.size, length-set l.out (2 * l.k) a.key, emits_below a.found.now a.i a.n a.key _ a.m _ l.k l.j l.invariant c.loop-j-test.true c.if-found-j.false)

pub loop-j-preserved : goal.loop-j-preserved
loop-j-preserved c = let a = c.args in
    let l = c.loop-j in
    emits_found a.found.now a.i a.n a.key _ a.m _ l.k l.j l.invariant c.loop-j-test.true c.if-found-j.false c.requires.3

pub loop-j-preserved-then-found-j : goal.loop-j-preserved-then-found-j
loop-j-preserved-then-found-j c = let a = c.args in
    let l = c.loop-j in
    emits_past a.found.now a.i a.n a.key _ a.m _ l.k l.j l.invariant c.loop-j-test.true c.if-found-j.true

pub shape_of-out : goal.shape_of-out
shape_of-out c = c.loop-j.invariant.size

pub returns : goal.returns
returns c = let a = c.args in
    let l = c.loop-j in
    emits_end a.found.now a.i a.n a.key _ a.m _ l.k l.j l.invariant c.loop-j-test.false
