-- One byte more at each turn, and what comes decides.
use native.Mathlib.Omega.{arith}
use Rattle.table_rooms.proofs.RoomLaws.{wrapping_start, wrapping_end, wrapping_over, wrapping_on}
use Rattle.table_rooms.proofs.wrapper_over.Goals as goal

pub loop-i-init : goal.loop-i-init
loop-i-init c = wrapping_start c.args.t.now c.args.start c.args.end c.requires.order

pub bounds-t-i : goal.bounds-t-i
bounds-t-i c = omega (arith, c.loop-i-test.true, c.requires.within)

pub overflow_cast-result : goal.overflow_cast-result
overflow_cast-result c = omega (arith, c.loop-i.invariant.order, c.requires.within, c.requires.most)

pub returns-then-left-n : goal.returns-then-left-n
returns-then-left-n c = wrapping_over c.args.t.now c.args.start c.args.end _ c.loop-i.i c.requires.within c.loop-i.invariant c.loop-i-test.true _ c.wraps-n.ensures c.if-left-n.true

pub loop-i-preserved : goal.loop-i-preserved
loop-i-preserved c = wrapping_on c.args.t.now c.args.start c.args.end _ c.loop-i.i c.requires.within c.loop-i.invariant c.loop-i-test.true _ c.wraps-n.ensures c.if-left-n.false

pub returns : goal.returns
returns c = wrapping_end c.args.t.now c.args.start c.args.end _ c.loop-i.i c.requires.within c.loop-i.invariant c.loop-i-test.false
