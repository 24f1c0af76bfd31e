-- From the last row to the first.
use mathlib.Core.Path.{refl, sym, ◌∙◌}
use native.Mathlib.Omega.{arith}
use Rattle.query_rows.proofs.Rooms.{room_rows}
use Rattle.query_subtrees.proofs.Hops.{pasts_none, pasts_low, pasts_room, pasts_behind, pasts_more, pasts_all}
use Rattle.query_subtrees.proofs.fill_pasts.Goals as goal

pub loop-i-init : goal.loop-i-init
loop-i-init c = let a = c.args in
    pasts_none a.rows.now _ a.n c.requires.1

pub find_past-e-requires : goal.find_past-e-requires
find_past-e-requires c = let a = c.args in let p = c.requires in let l = c.loop-i in
    (p.0, pasts_behind a.rows.now l.past a.n l.i p.0.few c.loop-i-test.true l.invariant, pasts_low a.rows.now l.past a.n l.i p.0.few c.loop-i-test.true l.invariant)

pub overflow_cast-past : goal.overflow_cast-past
overflow_cast-past c = omega (arith, c.find_past-e.ensures.1, c.requires.0.few)

pub offset_bounds-past-i : goal.offset_bounds-past-i
offset_bounds-past-i c = let a = c.args in let p = c.requires in let l = c.loop-i in
    omega (arith, p.0.few, pasts_low a.rows.now l.past a.n l.i p.0.few c.loop-i-test.true l.invariant)

pub bounds-past-i : goal.bounds-past-i
bounds-past-i c = let a = c.args in let p = c.requires in let l = c.loop-i in
    pasts_room a.rows.now l.past a.n l.i p.0.few c.loop-i-test.true l.invariant

pub loop-i-preserved : goal.loop-i-preserved
loop-i-preserved c = let a = c.args in let p = c.requires in let l = c.loop-i in
    pasts_more a.rows.now l.past a.n l.i p.0.few c.loop-i-test.true l.invariant _ c.find_past-e.ensures.0 refl

pub shape_of-past : goal.shape_of-past
shape_of-past c = c.loop-i.invariant.size ∙ room_rows _ _ ∙ sym c.requires.1

pub returns : goal.returns
returns c = let a = c.args in
    pasts_all a.rows.now _ a.n c.loop-i.i c.loop-i.invariant c.loop-i-test.false
