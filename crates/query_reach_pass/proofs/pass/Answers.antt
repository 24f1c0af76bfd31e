-- Along the links of the definition's spreads: what those before row j lead to is marked.
use mathlib.Core.Path.{refl, sym, ◌∙◌}
use native.Mathlib.Omega.{arith}
use Rattle.query_rows.proofs.RowsIn.{rows_count}
use Rattle.query_rows.proofs.Rooms.{room_enough}
use Rattle.query_reach_pass.proofs.PassLaws.{start_below, passed_below, passed_first, passing_start, passing_room, passing_less, passing_more, passing_end}
use Rattle.query_reach_pass.proofs.pass.Goals as goal

pub overflow_cast-stamp : goal.overflow_cast-stamp
overflow_cast-stamp c = omega (arith, start_below c.requires.0 c.requires.1)

pub overflow_add-stamp : goal.overflow_add-stamp
overflow_add-stamp c = omega (arith, start_below c.requires.0 c.requires.1)

pub offset_bounds-first-g : goal.offset_bounds-first-g
offset_bounds-first-g c = omega (arith, passed_below c.requires.0 c.requires.1)

pub bounds-first-g : goal.bounds-first-g
bounds-first-g c = omega (arith, passed_first c.requires.0 c.requires.1)

pub overflow_cast-j : goal.overflow_cast-j
overflow_cast-j c = omega (arith, c.shared_slice_known-6-1.given c.args.g)

pub loop-j-init : goal.loop-j-init
loop-j-init c = passing_start c.requires.0 c.requires.1 refl

pub offset_bounds-target-j : goal.offset_bounds-target-j
offset_bounds-target-j c = omega (arith, c.loop-j-test.true, c.requires.0.few, rows_count c.args.rows.now c.args.n)

pub bounds-target-j : goal.bounds-target-j
bounds-target-j c = omega (arith, c.loop-j-test.true, c.requires.0.few, rows_count c.args.rows.now c.args.n, c.requires.0.targeted.size, room_enough _ c.requires.0.few)

pub overflow_cast-target : goal.overflow_cast-target
overflow_cast-target c = omega (arith, c.shared_slice_known-in-loop-j-1.given c.loop-j.j)

pub note-height-requires : goal.note-height-requires
note-height-requires c = passing_room c.requires.0 (rows_count c.args.rows.now c.args.n) c.loop-j.invariant

pub offset_bounds-next-j : goal.offset_bounds-next-j
offset_bounds-next-j c = omega (arith, c.loop-j-test.true, c.requires.0.few, rows_count c.args.rows.now c.args.n)

pub bounds-next-j : goal.bounds-next-j
bounds-next-j c = omega (arith, c.loop-j-test.true, c.requires.0.few, rows_count c.args.rows.now c.args.n, c.requires.0.linked.nexts, room_enough _ c.requires.0.few)

pub overflow_cast-j-in-loop-j : goal.overflow_cast-j-in-loop-j
overflow_cast-j-in-loop-j c = omega (arith, c.shared_slice_known-in-loop-j-2-1.given c.loop-j.j)

pub loop-j-smaller : goal.loop-j-smaller
loop-j-smaller c = omega (arith, c.loop-j-test.true, passing_less c.requires.0 (rows_count c.args.rows.now c.args.n) c.loop-j.invariant c.loop-j-test.true refl)

pub loop-j-preserved : goal.loop-j-preserved
loop-j-preserved c = passing_more c.requires.0 (rows_count c.args.rows.now c.args.n) c.loop-j.invariant c.loop-j-test.true refl refl c.note-height.ensures

pub shape_of-mark : goal.shape_of-mark
shape_of-mark c = c.loop-j.invariant.search.stamped.size ∙ sym c.requires.1.stamped.size

pub shape_of-stack : goal.shape_of-stack
shape_of-stack c = c.loop-j.invariant.search.stacked ∙ sym c.requires.1.stacked

pub returns : goal.returns
returns c = passing_end c.requires.0 (rows_count c.args.rows.now c.args.n) c.loop-j.invariant _ c.loop-j-test.false
