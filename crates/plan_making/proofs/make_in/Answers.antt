use mathlib.Core.Path.{refl, sym, ◌∙◌}
use native.Mathlib.Omega.{arith}
use Prim.Native.Nat.{ℕ}
use lib.ListN.{take, length-replicate}
use Rattle.paper.specs.Numbers.{rows_size}
use Rattle.query_rows.proofs.Rooms.{room_most, room_enough}
use Rattle.query_links.specs.Links.{firsts_size, kinds_size}
use Rattle.plan_making.proofs.MadeLaws.{operation_low, prepared_tables, prepared_holders, prepared_made}
use Rattle.plan_making.proofs.make_in.Goals as goal

pub slice_bounds-ready-end : goal.slice_bounds-ready-end
slice_bounds-ready-end g c = omega (arith, c.requires.1)

pub whole_as_slice-ready : goal.whole_as_slice-ready
whole_as_slice-ready g c = omega (arith, c.requires.2, room_most c.args.n)

pub whole_as_slice-ready-2 : goal.whole_as_slice-ready-2
whole_as_slice-ready-2 g c = omega (arith, c.requires.2, room_most c.args.n)

pub whole_as_slice-ready-3 : goal.whole_as_slice-ready-3
whole_as_slice-ready-3 g c = omega (arith, c.requires.2, room_most c.args.n)

pub whole_as_slice-ready-4 : goal.whole_as_slice-ready-4
whole_as_slice-ready-4 g c = omega (arith, c.requires.2, room_most c.args.n)

pub whole_as_slice-ready-5 : goal.whole_as_slice-ready-5
whole_as_slice-ready-5 g c = omega (arith, c.requires.2, room_most c.args.n)

pub whole_as_slice-ready-6 : goal.whole_as_slice-ready-6
whole_as_slice-ready-6 g c = omega (arith, c.requires.2, room_most c.args.n)

pub whole_as_slice-ready-7 : goal.whole_as_slice-ready-7
whole_as_slice-ready-7 g c = omega (arith, c.requires.2, room_most c.args.n)

pub shared_whole_as_slice-write_cleared-2 : goal.shared_whole_as_slice-write_cleared-2
shared_whole_as_slice-write_cleared-2 g c = omega (arith, c.requires.2, room_most c.args.n)

pub shared_whole_as_slice-write_cleared-3 : goal.shared_whole_as_slice-write_cleared-3
shared_whole_as_slice-write_cleared-3 g c = omega (arith, c.requires.2, room_most c.args.n)

pub whole_as_slice-write_cleared : goal.whole_as_slice-write_cleared
whole_as_slice-write_cleared g c = omega (arith, c.requires.2, room_most c.args.n)

pub whole_as_slice-write_cleared-2 : goal.whole_as_slice-write_cleared-2
whole_as_slice-write_cleared-2 g c = omega (arith, c.requires.2, room_most c.args.n)

pub ready-m-requires : goal.ready-m-requires
ready-m-requires g c = let e = length-replicate {A = ℕ} g.row.ROOM 0 ∙ c.requires.2 in (c.requires.0, refl {a = firsts_size}, e, refl {a = kinds_size}, e, e, e, e, refl {a = firsts_size}, e, e, omega (arith, c.requires.3, length-replicate {A = ℕ} g.row.TABLE 0))

pub slice_bounds-write_cleared-end-2 : goal.slice_bounds-write_cleared-end-2
slice_bounds-write_cleared-end-2 g c = sym c.first-2-1.given

pub overflow_cast-o : goal.overflow_cast-o
overflow_cast-o g c = omega (arith, operation_low c.args.t.now c.args.book.now c.args.s.now (take rows_size c.args.plan.now) c.args.n c.args.o c.requires.0, c.requires.0.rowed.few)

pub write_cleared-requires : goal.write_cleared-requires
write_cleared-requires g c = (prepared_tables c.args.t.now c.args.book.now c.args.s.now (take rows_size c.args.plan.now) c.args.n c.args.o c.requires.0 _ _ _ _ _ c.ready-m.ensures, prepared_holders c.args.t.now c.args.book.now c.args.s.now (take rows_size c.args.plan.now) c.args.n c.args.o c.requires.0 _ _ _ _ _ c.ready-m.ensures, c.requires.1, omega (arith, c.requires.2, room_enough c.args.n c.requires.0.rowed.few, length-replicate {A = ℕ} g.row.ROOM 0), omega (arith, c.requires.2, room_enough c.args.n c.requires.0.rowed.few, length-replicate {A = ℕ} g.row.ROOM 0))

pub returns : goal.returns
returns g c = prepared_made c.args.t.now c.args.book.now c.args.s.now (take rows_size c.args.plan.now) c.args.n c.args.o c.requires.0 _ _ _ _ _ c.ready-m.ensures _ _ c.write_cleared.ensures
