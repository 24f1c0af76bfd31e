use mathlib.Core.Path.{sym, ap, ◌∙◌}
use native.Mathlib.Omega.{arith}
use borrow.Author.Tests.{eq-eqb}
use Rattle.query_rows.specs.Rowed.{room_of}
use Rattle.query_rows.proofs.RowsIn.{rows_count, rowed_sized}
use Rattle.query_rows.proofs.Rooms.{room_enough}
use Rattle.plan_tests.proofs.TableLaws.{is_field_is, is_spread, is_inline}
use Rattle.plan_tests.proofs.FewLaws.{parent_few, key_few}
use Rattle.plan_tests.proofs.fill_kept.Goals as goal

pub kind_of-kind-requires : goal.kind_of-kind-requires
kind_of-kind-requires c = rowed_sized c.requires.0.rowed

pub parent_of-above-requires : goal.parent_of-above-requires
parent_of-above-requires c = rowed_sized c.requires.0.rowed

pub bounds-keys-i : goal.bounds-keys-i
bounds-keys-i c = omega (arith, c.requires.0.keyed.size, c.requires.1, rows_count c.args.rows.now c.args.n, room_enough c.args.n c.requires.0.rowed.few, ap room_of (rows_count c.args.rows.now c.args.n))

pub overflow_cast-keys : goal.overflow_cast-keys
overflow_cast-keys c = omega (arith, c.shared_slice_known-then-kind-eq-KIND_FIELD-1.given c.args.i)

pub put_head-requires : goal.put_head-requires
put_head-requires c = (c.requires.4.size, omega (arith, c.parent_of-above.ensures, parent_few c.args.s.now c.args.rows.now c.args.n c.args.i c.requires.0.rowed c.requires.1), key_few c.args.s.now c.args.rows.now c.args.n c.args.i c.requires.0.rowed c.requires.1 c.args.t.now c.args.keys.now c.requires.0.keyed (sym c.kind_of-kind.ensures ∙ c.if-kind-eq-KIND_FIELD.true), omega (arith, c.requires.3))

pub returns-then-kind-eq-KIND_FIELD : goal.returns-then-kind-eq-KIND_FIELD
returns-then-kind-eq-KIND_FIELD c = is_field_is c.args.t.now c.args.s.now c.args.rows.now c.args.n c.args.o c.args.i c.args.keys.now c.requires.0.rowed.few c.requires.0.keyed c.requires.1 c.args.row.now _ c.args.m c.requires.2 c.requires.5 c.requires.4 c.requires.3 _ c.parent_of-above.ensures (sym c.kind_of-kind.ensures ∙ c.if-kind-eq-KIND_FIELD.true) c.put_head.ensures

pub fill_spread-requires : goal.fill_spread-requires
fill_spread-requires c = (c.requires.0, c.requires.1, eq-eqb _ _ (sym c.kind_of-kind.ensures ∙ c.if-kind-eq-KIND_SPREAD.true), c.requires.3, omega (arith, c.parent_of-above.ensures, parent_few c.args.s.now c.args.rows.now c.args.n c.args.i c.requires.0.rowed c.requires.1), c.requires.4.size)

pub returns-then-kind-eq-KIND_SPREAD : goal.returns-then-kind-eq-KIND_SPREAD
returns-then-kind-eq-KIND_SPREAD c = is_spread c.args.t.now c.args.s.now c.args.rows.now c.args.n c.args.o c.args.i c.requires.0.rowed.few c.requires.0.spreads c.args.row.now _ c.args.m c.requires.2 c.requires.5 c.requires.4 c.requires.3 _ c.parent_of-above.ensures (sym c.kind_of-kind.ensures ∙ c.if-kind-eq-KIND_SPREAD.true) c.fill_spread.ensures

pub fill_inline-requires : goal.fill_inline-requires
fill_inline-requires c = (c.requires.0.booked, c.requires.0.rowed, c.requires.0.family, c.requires.1, c.requires.3, omega (arith, c.parent_of-above.ensures, parent_few c.args.s.now c.args.rows.now c.args.n c.args.i c.requires.0.rowed c.requires.1), c.requires.4.size)

pub returns : goal.returns
returns c = is_inline c.args.t.now c.args.s.now c.args.rows.now c.args.n c.args.o c.args.i c.requires.0.rowed.few c.requires.1 c.args.row.now _ c.args.m c.requires.2 c.requires.5 c.requires.4 c.requires.3 _ c.parent_of-above.ensures (λ q. c.if-kind-eq-KIND_FIELD.false (c.kind_of-kind.ensures ∙ q)) (λ q. c.if-kind-eq-KIND_SPREAD.false (c.kind_of-kind.ensures ∙ q)) c.fill_inline.ensures
