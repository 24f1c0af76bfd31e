-- The row's owner is the definition itself, or marked by its search.
use Prim.Native.Nat.{◌<◌}
use native.Mathlib.Omega.{arith}
use Rattle.paper_query.specs.Constructs.{count}
use Rattle.query_rows.specs.Rowed.{doc_of}
use Rattle.query_rows.proofs.RowsIn.{rows_count}
use Rattle.query_rows.proofs.Rooms.{room_at}
use Rattle.query_spreads.proofs.OwnerLaws.{definition_within}
use Rattle.query_reach.proofs.DrawLaws.{reaches_own, reaches_none, reaches_mark}
use Rattle.query_reach.proofs.reaches.Goals as goal

pub bounds-owner-i : goal.bounds-owner-i
bounds-owner-i c = room_at _ _ _ c.requires.0.size c.requires.3 c.requires.4

pub overflow_cast-w : goal.overflow_cast-w
overflow_cast-w c = omega (arith, c.shared_slice_known-1.given c.args.i)

pub returns-then-w-o : goal.returns-then-w-o
returns-then-w-o c =
    let below : c.args.i < count (doc_of c.args.s.now c.args.rows.now c.args.n) = omega (arith, rows_count c.args.rows.now c.args.n, c.requires.4) in
    reaches_own _ _ _ _ c.requires.0 c.requires.1 c.requires.2 _ below c.if-w-o.true

pub returns-then-n-w : goal.returns-then-n-w
returns-then-n-w c =
    let below : c.args.i < count (doc_of c.args.s.now c.args.rows.now c.args.n) = omega (arith, rows_count c.args.rows.now c.args.n, c.requires.4) in
    let a = c.args in
    reaches_none _ _ _ _ c.requires.0 c.requires.1 c.requires.2 a.i below c.if-w-o.false (omega (arith, rows_count a.rows.now a.n, c.if-n-w.true))

pub offset_bounds-mark-w : goal.offset_bounds-mark-w
offset_bounds-mark-w c = omega (arith, c.if-n-w.false, c.requires.3)

pub bounds-mark-w : goal.bounds-mark-w
bounds-mark-w c = room_at _ _ _ c.requires.1.stamped.size c.requires.3 (omega (arith, c.if-n-w.false))

pub overflow_cast-result : goal.overflow_cast-result
overflow_cast-result c = let a = c.args in
    omega (arith, rows_count a.rows.now a.n, definition_within (doc_of a.s.now a.rows.now a.n) a.o c.requires.2, c.requires.3)

pub overflow_add-result : goal.overflow_add-result
overflow_add-result c = let a = c.args in
    omega (arith, rows_count a.rows.now a.n, definition_within (doc_of a.s.now a.rows.now a.n) a.o c.requires.2, c.requires.3)

pub returns : goal.returns
returns c =
    let below : c.args.i < count (doc_of c.args.s.now c.args.rows.now c.args.n) = omega (arith, rows_count c.args.rows.now c.args.n, c.requires.4) in
    let a = c.args in
    reaches_mark _ _ _ _ c.requires.0 c.requires.1 c.requires.2 a.i below c.if-w-o.false (omega (arith, rows_count a.rows.now a.n, c.if-n-w.false))
