-- Variable by variable, along the rows of that kind: the row that it is like stands before it.
use mathlib.Core.Path.{◌≡◌, sym, ◌∙◌}
use mathlib.Core.Bool.{true}
use Prim.Native.Nat.{suc, ◌<◌}
use native.Mathlib.Omega.{arith}
use borrow.Author.Tests.{eq-eqb}
use Rattle.paper.specs.Numbers.{kind_variable}
use Rattle.paper_table.specs.Types.{table_of}
use Rattle.paper_query.specs.Constructs.{count, is}
use Rattle.query_rows.specs.Rowed.{row_in, doc_of}
use Rattle.query_rows.proofs.RowsIn.{rows_count}
use Rattle.query_rows.proofs.Rooms.{room_at}
use Rattle.query_links.proofs.ChainWalks.{kinds_first, kinds_after, kinds_less, kinds_room}
use Rattle.query_alike.proofs.FlagsLaws.{kind_next}
use Rattle.query_alike.proofs.LikenLaws.{settle_start, settle_before, settle_more, settle_end}
use Rattle.query_alike.proofs.settle.Goals as goal

pub link_of-v-requires : goal.link_of-v-requires
link_of-v-requires c = omega (arith, c.requires.1.firsts)

pub loop-v-init : goal.loop-v-init
loop-v-init c = let d = doc_of c.args.s.now c.args.rows.now c.args.n in
    settle_start (table_of c.args.t.now) d c.args.n c.args.n c.args.flag.now c.link_of-v.result (kind_next d kind_variable 0 (omega arith) (kinds_first c.args.rows.now c.args.n c.args.firstk.now c.args.nextk.now c.requires.1 kind_variable (omega arith) c.link_of-v.ensures)) c.requires.2

pub own_flag-requires : goal.own_flag-requires
own_flag-requires c =
    let below : c.loop-v.v < count (doc_of c.args.s.now c.args.rows.now c.args.n) = omega (arith, rows_count c.args.rows.now c.args.n, c.loop-v-test.true) in
    let l = c.loop-v in
    let d = doc_of c.args.s.now c.args.rows.now c.args.n in
    let b = below in
    let r = room_at c.args.rows.now c.args.n l.v l.invariant.flags.size c.requires.0.few c.loop-v-test.true in
    (r, λ h. omega (arith, settle_before (table_of c.args.t.now) d c.args.n c.args.n l.flag l.v l.invariant b h, r))

pub offset_bounds-flag-v : goal.offset_bounds-flag-v
offset_bounds-flag-v c = omega (arith, c.loop-v-test.true, c.requires.0.few)

pub bounds-flag-v : goal.bounds-flag-v
bounds-flag-v c = room_at _ _ _ c.loop-v.invariant.flags.size c.requires.0.few c.loop-v-test.true

pub link_of-v-requires-in-loop-v : goal.link_of-v-requires-in-loop-v
link_of-v-requires-in-loop-v c = kinds_room c.args.rows.now c.args.n c.args.firstk.now c.args.nextk.now c.requires.1 c.loop-v.v c.loop-v-test.true c.requires.0.few

pub loop-v-smaller : goal.loop-v-smaller
loop-v-smaller c =
    let below : c.loop-v.v < count (doc_of c.args.s.now c.args.rows.now c.args.n) = omega (arith, rows_count c.args.rows.now c.args.n, c.loop-v-test.true) in
    let variable : is kind_variable (row_in c.args.rows.now c.args.n c.loop-v.v) ≡ true = let l = c.loop-v in
    eq-eqb (row_in c.args.rows.now c.args.n l.v).kind kind_variable (l.invariant.at below) in
    omega (arith, c.loop-v-test.true, kinds_less c.args.rows.now c.args.n c.args.firstk.now c.args.nextk.now c.requires.1 kind_variable c.loop-v.v (omega arith) c.loop-v-test.true variable c.link_of-v-in-loop-v.ensures)

pub loop-v-preserved : goal.loop-v-preserved
loop-v-preserved c =
    let below : c.loop-v.v < count (doc_of c.args.s.now c.args.rows.now c.args.n) = omega (arith, rows_count c.args.rows.now c.args.n, c.loop-v-test.true) in
    let variable : is kind_variable (row_in c.args.rows.now c.args.n c.loop-v.v) ≡ true = let l = c.loop-v in
    eq-eqb (row_in c.args.rows.now c.args.n l.v).kind kind_variable (l.invariant.at below) in
    let l = c.loop-v in
    let d = doc_of c.args.s.now c.args.rows.now c.args.n in
    settle_more (table_of c.args.t.now) d c.args.n c.args.n l.flag l.v l.invariant c.own_flag.result c.link_of-v-in-loop-v.result below (omega (arith, rows_count c.args.rows.now c.args.n, c.requires.0.few)) (kind_next d kind_variable (suc l.v) below (kinds_after c.args.rows.now c.args.n c.args.firstk.now c.args.nextk.now c.requires.1 kind_variable l.v (omega arith) c.loop-v-test.true variable c.link_of-v-in-loop-v.ensures)) c.own_flag.ensures

pub shape_of-flag : goal.shape_of-flag
shape_of-flag c = c.loop-v.invariant.flags.size ∙ sym c.requires.2.size

pub returns : goal.returns
returns c = let l = c.loop-v in
    settle_end (table_of c.args.t.now) (doc_of c.args.s.now c.args.rows.now c.args.n) c.args.n c.args.n l.flag l.v l.invariant (omega (arith, rows_count c.args.rows.now c.args.n, c.loop-v-test.false))
