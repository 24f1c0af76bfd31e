-- Variable by variable, along the rows of that kind.
use mathlib.Core.Path.{◌≡◌, sym, ◌∙◌}
use mathlib.Core.Bool.{true}
use Prim.Native.Nat.{suc, ◌<◌}
use native.Mathlib.Omega.{arith}
use borrow.Author.Tests.{eq-eqb}
use Rattle.paper.specs.Numbers.{kind_variable}
use Rattle.paper_table.specs.Types.{table_of}
use Rattle.paper_query.specs.Constructs.{count, is}
use Rattle.query_rows.specs.Rowed.{row_in, doc_of}
use Rattle.query_rows.proofs.RowsIn.{rows_count}
use Rattle.query_rows.proofs.Rooms.{room_rows}
use Rattle.query_links.proofs.ChainWalks.{kinds_first, kinds_after, kinds_less, kinds_room}
use Rattle.query_alike.proofs.FlagsLaws.{kind_next}
use Rattle.query_alike.proofs.LikenLaws.{liken_start, liken_more, liken_end}
use Rattle.query_alike.proofs.liken.Goals as goal

pub link_of-v-requires : goal.link_of-v-requires
link_of-v-requires c = omega (arith, c.requires.1.firsts)

pub loop-v-init : goal.loop-v-init
loop-v-init c = let d = doc_of c.args.s.now c.args.rows.now c.args.n in
    liken_start (table_of c.args.t.now) d c.args.n c.args.stack.now c.args.flag.now c.link_of-v.result (kind_next d kind_variable 0 (omega arith) (kinds_first c.args.rows.now c.args.n c.args.firstk.now c.args.nextk.now c.requires.1 kind_variable (omega arith) c.link_of-v.ensures)) (c.requires.2 ∙ sym (room_rows c.args.rows.now c.args.n)) c.requires.3

pub liken_one-m-requires : goal.liken_one-m-requires
liken_one-m-requires c =
    let below : c.loop-v.v < count (doc_of c.args.s.now c.args.rows.now c.args.n) = omega (arith, rows_count c.args.rows.now c.args.n, c.loop-v-test.true) in
    let l = c.loop-v in
    (c.requires.0, l.invariant.models, l.invariant.loop.at below, l.invariant.loop.flags.size ∙ room_rows _ _)

pub link_of-v-requires-in-loop-v : goal.link_of-v-requires-in-loop-v
link_of-v-requires-in-loop-v c = kinds_room c.args.rows.now c.args.n c.args.firstk.now c.args.nextk.now c.requires.1 c.loop-v.v c.loop-v-test.true c.requires.0.rowed.few

pub loop-v-smaller : goal.loop-v-smaller
loop-v-smaller c =
    let below : c.loop-v.v < count (doc_of c.args.s.now c.args.rows.now c.args.n) = omega (arith, rows_count c.args.rows.now c.args.n, c.loop-v-test.true) in
    let variable : is kind_variable (row_in c.args.rows.now c.args.n c.loop-v.v) ≡ true = let l = c.loop-v in
    eq-eqb (row_in c.args.rows.now c.args.n l.v).kind kind_variable (l.invariant.loop.at below) in
    omega (arith, c.loop-v-test.true, kinds_less c.args.rows.now c.args.n c.args.firstk.now c.args.nextk.now c.requires.1 kind_variable c.loop-v.v (omega arith) c.loop-v-test.true variable c.link_of-v-in-loop-v.ensures)

pub loop-v-preserved : goal.loop-v-preserved
loop-v-preserved c =
    let below : c.loop-v.v < count (doc_of c.args.s.now c.args.rows.now c.args.n) = omega (arith, rows_count c.args.rows.now c.args.n, c.loop-v-test.true) in
    let variable : is kind_variable (row_in c.args.rows.now c.args.n c.loop-v.v) ≡ true = let l = c.loop-v in
    eq-eqb (row_in c.args.rows.now c.args.n l.v).kind kind_variable (l.invariant.loop.at below) in
    let l = c.loop-v in
    let d = doc_of c.args.s.now c.args.rows.now c.args.n in
    liken_more (table_of c.args.t.now) d c.args.n l.stack l.flag l.m l.v l.invariant below (omega (arith, rows_count c.args.rows.now c.args.n, c.requires.0.rowed.few)) c.link_of-v-in-loop-v.result (kind_next d kind_variable (suc l.v) below (kinds_after c.args.rows.now c.args.n c.args.firstk.now c.args.nextk.now c.requires.1 kind_variable l.v (omega arith) c.loop-v-test.true variable c.link_of-v-in-loop-v.ensures)) c.liken_one-m.ensures

pub shape_of-stack : goal.shape_of-stack
shape_of-stack c = c.loop-v.invariant.models.size ∙ room_rows _ _ ∙ sym c.requires.2

pub shape_of-flag : goal.shape_of-flag
shape_of-flag c = c.loop-v.invariant.loop.flags.size ∙ sym c.requires.3.size

pub returns : goal.returns
returns c = let l = c.loop-v in
    liken_end (table_of c.args.t.now) (doc_of c.args.s.now c.args.rows.now c.args.n) c.args.n l.stack l.flag l.m l.v l.invariant (omega (arith, rows_count c.args.rows.now c.args.n, c.loop-v-test.false))
