-- Fragment by fragment, along the rows of that kind.
use mathlib.Core.Path.{◌≡◌, sym, ◌∙◌}
use mathlib.Core.Bool.{true}
use Prim.Native.Nat.{suc, ◌<◌}
use native.Mathlib.Omega.{arith}
use borrow.Author.Tests.{eq-eqb}
use Rattle.paper.specs.Numbers.{kind_fragment}
use Rattle.paper_query.specs.Constructs.{count, is}
use Rattle.query_rows.specs.Rowed.{row_in, doc_of}
use Rattle.query_rows.proofs.RowsIn.{rows_count}
use Rattle.query_rows.proofs.Rooms.{room_rows, room_at}
use Rattle.query_links.proofs.ChainWalks.{kinds_first, kinds_after, kinds_less, kinds_room}
use Rattle.query_alike.proofs.FlagsLaws.{kind_next, fragments_start, fragments_more, fragments_end}
use Rattle.query_path_rules.proofs.judge_fragments.Goals as goal

pub link_of-f-requires : goal.link_of-f-requires
link_of-f-requires c = omega (arith, c.requires.1.firsts)

pub loop-f-init : goal.loop-f-init
loop-f-init c = let d = doc_of c.args.s.now c.args.rows.now c.args.n in
    let e = sym (room_rows c.args.rows.now c.args.n) in
    fragments_start d c.args.flag.now c.args.mark.now c.args.stack.now c.link_of-f.result (kind_next d kind_fragment 0 (omega arith) (kinds_first c.args.rows.now c.args.n c.args.firstk.now c.args.nextk.now c.requires.1 kind_fragment (omega arith) c.link_of-f.ensures)) (c.requires.5 ∙ e) c.requires.3 (c.requires.4 ∙ e)

pub circle_of-requires : goal.circle_of-requires
circle_of-requires c = let l = c.loop-f in
    (c.requires.0, c.requires.2, l.invariant.stamped, l.invariant.stacked ∙ room_rows _ _)

pub offset_bounds-flag-f : goal.offset_bounds-flag-f
offset_bounds-flag-f c = omega (arith, c.loop-f-test.true, c.requires.0.few)

pub bounds-flag-f : goal.bounds-flag-f
bounds-flag-f c = room_at _ _ _ c.loop-f.invariant.size c.requires.0.few c.loop-f-test.true

pub link_of-f-requires-in-loop-f : goal.link_of-f-requires-in-loop-f
link_of-f-requires-in-loop-f c = kinds_room c.args.rows.now c.args.n c.args.firstk.now c.args.nextk.now c.requires.1 c.loop-f.f c.loop-f-test.true c.requires.0.few

pub loop-f-smaller : goal.loop-f-smaller
loop-f-smaller c =
    let below : c.loop-f.f < count (doc_of c.args.s.now c.args.rows.now c.args.n) = omega (arith, rows_count c.args.rows.now c.args.n, c.loop-f-test.true) in
    let fragment : is kind_fragment (row_in c.args.rows.now c.args.n c.loop-f.f) ≡ true = let l = c.loop-f in
    eq-eqb (row_in c.args.rows.now c.args.n l.f).kind kind_fragment (l.invariant.at below) in
    omega (arith, c.loop-f-test.true, kinds_less c.args.rows.now c.args.n c.args.firstk.now c.args.nextk.now c.requires.1 kind_fragment c.loop-f.f (omega arith) c.loop-f-test.true fragment c.link_of-f-in-loop-f.ensures)

pub loop-f-preserved : goal.loop-f-preserved
loop-f-preserved c =
    let below : c.loop-f.f < count (doc_of c.args.s.now c.args.rows.now c.args.n) = omega (arith, rows_count c.args.rows.now c.args.n, c.loop-f-test.true) in
    let fragment : is kind_fragment (row_in c.args.rows.now c.args.n c.loop-f.f) ≡ true = let l = c.loop-f in
    eq-eqb (row_in c.args.rows.now c.args.n l.f).kind kind_fragment (l.invariant.at below) in
    let l = c.loop-f in
    let d = doc_of c.args.s.now c.args.rows.now c.args.n in
    fragments_more d _ _ _ _ _ _ l.f c.circle_of.result c.link_of-f-in-loop-f.result l.invariant below (omega (arith, rows_count c.args.rows.now c.args.n, c.requires.0.few)) (kind_next d kind_fragment (suc l.f) below (kinds_after c.args.rows.now c.args.n c.args.firstk.now c.args.nextk.now c.requires.1 kind_fragment l.f (omega arith) c.loop-f-test.true fragment c.link_of-f-in-loop-f.ensures)) c.circle_of.ensures.0 c.circle_of.ensures.1 (c.circle_of.auto.stack ∙ l.invariant.stacked)

pub shape_of-mark : goal.shape_of-mark
shape_of-mark c = c.loop-f.invariant.stamped.size ∙ sym c.requires.3.size

pub shape_of-stack : goal.shape_of-stack
shape_of-stack c = c.loop-f.invariant.stacked ∙ room_rows _ _ ∙ sym c.requires.4

pub shape_of-flag : goal.shape_of-flag
shape_of-flag c = c.loop-f.invariant.size ∙ room_rows _ _ ∙ sym c.requires.5

pub returns : goal.returns
returns c = let l = c.loop-f in
    fragments_end (doc_of c.args.s.now c.args.rows.now c.args.n) _ _ _ _ l.f c.args.n l.invariant (omega (arith, rows_count c.args.rows.now c.args.n, c.loop-f-test.false)) (sym (rows_count c.args.rows.now c.args.n))
