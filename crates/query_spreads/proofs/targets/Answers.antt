-- Spread by spread, along the rows of that kind.
use mathlib.Core.Path.{◌≡◌, sym, ◌∙◌}
use mathlib.Core.Bool.{true}
use Prim.Native.Nat.{◌<◌}
use native.Mathlib.Omega.{arith}
use Rattle.paper.specs.Numbers.{kind_spread}
use Rattle.paper_query.specs.Constructs.{count, is, name_of}
use Rattle.query_rows.specs.Rowed.{doc_of, row_in}
use Rattle.query_rows.proofs.RowsIn.{rows_count}
use Rattle.query_rows.proofs.Rooms.{room_rows, room_at}
use Rattle.query_links.proofs.ChainWalks.{kinds_first, kinds_after, kinds_less, kinds_room}
use Rattle.query_spreads.proofs.SpreaderLaws.{spread_true}
use Rattle.query_spreads.proofs.TargetLaws.{fragment_most, targeting_start, targeting_more, targeting_end}
use Rattle.query_spreads.proofs.targets.Goals as goal

pub link_of-i-requires : goal.link_of-i-requires
link_of-i-requires c = omega (arith, c.requires.1.firsts)

pub loop-i-init : goal.loop-i-init
loop-i-init c = targeting_start _ _ (c.requires.2 ∙ sym (room_rows _ _)) (kinds_first _ _ _ _ c.requires.1 kind_spread (omega arith) c.link_of-i.ensures)

pub fragment_named-f-requires : goal.fragment_named-f-requires
fragment_named-f-requires c = (c.requires.0, c.requires.1, c.loop-i-test.true)

pub overflow_cast-target : goal.overflow_cast-target
overflow_cast-target c = let a = c.args in
    let d = doc_of a.s.now a.rows.now a.n in
    omega (arith, c.fragment_named-f.ensures, fragment_most d (name_of d c.loop-i.i), rows_count a.rows.now a.n, c.requires.0.few)

pub offset_bounds-target-i : goal.offset_bounds-target-i
offset_bounds-target-i c = omega (arith, c.loop-i-test.true, c.requires.0.few)

pub bounds-target-i : goal.bounds-target-i
bounds-target-i c = room_at _ _ _ c.loop-i.invariant.size c.requires.0.few c.loop-i-test.true

pub link_of-i-requires-in-loop-i : goal.link_of-i-requires-in-loop-i
link_of-i-requires-in-loop-i c = kinds_room _ _ _ _ c.requires.1 _ c.loop-i-test.true c.requires.0.few

pub loop-i-smaller : goal.loop-i-smaller
loop-i-smaller c =
    let below : c.loop-i.i < count (doc_of c.args.s.now c.args.rows.now c.args.n) = omega (arith, rows_count c.args.rows.now c.args.n, c.loop-i-test.true) in
    let spread : is kind_spread (row_in c.args.rows.now c.args.n c.loop-i.i) ≡ true = spread_true (doc_of c.args.s.now c.args.rows.now c.args.n) c.loop-i.i (c.loop-i.invariant.at below) in
    omega (arith, c.loop-i-test.true, kinds_less _ _ _ _ c.requires.1 kind_spread c.loop-i.i (omega arith) c.loop-i-test.true spread c.link_of-i-in-loop-i.ensures)

pub loop-i-preserved : goal.loop-i-preserved
loop-i-preserved c =
    let below : c.loop-i.i < count (doc_of c.args.s.now c.args.rows.now c.args.n) = omega (arith, rows_count c.args.rows.now c.args.n, c.loop-i-test.true) in
    let spread : is kind_spread (row_in c.args.rows.now c.args.n c.loop-i.i) ≡ true = spread_true (doc_of c.args.s.now c.args.rows.now c.args.n) c.loop-i.i (c.loop-i.invariant.at below) in
    let a = c.args in
    targeting_more (doc_of a.s.now a.rows.now a.n) _ c.loop-i.i c.loop-i.invariant below (omega (arith, rows_count a.rows.now a.n, c.requires.0.few)) c.fragment_named-f.ensures (kinds_after _ _ _ _ c.requires.1 kind_spread c.loop-i.i (omega arith) c.loop-i-test.true spread c.link_of-i-in-loop-i.ensures)

pub shape_of-target : goal.shape_of-target
shape_of-target c = c.loop-i.invariant.size ∙ room_rows _ _ ∙ sym c.requires.2

pub returns : goal.returns
returns c = let a = c.args in
    targeting_end c.loop-i.invariant (omega (arith, rows_count a.rows.now a.n, c.loop-i-test.false))
