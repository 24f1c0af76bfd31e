-- No spread, or one that leads past the rows.
use mathlib.Core.Path.{◌≡◌, sym, ◌∙◌}
use native.Mathlib.Omega.{arith}
use Prim.Native.Nat.{◌<◌}
use Rattle.paper.specs.Numbers.{kind_spread}
use Rattle.paper_query.specs.Constructs.{kind_of}
use Rattle.query_rows.specs.Rowed.{doc_of}
use Rattle.query_rows.proofs.RowsIn.{rows_count}
use Rattle.query_rows.proofs.Rooms.{room_at}
use Rattle.query_spreads.proofs.SpreaderLaws.{spread_is, spread_within}
use Rattle.query_spreads.proofs.TargetLaws.{lost_not, lost_leads}
use Rattle.query_spreads.proofs.spread_of_none.Goals as goal

pub returns-then-kind_of-ne-KIND_SPREAD : goal.returns-then-kind_of-ne-KIND_SPREAD
returns-then-kind_of-ne-KIND_SPREAD c = lost_not (doc_of c.args.s.now c.args.rows.now c.args.n) c.args.i (λ e. c.if-kind_of-ne-KIND_SPREAD.true (c.kind_of.ensures ∙ e))

pub offset_bounds-target-i : goal.offset_bounds-target-i
offset_bounds-target-i c =
    let kind : kind_of (doc_of c.args.s.now c.args.rows.now c.args.n) c.args.i ≡ kind_spread = sym c.kind_of.ensures ∙ c.if-kind_of-ne-KIND_SPREAD.false in
    let below : c.args.i < c.args.n = let a = c.args in
    let d = doc_of a.s.now a.rows.now a.n in
    omega (arith, spread_within d a.i (spread_is d a.i kind), rows_count a.rows.now a.n) in
    omega (arith, below, c.requires.0.few)

pub bounds-target-i : goal.bounds-target-i
bounds-target-i c =
    let kind : kind_of (doc_of c.args.s.now c.args.rows.now c.args.n) c.args.i ≡ kind_spread = sym c.kind_of.ensures ∙ c.if-kind_of-ne-KIND_SPREAD.false in
    let below : c.args.i < c.args.n = let a = c.args in
    let d = doc_of a.s.now a.rows.now a.n in
    omega (arith, spread_within d a.i (spread_is d a.i kind), rows_count a.rows.now a.n) in
    room_at _ _ _ c.requires.1.size c.requires.0.few below

pub overflow_cast-result : goal.overflow_cast-result
overflow_cast-result c = omega (arith, c.shared_slice_known-4-1.given c.args.i)

pub returns : goal.returns
returns c =
    let kind : kind_of (doc_of c.args.s.now c.args.rows.now c.args.n) c.args.i ≡ kind_spread = sym c.kind_of.ensures ∙ c.if-kind_of-ne-KIND_SPREAD.false in
    lost_leads (doc_of c.args.s.now c.args.rows.now c.args.n) _ c.args.i _ c.requires.1 (rows_count c.args.rows.now c.args.n) kind
