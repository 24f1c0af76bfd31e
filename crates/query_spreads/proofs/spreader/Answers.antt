-- Its owner, if it is a spread.
use mathlib.Core.Path.{sym, ◌∙◌}
use native.Mathlib.Omega.{arith}
use Rattle.query_rows.specs.Rowed.{doc_of}
use Rattle.query_rows.proofs.RowsIn.{rows_count}
use Rattle.query_rows.proofs.Rooms.{room_at}
use Rattle.query_spreads.proofs.SpreaderLaws.{spread_is, spreader_owner, spreader_none}
use Rattle.query_spreads.proofs.spreader.Goals as goal

pub bounds-owner-j : goal.bounds-owner-j
bounds-owner-j c = let p = c.requires in
    room_at _ _ _ p.1.size p.0.few p.2

pub overflow_cast-result : goal.overflow_cast-result
overflow_cast-result c = omega (arith, c.shared_slice_known-then-kind_of-eq-KIND_SPREAD-1.given c.args.j)

pub returns-then-kind_of-eq-KIND_SPREAD : goal.returns-then-kind_of-eq-KIND_SPREAD
returns-then-kind_of-eq-KIND_SPREAD c = let a = c.args in
    let d = doc_of a.s.now a.rows.now a.n in
    spreader_owner d a.j _ (spread_is d a.j (sym c.kind_of.ensures ∙ c.if-kind_of-eq-KIND_SPREAD.true)) (c.requires.1.owns a.j (omega (arith, rows_count a.rows.now a.n, c.requires.2)))

pub returns : goal.returns
returns c = let a = c.args in
    let d = doc_of a.s.now a.rows.now a.n in
    spreader_none d a.j (omega (arith, rows_count a.rows.now a.n, c.requires.0.few)) (λ e. c.if-kind_of-eq-KIND_SPREAD.false (c.kind_of.ensures ∙ e))
