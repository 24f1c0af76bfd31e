-- By the first definition, its type reference, and the variable's place.
use mathlib.Core.Path.{sym, ◌∙◌}
use native.Mathlib.Omega.{arith}
use Rattle.paper_table.specs.Types.{table_of}
use Rattle.query_rows.specs.Rowed.{doc_of}
use Rattle.query_rows.proofs.RowsIn.{rowed_sized, rows_count}
use Rattle.query_place_types.specs.Shapes.{Keeps, coded}
use Rattle.query_places.proofs.PlacedLaws.{placed_at}
use Rattle.paper_query.specs.PlaceTypes.{place}
use Rattle.query_rules_10_11.proofs.VerdictLaws.{says_undefined, says_nothing, says_differs, says_fits}
use Rattle.query_rules_10_11.proofs.verdict.Goals as goal

pub definition_of-v-requires : goal.definition_of-v-requires
definition_of-v-requires c = (c.requires.0, c.requires.1, c.requires.3)

pub returns-then-n-v : goal.returns-then-n-v
returns-then-n-v c = says_undefined (table_of c.args.t.now) (doc_of c.args.s.now c.args.rows.now c.args.n) c.args.o c.args.i c.definition_of-v.result c.definition_of-v.ensures (omega (arith, rows_count c.args.rows.now c.args.n, c.if-n-v.true))

pub first_below-r-requires : goal.first_below-r-requires
first_below-r-requires c = (rowed_sized c.requires.0, c.requires.1, omega (arith, c.if-n-v.false))

pub returns-then-n-r : goal.returns-then-n-r
returns-then-n-r c = says_nothing (table_of c.args.t.now) (doc_of c.args.s.now c.args.rows.now c.args.n) c.args.o c.args.i c.definition_of-v.result c.definition_of-v.ensures (omega (arith, rows_count c.args.rows.now c.args.n, c.if-n-v.false)) c.first_below-r.result c.first_below-r.ensures (omega (arith, rows_count c.args.rows.now c.args.n, c.if-n-r.true))

pub place_of-p-requires : goal.place_of-p-requires
place_of-p-requires c = (rowed_sized c.requires.0, c.requires.2.all.enclosed.ats, c.requires.2.all.enclosed.inners)

pub differs-requires : goal.differs-requires
differs-requires c =
    let kept : Keeps c.args.t.now c.requires.2.book c.args.es.now (place (table_of c.args.t.now) (doc_of c.args.s.now c.args.rows.now c.args.n) c.args.i) c.place_of-p.result = rw c.place_of-p.ensures (placed_at c.args.t.now c.requires.2.book c.args.es.now c.args.s.now c.args.rows.now c.args.n c.requires.0 c.args.at.now c.args.wrappers.now c.requires.2.all c.args.i) in
    (c.requires.0, λ h. record { book = c.requires.2.book; stands = kept.within h })

pub returns-then-differs : goal.returns-then-differs
returns-then-differs c =
    let kept : Keeps c.args.t.now c.requires.2.book c.args.es.now (place (table_of c.args.t.now) (doc_of c.args.s.now c.args.rows.now c.args.n) c.args.i) c.place_of-p.result = rw c.place_of-p.ensures (placed_at c.args.t.now c.requires.2.book c.args.es.now c.args.s.now c.args.rows.now c.args.n c.requires.0 c.args.at.now c.args.wrappers.now c.requires.2.all c.args.i) in
    says_differs (table_of c.args.t.now) (doc_of c.args.s.now c.args.rows.now c.args.n) c.args.o c.args.i c.definition_of-v.result c.definition_of-v.ensures (omega (arith, rows_count c.args.rows.now c.args.n, c.if-n-v.false)) c.first_below-r.result c.first_below-r.ensures (omega (arith, rows_count c.args.rows.now c.args.n, c.if-n-r.false)) (coded c.args.t.now c.args.es.now c.place_of-p.result) kept.is (sym c.if-differs.true ∙ c.differs.ensures)

pub returns : goal.returns
returns c =
    let kept : Keeps c.args.t.now c.requires.2.book c.args.es.now (place (table_of c.args.t.now) (doc_of c.args.s.now c.args.rows.now c.args.n) c.args.i) c.place_of-p.result = rw c.place_of-p.ensures (placed_at c.args.t.now c.requires.2.book c.args.es.now c.args.s.now c.args.rows.now c.args.n c.requires.0 c.args.at.now c.args.wrappers.now c.requires.2.all c.args.i) in
    says_fits (table_of c.args.t.now) (doc_of c.args.s.now c.args.rows.now c.args.n) c.args.o c.args.i c.definition_of-v.result c.definition_of-v.ensures (omega (arith, rows_count c.args.rows.now c.args.n, c.if-n-v.false)) c.first_below-r.result c.first_below-r.ensures (omega (arith, rows_count c.args.rows.now c.args.n, c.if-n-r.false)) (coded c.args.t.now c.args.es.now c.place_of-p.result) kept.is (sym c.if-differs.false ∙ c.differs.ensures)
