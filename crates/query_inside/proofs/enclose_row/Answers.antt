-- By the row's kind.
use mathlib.Core.Path.{◌≡◌, sym, ap, ◌∙◌}
use native.Mathlib.Omega.{arith}
use Rattle.paper_table.specs.Types.{table_of}
use Rattle.paper_query.specs.Enclosing.{enclosing}
use Rattle.query_rows.specs.Rowed.{row_in, doc_of}
use Rattle.query_rows.proofs.RowsIn.{rowed_sized}
use Rattle.query_rows.proofs.Rooms.{room_enough}
use Rattle.query_types.specs.Coded.{type_coded}
use Rattle.query_inside.specs.Enclosed.{encloses}
use Rattle.query_inside.proofs.EnclosedLaws.{kept_above, enclosed_skip, enclosed_type}
use Rattle.query_inside.proofs.enclose_row.Goals as goal

pub kind_of-kind-requires : goal.kind_of-kind-requires
kind_of-kind-requires c = rowed_sized c.requires.0.rowed

pub returns-then-not-encloses : goal.returns-then-not-encloses
returns-then-not-encloses c =
    let tested : c.encloses.result ≡ encloses (row_in c.args.rows.now c.args.n c.args.i).kind = c.encloses.ensures ∙ ap encloses c.kind_of-kind.ensures in
    let a = c.args in
    let g = c.requires in
    enclosed_skip a.t.now a.s.now a.rows.now a.n g.0.rowed a.i g.3 a.book.now a.es.now a.inside.now a.at.now g.2 (sym tested ∙ c.if-not-encloses.true)

pub parent_of-requires : goal.parent_of-requires
parent_of-requires c = rowed_sized c.requires.0.rowed

pub type_inside-above-requires : goal.type_inside-above-requires
type_inside-above-requires c = (rowed_sized c.requires.0.rowed, c.requires.2.inners)

pub enclose_field-requires : goal.enclose_field-requires
enclose_field-requires c =
    let above : enclosing (table_of c.args.t.now) (doc_of c.args.s.now c.args.rows.now c.args.n) c.args.i ≡ type_coded c.type_inside-above.result = let a = c.args in
    let g = c.requires in
    kept_above a.t.now a.s.now a.rows.now a.n g.0.rowed g.2 a.i _ g.3 (omega arith) c.parent_of.ensures ∙ ap type_coded (sym c.type_inside-above.ensures) in
    let g = c.requires in
    (g.0.booked, g.1, g.0.rowed, g.2, g.3, sym c.kind_of-kind.ensures ∙ c.if-kind-eq-KIND_FIELD.true, above)

pub other_type-requires : goal.other_type-requires
other_type-requires c =
    let tested : c.encloses.result ≡ encloses (row_in c.args.rows.now c.args.n c.args.i).kind = c.encloses.ensures ∙ ap encloses c.kind_of-kind.ensures in
    let g = c.requires in
    (g.0, g.3, sym tested ∙ c.if-not-encloses.false, λ z. c.if-kind-eq-KIND_FIELD.false (c.kind_of-kind.ensures ∙ z))

pub bounds-inside-i : goal.bounds-inside-i
bounds-inside-i c = omega (arith, c.requires.2.inners, c.requires.3, room_enough _ c.requires.0.rowed.few)

pub returns : goal.returns
returns c =
    let above : enclosing (table_of c.args.t.now) (doc_of c.args.s.now c.args.rows.now c.args.n) c.args.i ≡ type_coded c.type_inside-above.result = let a = c.args in
    let g = c.requires in
    kept_above a.t.now a.s.now a.rows.now a.n g.0.rowed g.2 a.i _ g.3 (omega arith) c.parent_of.ensures ∙ ap type_coded (sym c.type_inside-above.ensures) in
    let a = c.args in
    let g = c.requires in
    enclosed_type a.t.now a.s.now a.rows.now a.n g.0.rowed a.i g.3 a.book.now a.es.now a.inside.now a.at.now g.2 c.other_type.result c.type_inside-above.result (λ z. c.if-kind-eq-KIND_FIELD.false (c.kind_of-kind.ensures ∙ z)) above c.other_type.ensures
