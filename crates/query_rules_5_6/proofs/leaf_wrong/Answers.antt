-- By the field's number, its selections, and the type inside.
use mathlib.Core.Path.{◌≡◌, sym, ◌∙◌}
use native.Mathlib.Omega.{arith}
use lib.ListN.{get_or}
use Rattle.paper.specs.Numbers.{kind_field}
use Rattle.paper_table.specs.Types.{table_of}
use Rattle.paper_query.specs.Enclosing.{field_at, selections_type}
use Rattle.query_rows.specs.Rowed.{row_in, doc_of}
use Rattle.query_rows.proofs.RowsIn.{rowed_sized}
use Rattle.query_rows.proofs.Rooms.{room_enough}
use Rattle.query_types.specs.Coded.{type_coded}
use Rattle.query_fields.specs.Kept.{FieldKept}
use Rattle.query_inside.proofs.KindLaws.{field_encloses}
use Rattle.query_inside.proofs.EnclosedLaws.{field_inside}
use Rattle.query_rules_5_6.proofs.RuleLaws.{leaf_other, leaf_nowhere, leaf_selects, leaf_selects_not}
use Rattle.query_rules_5_6.proofs.leaf_wrong.Goals as goal

pub kind_of-requires : goal.kind_of-requires
kind_of-requires c = rowed_sized c.requires.0

pub returns-then-kind_of-ne-KIND_FIELD : goal.returns-then-kind_of-ne-KIND_FIELD
returns-then-kind_of-ne-KIND_FIELD c = let a = c.args in
    leaf_other (table_of a.t.now) (doc_of a.s.now a.rows.now a.n) a.i (λ z. c.if-kind_of-ne-KIND_FIELD.true (c.kind_of.ensures ∙ z))

pub bounds-at-i : goal.bounds-at-i
bounds-at-i c = let g = c.requires in
    omega (arith, g.2.all.ats, g.3, room_enough _ g.0.few)

pub returns-then-at-i-lt-FIELD_TYPENAME : goal.returns-then-at-i-lt-FIELD_TYPENAME
returns-then-at-i-lt-FIELD_TYPENAME c =
    let kind : (row_in c.args.rows.now c.args.n c.args.i).kind ≡ kind_field = sym c.kind_of.ensures ∙ c.if-kind_of-ne-KIND_FIELD.false in
    let field : FieldKept c.args.t.now c.requires.2.book c.args.es.now (field_at (table_of c.args.t.now) (doc_of c.args.s.now c.args.rows.now c.args.n) c.args.i) (get_or c.args.at.now c.args.i 0) = let g = c.requires in
    g.2.all.fields c.args.i g.3 kind in
    let a = c.args in
    leaf_nowhere (table_of a.t.now) (doc_of a.s.now a.rows.now a.n) a.i kind (get_or a.at.now a.i 0) field c.if-at-i-lt-FIELD_TYPENAME.true

pub has_selections-requires : goal.has_selections-requires
has_selections-requires c = let g = c.requires in
    (g.0, g.1, g.3)

pub bounds-inside-i : goal.bounds-inside-i
bounds-inside-i c = let g = c.requires in
    omega (arith, g.2.all.inners, g.3, room_enough _ g.0.few)

pub returns-then-has_selections : goal.returns-then-has_selections
returns-then-has_selections c =
    let kind : (row_in c.args.rows.now c.args.n c.args.i).kind ≡ kind_field = sym c.kind_of.ensures ∙ c.if-kind_of-ne-KIND_FIELD.false in
    let field : FieldKept c.args.t.now c.requires.2.book c.args.es.now (field_at (table_of c.args.t.now) (doc_of c.args.s.now c.args.rows.now c.args.n) c.args.i) (get_or c.args.at.now c.args.i 0) = let g = c.requires in
    g.2.all.fields c.args.i g.3 kind in
    let typed : selections_type (table_of c.args.t.now) (field_at (table_of c.args.t.now) (doc_of c.args.s.now c.args.rows.now c.args.n) c.args.i) ≡ type_coded (get_or c.args.inside.now c.args.i 0) = let a = c.args in
    let g = c.requires in
    sym (field_inside a.t.now a.s.now a.rows.now a.n g.0 a.i kind) ∙ g.2.all.types a.i g.3 (sym (field_encloses _ kind)) in
    let a = c.args in
    leaf_selects (table_of a.t.now) (doc_of a.s.now a.rows.now a.n) a.i kind (get_or a.at.now a.i 0) field c.if-at-i-lt-FIELD_TYPENAME.false (get_or a.inside.now a.i 0) typed (sym c.if-has_selections.true ∙ c.has_selections.ensures)

pub bounds-inside-i-2 : goal.bounds-inside-i-2
bounds-inside-i-2 c = let g = c.requires in
    omega (arith, g.2.all.inners, g.3, room_enough _ g.0.few)

pub returns : goal.returns
returns c =
    let kind : (row_in c.args.rows.now c.args.n c.args.i).kind ≡ kind_field = sym c.kind_of.ensures ∙ c.if-kind_of-ne-KIND_FIELD.false in
    let field : FieldKept c.args.t.now c.requires.2.book c.args.es.now (field_at (table_of c.args.t.now) (doc_of c.args.s.now c.args.rows.now c.args.n) c.args.i) (get_or c.args.at.now c.args.i 0) = let g = c.requires in
    g.2.all.fields c.args.i g.3 kind in
    let typed : selections_type (table_of c.args.t.now) (field_at (table_of c.args.t.now) (doc_of c.args.s.now c.args.rows.now c.args.n) c.args.i) ≡ type_coded (get_or c.args.inside.now c.args.i 0) = let a = c.args in
    let g = c.requires in
    sym (field_inside a.t.now a.s.now a.rows.now a.n g.0 a.i kind) ∙ g.2.all.types a.i g.3 (sym (field_encloses _ kind)) in
    let a = c.args in
    leaf_selects_not (table_of a.t.now) (doc_of a.s.now a.rows.now a.n) a.i kind (get_or a.at.now a.i 0) field c.if-at-i-lt-FIELD_TYPENAME.false (get_or a.inside.now a.i 0) typed (sym c.if-has_selections.false ∙ c.has_selections.ensures)
