-- By the kind of what it is an argument of, and what is kept of a field.
use mathlib.Core.Path.{◌≡◌, refl, sym, ap, ◌∙◌}
use native.Mathlib.Omega.{arith}
use lib.ListN.{get_or}
use Rattle.paper.specs.Numbers.{kind_field}
use Rattle.paper_table.specs.Types.{table_of}
use Rattle.paper_query.specs.Constructs.{kind_of, parent_of}
use Rattle.paper_query.specs.Enclosing.{field_at}
use Rattle.query_rows.specs.Rowed.{doc_of, row_in}
use Rattle.query_rows.proofs.RowsIn.{rowed_sized}
use Rattle.query_rows.proofs.Rooms.{room_enough}
use Rattle.query_fields.specs.Kept.{FieldKept}
use Rattle.query_fields.proofs.FieldLaws.{kept_stands}
use Rattle.query_place_types.proofs.ShapeLaws.{keeps_unknown, keeps_boolean}
use Rattle.query_due_types.proofs.PlaceCases.{field_there, argument_of_directive, argument_of_other, argument_of_leaf, argument_of_member}
use Rattle.query_due_types.proofs.argument_place.Goals as goal

pub parent_of-p-requires : goal.parent_of-p-requires
parent_of-p-requires c = rowed_sized c.requires.1

pub kind_of-kind-requires : goal.kind_of-kind-requires
kind_of-kind-requires c = rowed_sized c.requires.1

pub returns-then-kind-eq-KIND_DIRECTIVE : goal.returns-then-kind-eq-KIND_DIRECTIVE
returns-then-kind-eq-KIND_DIRECTIVE c =
    let kind : c.kind_of-kind.result ≡ kind_of (doc_of c.args.s.now c.args.rows.now c.args.n) (parent_of (doc_of c.args.s.now c.args.rows.now c.args.n) c.args.i) = c.kind_of-kind.ensures ∙ ap (λ p. (row_in c.args.rows.now c.args.n p).kind) c.parent_of-p.ensures in
    rw (argument_of_directive (table_of c.args.t.now) (doc_of c.args.s.now c.args.rows.now c.args.n) c.args.i (sym kind ∙ c.if-kind-eq-KIND_DIRECTIVE.true)) (keeps_boolean c.args.t.now c.args.book.now c.args.es.now _ refl refl)

pub returns-then-kind-ne-KIND_FIELD : goal.returns-then-kind-ne-KIND_FIELD
returns-then-kind-ne-KIND_FIELD c =
    let kind : c.kind_of-kind.result ≡ kind_of (doc_of c.args.s.now c.args.rows.now c.args.n) (parent_of (doc_of c.args.s.now c.args.rows.now c.args.n) c.args.i) = c.kind_of-kind.ensures ∙ ap (λ p. (row_in c.args.rows.now c.args.n p).kind) c.parent_of-p.ensures in
    rw (argument_of_other (table_of c.args.t.now) (doc_of c.args.s.now c.args.rows.now c.args.n) c.args.i (λ z. c.if-kind-eq-KIND_DIRECTIVE.false (kind ∙ z)) (λ z. c.if-kind-ne-KIND_FIELD.true (kind ∙ z))) (keeps_unknown c.args.t.now c.args.book.now c.args.es.now c.unknown.result c.unknown.ensures)

pub bounds-at-p : goal.bounds-at-p
bounds-at-p c =
    let kind : c.kind_of-kind.result ≡ kind_of (doc_of c.args.s.now c.args.rows.now c.args.n) (parent_of (doc_of c.args.s.now c.args.rows.now c.args.n) c.args.i) = c.kind_of-kind.ensures ∙ ap (λ p. (row_in c.args.rows.now c.args.n p).kind) c.parent_of-p.ensures in
    let is_field_is : kind_of (doc_of c.args.s.now c.args.rows.now c.args.n) (parent_of (doc_of c.args.s.now c.args.rows.now c.args.n) c.args.i) ≡ kind_field = sym kind ∙ c.if-kind-ne-KIND_FIELD.false in
    omega (arith, field_there c.args.rows.now c.args.n (row_in c.args.rows.now c.args.n c.args.i).parent is_field_is, c.parent_of-p.ensures, c.requires.2.ats, room_enough _ c.requires.1.few)

pub returns-then-f-le-FIELD_TYPENAME : goal.returns-then-f-le-FIELD_TYPENAME
returns-then-f-le-FIELD_TYPENAME c =
    let kind : c.kind_of-kind.result ≡ kind_of (doc_of c.args.s.now c.args.rows.now c.args.n) (parent_of (doc_of c.args.s.now c.args.rows.now c.args.n) c.args.i) = c.kind_of-kind.ensures ∙ ap (λ p. (row_in c.args.rows.now c.args.n p).kind) c.parent_of-p.ensures in
    let is_field_is : kind_of (doc_of c.args.s.now c.args.rows.now c.args.n) (parent_of (doc_of c.args.s.now c.args.rows.now c.args.n) c.args.i) ≡ kind_field = sym kind ∙ c.if-kind-ne-KIND_FIELD.false in
    let field : FieldKept c.args.t.now c.args.book.now c.args.es.now (field_at (table_of c.args.t.now) (doc_of c.args.s.now c.args.rows.now c.args.n) (parent_of (doc_of c.args.s.now c.args.rows.now c.args.n) c.args.i)) (get_or c.args.at.now c.parent_of-p.result 0) = rw c.parent_of-p.ensures (c.requires.2.fields (row_in c.args.rows.now c.args.n c.args.i).parent is_field_is) in
    argument_of_leaf c.args.t.now c.args.book.now c.args.es.now (doc_of c.args.s.now c.args.rows.now c.args.n) c.args.i _ is_field_is field c.unknown-then-f-le-FIELD_TYPENAME.result c.if-f-le-FIELD_TYPENAME.true c.unknown-then-f-le-FIELD_TYPENAME.ensures

pub overflow_cast-f : goal.overflow_cast-f
overflow_cast-f c = omega (arith, c.shared_slice_known-7-1.given c.parent_of-p.result)

pub argument_typed-requires : goal.argument_typed-requires
argument_typed-requires c =
    let kind : c.kind_of-kind.result ≡ kind_of (doc_of c.args.s.now c.args.rows.now c.args.n) (parent_of (doc_of c.args.s.now c.args.rows.now c.args.n) c.args.i) = c.kind_of-kind.ensures ∙ ap (λ p. (row_in c.args.rows.now c.args.n p).kind) c.parent_of-p.ensures in
    let is_field_is : kind_of (doc_of c.args.s.now c.args.rows.now c.args.n) (parent_of (doc_of c.args.s.now c.args.rows.now c.args.n) c.args.i) ≡ kind_field = sym kind ∙ c.if-kind-ne-KIND_FIELD.false in
    let field : FieldKept c.args.t.now c.args.book.now c.args.es.now (field_at (table_of c.args.t.now) (doc_of c.args.s.now c.args.rows.now c.args.n) (parent_of (doc_of c.args.s.now c.args.rows.now c.args.n) c.args.i)) (get_or c.args.at.now c.parent_of-p.result 0) = rw c.parent_of-p.ensures (c.requires.2.fields (row_in c.args.rows.now c.args.n c.args.i).parent is_field_is) in
    (kept_stands _ _ _ _ _ field (omega arith), c.requires.1)

pub returns : goal.returns
returns c =
    let kind : c.kind_of-kind.result ≡ kind_of (doc_of c.args.s.now c.args.rows.now c.args.n) (parent_of (doc_of c.args.s.now c.args.rows.now c.args.n) c.args.i) = c.kind_of-kind.ensures ∙ ap (λ p. (row_in c.args.rows.now c.args.n p).kind) c.parent_of-p.ensures in
    let is_field_is : kind_of (doc_of c.args.s.now c.args.rows.now c.args.n) (parent_of (doc_of c.args.s.now c.args.rows.now c.args.n) c.args.i) ≡ kind_field = sym kind ∙ c.if-kind-ne-KIND_FIELD.false in
    let field : FieldKept c.args.t.now c.args.book.now c.args.es.now (field_at (table_of c.args.t.now) (doc_of c.args.s.now c.args.rows.now c.args.n) (parent_of (doc_of c.args.s.now c.args.rows.now c.args.n) c.args.i)) (get_or c.args.at.now c.parent_of-p.result 0) = rw c.parent_of-p.ensures (c.requires.2.fields (row_in c.args.rows.now c.args.n c.args.i).parent is_field_is) in
    argument_of_member c.args.t.now c.args.book.now c.args.es.now (doc_of c.args.s.now c.args.rows.now c.args.n) c.args.i _ is_field_is field c.argument_typed.result c.requires.0 (omega arith) c.argument_typed.ensures
