-- By the row's kind, and a value's parent.
use mathlib.Core.Path.{◌≡◌, sym, ap, ◌∙◌}
use native.Mathlib.Omega.{arith}
use Rattle.paper_table.specs.Types.{table_of}
use Rattle.paper_query.specs.Constructs.{kind_of, parent_of}
use Rattle.query_rows.specs.Rowed.{doc_of, row_in}
use Rattle.query_rows.proofs.RowsIn.{rowed_sized}
use Rattle.query_place_types.specs.Shapes.{coded}
use Rattle.query_place_types.proofs.ShapeLaws.{keeps_unknown, keeps_self}
use Rattle.query_due_types.proofs.PlaceCases.{from_argument, from_object_field, from_lower, from_higher, from_item, from_value}
use Rattle.query_due_types.proofs.place_from.Goals as goal

pub kind_of-kind-requires : goal.kind_of-kind-requires
kind_of-kind-requires c = rowed_sized c.requires.3

pub argument_place-requires : goal.argument_place-requires
argument_place-requires c = (c.requires.0, c.requires.3, c.requires.4)

pub returns-then-kind-eq-KIND_ARGUMENT : goal.returns-then-kind-eq-KIND_ARGUMENT
returns-then-kind-eq-KIND_ARGUMENT c = rw (from_argument (table_of c.args.t.now) (doc_of c.args.s.now c.args.rows.now c.args.n) c.args.i (coded c.args.t.now c.args.es.now c.args.p) (sym c.kind_of-kind.ensures ∙ c.if-kind-eq-KIND_ARGUMENT.true)) c.argument_place.ensures

pub input_place-requires : goal.input_place-requires
input_place-requires c = (c.requires.0, c.requires.1, c.requires.2, c.requires.3, c.requires.5)

pub returns-then-kind-eq-KIND_OBJECT_FIELD : goal.returns-then-kind-eq-KIND_OBJECT_FIELD
returns-then-kind-eq-KIND_OBJECT_FIELD c = rw (from_object_field (table_of c.args.t.now) (doc_of c.args.s.now c.args.rows.now c.args.n) c.args.i (coded c.args.t.now c.args.es.now c.args.p) (sym c.kind_of-kind.ensures ∙ c.if-kind-eq-KIND_OBJECT_FIELD.true)) c.input_place.ensures

pub returns-then-kind-lt-KIND_VARIABLE : goal.returns-then-kind-lt-KIND_VARIABLE
returns-then-kind-lt-KIND_VARIABLE c = rw (from_lower (table_of c.args.t.now) (doc_of c.args.s.now c.args.rows.now c.args.n) c.args.i (coded c.args.t.now c.args.es.now c.args.p) (λ z. c.if-kind-eq-KIND_ARGUMENT.false (c.kind_of-kind.ensures ∙ z)) (λ z. c.if-kind-eq-KIND_OBJECT_FIELD.false (c.kind_of-kind.ensures ∙ z)) (omega (arith, c.kind_of-kind.ensures))) (keeps_unknown c.args.t.now c.args.book.now c.args.es.now c.unknown.result c.unknown.ensures)

pub returns-then-kind-gt-KIND_OBJECT : goal.returns-then-kind-gt-KIND_OBJECT
returns-then-kind-gt-KIND_OBJECT c = rw (from_higher (table_of c.args.t.now) (doc_of c.args.s.now c.args.rows.now c.args.n) c.args.i (coded c.args.t.now c.args.es.now c.args.p) (λ z. c.if-kind-eq-KIND_ARGUMENT.false (c.kind_of-kind.ensures ∙ z)) (λ z. c.if-kind-eq-KIND_OBJECT_FIELD.false (c.kind_of-kind.ensures ∙ z)) (omega (arith, c.kind_of-kind.ensures)) (omega (arith, c.kind_of-kind.ensures))) (keeps_unknown c.args.t.now c.args.book.now c.args.es.now c.unknown-then-kind-gt-KIND_OBJECT.result c.unknown-then-kind-gt-KIND_OBJECT.ensures)

pub parent_of-requires : goal.parent_of-requires
parent_of-requires c = rowed_sized c.requires.3

pub kind_of-requires : goal.kind_of-requires
kind_of-requires c = rowed_sized c.requires.3

pub returns-then-kind_of-eq-KIND_LIST : goal.returns-then-kind_of-eq-KIND_LIST
returns-then-kind_of-eq-KIND_LIST c =
    let above : c.kind_of.result ≡ kind_of (doc_of c.args.s.now c.args.rows.now c.args.n) (parent_of (doc_of c.args.s.now c.args.rows.now c.args.n) c.args.i) = c.kind_of.ensures ∙ ap (λ p. (row_in c.args.rows.now c.args.n p).kind) c.parent_of.ensures in
    rw (from_item (table_of c.args.t.now) (doc_of c.args.s.now c.args.rows.now c.args.n) c.args.i (coded c.args.t.now c.args.es.now c.args.p) (λ z. c.if-kind-eq-KIND_ARGUMENT.false (c.kind_of-kind.ensures ∙ z)) (λ z. c.if-kind-eq-KIND_OBJECT_FIELD.false (c.kind_of-kind.ensures ∙ z)) (omega (arith, c.kind_of-kind.ensures)) (omega (arith, c.kind_of-kind.ensures)) (sym above ∙ c.if-kind_of-eq-KIND_LIST.true)) (c.item_of.ensures c.args.t.now c.args.book.now c.args.es.now c.requires.5)

pub returns : goal.returns
returns c =
    let above : c.kind_of.result ≡ kind_of (doc_of c.args.s.now c.args.rows.now c.args.n) (parent_of (doc_of c.args.s.now c.args.rows.now c.args.n) c.args.i) = c.kind_of.ensures ∙ ap (λ p. (row_in c.args.rows.now c.args.n p).kind) c.parent_of.ensures in
    rw (from_value (table_of c.args.t.now) (doc_of c.args.s.now c.args.rows.now c.args.n) c.args.i (coded c.args.t.now c.args.es.now c.args.p) (λ z. c.if-kind-eq-KIND_ARGUMENT.false (c.kind_of-kind.ensures ∙ z)) (λ z. c.if-kind-eq-KIND_OBJECT_FIELD.false (c.kind_of-kind.ensures ∙ z)) (omega (arith, c.kind_of-kind.ensures)) (omega (arith, c.kind_of-kind.ensures)) (λ z. c.if-kind_of-eq-KIND_LIST.false (above ∙ z))) (keeps_self c.args.t.now c.args.book.now c.args.es.now c.args.p c.requires.5)
