-- By the definition's entries.
use mathlib.Core.Path.{refl, sym, ◌∙◌}
use native.Mathlib.Omega.{arith}
use Rattle.table_book.specs.Book.{part}
use Rattle.query_fields.proofs.FieldLaws.{number_below, number_room, union_lacks, members_typed, field_lacks, field_kept}
use Rattle.query_fields.proofs.find_field.Goals as goal

pub kind_of-requires : goal.kind_of-requires
kind_of-requires c = (c.requires.0.indexed.held.cells, number_room c.args.t.now c.args.book.now c.requires.0 c.args.k c.requires.2)

pub returns-then-kind_of : goal.returns-then-kind_of
returns-then-kind_of c = let a = c.args in
    let g = c.requires in
    union_lacks a.t.now a.book.now g.0 a.k g.2 a.es.now (part a.s.now a.at a.n) (sym c.kind_of.ensures ∙ c.if-kind_of.true)

pub find_member-e-requires : goal.find_member-e-requires
find_member-e-requires c = let a = c.args in
    let g = c.requires in
    (g.0, g.1, number_below a.t.now a.book.now g.0 a.k g.2, members_typed a.t.now a.book.now g.0 a.k g.2 a.es.now (part a.s.now a.at a.n) (λ z. c.if-kind_of.false (c.kind_of.ensures ∙ z)), g.3)

pub returns-then-e-ge-NO_ENTRY : goal.returns-then-e-ge-NO_ENTRY
returns-then-e-ge-NO_ENTRY c = let a = c.args in
    let g = c.requires in
    field_lacks a.t.now a.book.now g.0 a.k g.2 a.es.now (part a.s.now a.at a.n) (λ z. c.if-kind_of.false (c.kind_of.ensures ∙ z)) _ c.find_member-e.ensures c.if-e-ge-NO_ENTRY.true

pub returns : goal.returns
returns c = let a = c.args in
    let g = c.requires in
    field_kept a.t.now a.book.now g.0 a.k g.2 a.es.now (part a.s.now a.at a.n) (λ z. c.if-kind_of.false (c.kind_of.ensures ∙ z)) _ c.find_member-e.ensures (omega arith) _ refl
