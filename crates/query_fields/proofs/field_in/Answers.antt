-- By the type above, then by the name.
use mathlib.Core.Path.{sym, ◌∙◌}
use Rattle.table_book.specs.Book.{part}
use Rattle.query_fields.proofs.FieldLaws.{type_some, in_none, in_typename, in_type}
use Rattle.query_fields.proofs.field_in.Goals as goal

pub returns-then-above-eq-NO_TYPE : goal.returns-then-above-eq-NO_TYPE
returns-then-above-eq-NO_TYPE c = in_none c.args.t.now c.args.book.now c.args.es.now c.args.above (part c.args.s.now c.args.at c.args.n) c.if-above-eq-NO_TYPE.true

pub returns-then-is_typename : goal.returns-then-is_typename
returns-then-is_typename c = let a = c.args in
    in_typename a.t.now a.book.now a.es.now a.above (part a.s.now a.at a.n) c.if-above-eq-NO_TYPE.false (sym c.is_typename.ensures ∙ c.if-is_typename.true)

pub find_field-requires : goal.find_field-requires
find_field-requires c = let g = c.requires in
    (g.0, g.1, g.2 _ (type_some c.args.above c.if-above-eq-NO_TYPE.false), g.3)

pub returns : goal.returns
returns c = let a = c.args in
    in_type a.t.now a.book.now a.es.now a.above (part a.s.now a.at a.n) c.if-above-eq-NO_TYPE.false (sym c.is_typename.ensures ∙ c.if-is_typename.false) c.find_field.ensures
