-- By the type above, then by the name.
use mathlib.Core.Path.{sym, ◌∙◌}
use Rattle.table_book.specs.Book.{part}
use Rattle.query_fields.proofs.FieldLaws.{type_some}
use Rattle.value_fields.proofs.ContentLaws.{in_none, in_typename, in_type}
use Rattle.value_fields.proofs.content_in.Goals as goal

pub returns-then-above-eq-NO_TYPE : goal.returns-then-above-eq-NO_TYPE
returns-then-above-eq-NO_TYPE c = in_none c.args.t.now c.args.book.now c.requires.0 c.args.above (part c.args.s.now c.args.at c.args.n) c.if-above-eq-NO_TYPE.true

pub returns-then-is_typename : goal.returns-then-is_typename
returns-then-is_typename c = in_typename c.args.t.now c.args.book.now c.requires.0 c.args.above (part c.args.s.now c.args.at c.args.n) c.if-above-eq-NO_TYPE.false (sym c.is_typename.ensures ∙ c.if-is_typename.true)

pub find_content-requires : goal.find_content-requires
find_content-requires c = (c.requires.0, c.requires.1, c.requires.2 _ (type_some c.args.above c.if-above-eq-NO_TYPE.false), c.requires.3)

pub returns : goal.returns
returns c = in_type c.args.t.now c.args.book.now c.requires.0 c.args.above (part c.args.s.now c.args.at c.args.n) c.if-above-eq-NO_TYPE.false (sym c.is_typename.ensures ∙ c.if-is_typename.false) c.find_content.ensures
