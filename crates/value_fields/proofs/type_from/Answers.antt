-- By the row's kind.
use mathlib.Core.Path.{sym, ◌∙◌}
use Rattle.query_rows.proofs.RowsIn.{rowed_sized}
use Rattle.value_fields.proofs.InsideLaws.{inside_field, inside_other}
use Rattle.value_fields.proofs.type_from.Goals as goal

pub kind_of-requires : goal.kind_of-requires
kind_of-requires c = rowed_sized c.requires.0.rowed

pub content_at-c-requires : goal.content_at-c-requires
content_at-c-requires c = (c.requires.0.booked, c.requires.1, c.requires.0.rowed, c.requires.4)

pub content_type-requires : goal.content_type-requires
content_type-requires c = (c.requires.0.booked, c.content_at-c.ensures.bounds)

pub returns-then-kind_of-eq-KIND_FIELD : goal.returns-then-kind_of-eq-KIND_FIELD
returns-then-kind_of-eq-KIND_FIELD c = inside_field c.args.t.now c.args.s.now c.args.rows.now c.args.n c.requires.0.rowed c.args.i c.args.above c.requires.4 c.content_type.result _ _ (sym c.kind_of.ensures ∙ c.if-kind_of-eq-KIND_FIELD.true) c.content_at-c.ensures c.content_type.ensures

pub other_type-requires : goal.other_type-requires
other_type-requires c = (c.requires.0, c.requires.2, c.requires.3, λ z. c.if-kind_of-eq-KIND_FIELD.false (c.kind_of.ensures ∙ z))

pub returns : goal.returns
returns c = inside_other c.args.t.now c.args.s.now c.args.rows.now c.args.n c.requires.0.rowed c.args.i c.args.above c.requires.4 c.other_type.result c.other_type.ensures
