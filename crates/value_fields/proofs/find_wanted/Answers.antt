-- By the row's kind, whether it is reached, and where its arguments stand.
use mathlib.Core.Path.{sym, ◌∙◌}
use Rattle.query_spreads.proofs.OwnerLaws.{operation_defines}
use Rattle.query_rows.specs.Rowed.{doc_of}
use Rattle.value_fields.proofs.AcceptedLaws.{accepted_known}
use Rattle.value_fields.proofs.WantsLaws.{field_there, wants_no_field, wants_unreached, wants_reached}
use Rattle.value_fields.proofs.find_wanted.Goals as goal

pub returns-then-kind_of-ne-KIND_FIELD : goal.returns-then-kind_of-ne-KIND_FIELD
returns-then-kind_of-ne-KIND_FIELD c = let a = c.args in
    wants_no_field a.t.now (doc_of a.s.now a.rows.now a.n) a.op a.row c.kind_of.ensures c.if-kind_of-ne-KIND_FIELD.true

pub is_reached-requires : goal.is_reached-requires
is_reached-requires c = let a = c.args in
    let p = c.requires in
    (p.rowed, operation_defines (doc_of a.s.now a.rows.now a.n) a.op p.operation, field_there a.s.now a.rows.now a.n a.row (sym c.kind_of.ensures ∙ c.if-kind_of-ne-KIND_FIELD.false))

pub returns-then-not-is_reached : goal.returns-then-not-is_reached
returns-then-not-is_reached c = let a = c.args in
    wants_unreached a.t.now (doc_of a.s.now a.rows.now a.n) a.op a.row c.kind_of.ensures c.is_reached.result c.is_reached.ensures c.if-not-is_reached.true

pub content_of-requires : goal.content_of-requires
content_of-requires c = let a = c.args in
    let p = c.requires in
    (accepted_known a.t.now p.accepted p.booked, p.booked, p.rowed)

pub returns : goal.returns
returns c = let a = c.args in
    wants_reached a.t.now (doc_of a.s.now a.rows.now a.n) a.op a.row c.kind_of.ensures c.is_reached.result c.content_of.result c.if-kind_of-ne-KIND_FIELD.false c.is_reached.ensures c.if-not-is_reached.false c.content_of.ensures
