-- By the field's number.
use mathlib.Core.Path.{sym, ◌∙◌}
use native.Mathlib.Omega.{arith}
use lib.ListN.{get_or}
use Rattle.paper_table.specs.Types.{table_of}
use Rattle.query_rows.specs.Rowed.{doc_of}
use Rattle.query_rows.proofs.RowsIn.{rowed_sized}
use Rattle.query_rows.proofs.Rooms.{room_enough}
use Rattle.query_rules_5_6.proofs.RuleLaws.{field_other, field_judged}
use Rattle.query_rules_5_6.proofs.field_missing.Goals as goal

pub kind_of-requires : goal.kind_of-requires
kind_of-requires c = rowed_sized c.requires.0

pub returns-then-kind_of-ne-KIND_FIELD : goal.returns-then-kind_of-ne-KIND_FIELD
returns-then-kind_of-ne-KIND_FIELD c = let a = c.args in
    field_other (table_of a.t.now) (doc_of a.s.now a.rows.now a.n) a.i (λ z. c.if-kind_of-ne-KIND_FIELD.true (c.kind_of.ensures ∙ z))

pub bounds-at-i : goal.bounds-at-i
bounds-at-i c = let g = c.requires in
    omega (arith, g.1.all.ats, g.2, room_enough _ g.0.few)

pub returns : goal.returns
returns c = let a = c.args in
    let g = c.requires in
    let k = sym c.kind_of.ensures ∙ c.if-kind_of-ne-KIND_FIELD.false in
    field_judged (table_of a.t.now) (doc_of a.s.now a.rows.now a.n) a.i k (get_or a.at.now a.i 0) (g.1.all.fields a.i g.2 k)
