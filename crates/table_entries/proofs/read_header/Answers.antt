-- The quick way by the tag, else the slow one.
use mathlib.Core.Path.{subst}
use Rattle.table_members.proofs.PartLaws.{arguments_none}
use Rattle.table_entries.specs.Entries.{QuickRead}
use Rattle.table_entries.proofs.Headers.{field_header, input_header}
use native.Mathlib.Omega.{arith}
use Rattle.table_entries.proofs.read_header.Goals as goal

pub returns-then-tag-eq-TAG_FIELD : goal.returns-then-tag-eq-TAG_FIELD
returns-then-tag-eq-TAG_FIELD c = let a = c.args in
    let p = c.requires in
    field_header a.t.now a.tag a.start a.end _ _ _ _ _ _ (subst (QuickRead a.t.now a.start a.end) c.in-Some.is c.quick_header.ensures) c.if-tag-eq-TAG_FIELD.true

pub returns-then-tag-eq-TAG_ARGUMENT : goal.returns-then-tag-eq-TAG_ARGUMENT
returns-then-tag-eq-TAG_ARGUMENT c = let a = c.args in
    let p = c.requires in
    input_header a.t.now a.tag a.start a.end _ _ _ _ _ _ (subst (QuickRead a.t.now a.start a.end) c.in-Some.is c.quick_header.ensures) c.if-tag-eq-TAG_ARGUMENT.true (arguments_none a.t.now a.tag a.start a.end p.order p.within (λ z. omega (arith, z, c.if-tag-eq-TAG_ARGUMENT.true)))
