-- A name, then a reference: both are the first of their tag.
use mathlib.Core.Path.{sym, subst, ◌∙◌}
use Rattle.table_fields.specs.Wrappers.{RefersRead}
use Rattle.table_entries.proofs.Headers.{first_lies, first_bounds, second_bounds, header_in}
use Rattle.std.specs.Prelude.{Some}
use native.Mathlib.Omega.{arith}
use Rattle.table_entries.proofs.quick_header.Goals as goal

pub read_field-requires-2 : goal.read_field-requires-2
read_field-requires-2 c = let a = c.args in
    let p = c.requires in
    first_bounds a.t.now a.start a.end p _ (sym c.read_field.ensures ∙ c.in_ok-f.was) (omega (arith, c.if-f-ne-TAG_NAME.false))

pub read_reference-requires : goal.read_reference-requires
read_reference-requires c = let a = c.args in
    let p = c.requires in
    second_bounds a.t.now a.start a.end p _ (sym c.read_field.ensures ∙ c.in_ok-f.was) (omega (arith, c.if-f-ne-TAG_NAME.false)) _ (sym c.read_field-2.ensures ∙ c.in_ok-g.was) (omega (arith, c.if-g-ne-TAG_REFERENCE.false))

pub overflow_sub-result : goal.overflow_sub-result
overflow_sub-result c = let a = c.args in
    let p = c.requires in
    (first_lies a.t.now a.start a.end p _ (sym c.read_field.ensures ∙ c.in_ok-f.was) (omega (arith, c.if-f-ne-TAG_NAME.false))).1

pub overflow_sub-result-2 : goal.overflow_sub-result-2
overflow_sub-result-2 c =
    let refers : RefersRead c.args.t.now c.in_ok-g.g.start c.in_ok-g.g.end (Some c.in_ok-r.r) = subst (RefersRead c.args.t.now c.in_ok-g.g.start c.in_ok-g.g.end) c.in_ok-r.was c.read_reference.ensures in
    refers.order

pub returns : goal.returns
returns c =
    let refers : RefersRead c.args.t.now c.in_ok-g.g.start c.in_ok-g.g.end (Some c.in_ok-r.r) = subst (RefersRead c.args.t.now c.in_ok-g.g.start c.in_ok-g.g.end) c.in_ok-r.was c.read_reference.ensures in
    let a = c.args in
    let p = c.requires in
    header_in a.t.now a.start a.end p _ (sym c.read_field.ensures ∙ c.in_ok-f.was) (omega (arith, c.if-f-ne-TAG_NAME.false)) _ (sym c.read_field-2.ensures ∙ c.in_ok-g.was) (omega (arith, c.if-g-ne-TAG_REFERENCE.false)) _ _ _ refers
