-- Field by field: the tag is seen from each place on, or it is here.
use Rattle.std.specs.Prelude.{Some}
use Rattle.table_fields.proofs.BoundsLaws.{later}
use mathlib.Core.Path.{◌≡◌, refl, sym, ◌∙◌}
use native.Mathlib.Omega.{arith}
use Rattle.table_fields.specs.Fields.{field_at}
use Rattle.table_fields.proofs.FieldLaws.{field_lies}
use Rattle.table_framing.proofs.WrongLaws.{seen_none, seen_torn, seen_here, seen_on}
use Rattle.table_framing.proofs.has_tag.Goals as goal

pub loop-i-init : goal.loop-i-init
loop-i-init c = (refl, c.requires.order)

pub read_field-requires : goal.read_field-requires
read_field-requires c = later c.requires c.loop-i.invariant.1

pub returns-in_default : goal.returns-in_default
returns-in_default c = seen_torn c.args.t.now c.loop-i.i c.args.end c.args.tag c.requires.within c.loop-i-test.true (sym c.read_field.ensures ∙ c.in_default.is) ∙ c.loop-i.invariant.0

pub returns-then-f-tag : goal.returns-then-f-tag
returns-then-f-tag c =
    let read : field_at c.args.t.now c.loop-i.i c.args.end ≡ Some c.in-Some.f = sym c.read_field.ensures ∙ c.in-Some.is in
    seen_here c.args.t.now c.loop-i.i c.args.end c.args.tag c.requires.within c.loop-i-test.true _ read c.if-f-tag.true ∙ c.loop-i.invariant.0

pub loop-i-smaller : goal.loop-i-smaller
loop-i-smaller c =
    let read : field_at c.args.t.now c.loop-i.i c.args.end ≡ Some c.in-Some.f = sym c.read_field.ensures ∙ c.in-Some.is in
    let l = field_lies c.args.t.now c.loop-i.i c.args.end _ c.loop-i.invariant.1 read in omega (arith, l.begins, l.order, l.within, c.loop-i-test.true)

pub loop-i-preserved : goal.loop-i-preserved
loop-i-preserved c =
    let read : field_at c.args.t.now c.loop-i.i c.args.end ≡ Some c.in-Some.f = sym c.read_field.ensures ∙ c.in-Some.is in
    (seen_on c.args.t.now c.loop-i.i c.args.end c.args.tag c.requires.within c.loop-i-test.true _ read c.if-f-tag.false ∙ c.loop-i.invariant.0, (field_lies c.args.t.now c.loop-i.i c.args.end _ c.loop-i.invariant.1 read).within)

pub returns : goal.returns
returns c = seen_none c.args.t.now c.loop-i.i c.args.end c.args.tag c.requires.within c.loop-i-test.false ∙ c.loop-i.invariant.0
