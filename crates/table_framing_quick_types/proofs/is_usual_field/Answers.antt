-- One argument more at each turn, and the rest decides.
use Rattle.std.specs.Prelude.{Some}
use Rattle.table_fields.proofs.BoundsLaws.{later, narrow}
use mathlib.Core.Path.{◌≡◌, sym, ◌∙◌}
use mathlib.Core.Bool.{false≢true}
use native.Mathlib.Omega.{arith}
use Rattle.table_fields.specs.Fields.{field_at}
use Rattle.table_fields.proofs.FieldLaws.{Lies, field_lies}
use Rattle.table_framing_quick_types.proofs.FineLaws.{begun, usual_start, usual_end, usual_on}
use Rattle.table_framing_quick_types.proofs.is_usual_field.Goals as goal

pub returns-in_default : goal.returns-in_default
returns-in_default c = λ z. absurd (false≢true z)

pub loop-i-init : goal.loop-i-init
loop-i-init c = usual_start c.args.t.now c.args.at c.args.end _ (begun _ _ _ _ _ c.in-Some.is c.typed_end.ensures)

pub returns-then-left-eq0 : goal.returns-then-left-eq0
returns-then-left-eq0 c = λ z. absurd (false≢true z)

pub read_field-requires : goal.read_field-requires
read_field-requires c = later c.requires c.loop-i.invariant.order

pub returns-in_default-read_field : goal.returns-in_default-read_field
returns-in_default-read_field c = λ z. absurd (false≢true z)

pub returns-then-f-ne-TAG_ARGUMENT : goal.returns-then-f-ne-TAG_ARGUMENT
returns-then-f-ne-TAG_ARGUMENT c = λ z. absurd (false≢true z)

pub is_usual_argument-requires : goal.is_usual_argument-requires
is_usual_argument-requires c =
    let read : field_at c.args.t.now c.loop-i.i c.args.end ≡ Some c.in-Some-read_field.f = sym c.read_field.ensures ∙ c.in-Some-read_field.is in
    let lies : Lies c.loop-i.i c.args.end c.in-Some-read_field.f.start c.in-Some-read_field.f.end = field_lies c.args.t.now c.loop-i.i c.args.end _ c.loop-i.invariant.order read in
    let l = lies in narrow c.requires (omega (arith, l.begins, l.order)) l.within

pub returns-then-not-is_usual_argument : goal.returns-then-not-is_usual_argument
returns-then-not-is_usual_argument c = λ z. absurd (false≢true z)

pub loop-i-smaller : goal.loop-i-smaller
loop-i-smaller c =
    let read : field_at c.args.t.now c.loop-i.i c.args.end ≡ Some c.in-Some-read_field.f = sym c.read_field.ensures ∙ c.in-Some-read_field.is in
    let lies : Lies c.loop-i.i c.args.end c.in-Some-read_field.f.start c.in-Some-read_field.f.end = field_lies c.args.t.now c.loop-i.i c.args.end _ c.loop-i.invariant.order read in
    let l = lies in omega (arith, l.begins, l.order, l.within, c.loop-i-test.true)

pub loop-i-preserved : goal.loop-i-preserved
loop-i-preserved c =
    let read : field_at c.args.t.now c.loop-i.i c.args.end ≡ Some c.in-Some-read_field.f = sym c.read_field.ensures ∙ c.in-Some-read_field.is in
    usual_on c.args.t.now c.args.at c.args.end _ c.loop-i.i c.requires.within c.loop-i.invariant _ read c.if-f-ne-TAG_ARGUMENT.false c.if-left-eq0.false (c.is_usual_argument.ensures c.if-not-is_usual_argument.false)

pub returns : goal.returns
returns c = λ z. usual_end c.args.t.now c.args.at c.args.end _ c.loop-i.i c.requires.within c.loop-i.invariant c.loop-i-test.false
