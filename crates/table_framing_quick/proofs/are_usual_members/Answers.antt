-- One field more at each turn, and what comes decides.
use Rattle.std.specs.Prelude.{Some}
use Rattle.table_fields.proofs.BoundsLaws.{later, narrow}
use mathlib.Core.Path.{◌≡◌, sym, ◌∙◌}
use mathlib.Core.Bool.{false≢true}
use native.Mathlib.Omega.{arith}
use Rattle.table_fields.specs.Fields.{field_at}
use Rattle.table_fields.proofs.FieldLaws.{Lies, field_lies}
use Rattle.table_framing_quick.proofs.UsualLaws.{going_start, going_on, going_end}
use Rattle.table_framing_quick.proofs.are_usual_members.Goals as goal

pub loop-i-init : goal.loop-i-init
loop-i-init c = going_start c.args.t.now c.args.at c.args.tag c.args.end c.args.first c.args.from c.args.to _ c.requires.1 c.rest_room-rest.ensures c.requires.0.order

pub read_field-requires : goal.read_field-requires
read_field-requires c = later c.requires.0 c.loop-i.invariant.order

pub returns-in_default : goal.returns-in_default
returns-in_default c = λ e. absurd (false≢true e)

pub returns-then-names-n : goal.returns-then-names-n
returns-then-names-n c = λ e. absurd (false≢true e)

pub returns-then-rest-n : goal.returns-then-rest-n
returns-then-rest-n c = λ e. absurd (false≢true e)

pub returns-then-not-in_place : goal.returns-then-not-in_place
returns-then-not-in_place c = λ e. absurd (false≢true e)

pub is_usual_member-requires : goal.is_usual_member-requires
is_usual_member-requires c =
    let read : field_at c.args.t.now c.loop-i.i c.args.end ≡ Some c.in-Some.f = sym c.read_field.ensures ∙ c.in-Some.is in
    let lies : Lies c.loop-i.i c.args.end c.in-Some.f.start c.in-Some.f.end = field_lies c.args.t.now c.loop-i.i c.args.end _ c.loop-i.invariant.order read in
    let l = lies in narrow c.requires.0 (omega (arith, l.begins, l.order)) l.within

pub returns-then-not-is_usual_member : goal.returns-then-not-is_usual_member
returns-then-not-is_usual_member c = λ e. absurd (false≢true e)

pub loop-i-smaller : goal.loop-i-smaller
loop-i-smaller c =
    let read : field_at c.args.t.now c.loop-i.i c.args.end ≡ Some c.in-Some.f = sym c.read_field.ensures ∙ c.in-Some.is in
    let lies : Lies c.loop-i.i c.args.end c.in-Some.f.start c.in-Some.f.end = field_lies c.args.t.now c.loop-i.i c.args.end _ c.loop-i.invariant.order read in
    let l = lies in omega (arith, l.begins, l.order, l.within, c.loop-i-test.true)

pub loop-i-preserved : goal.loop-i-preserved
loop-i-preserved c =
    let read : field_at c.args.t.now c.loop-i.i c.args.end ≡ Some c.in-Some.f = sym c.read_field.ensures ∙ c.in-Some.is in
    going_on c.args.t.now c.args.at c.args.tag c.args.end c.args.first c.args.from c.args.to _ _ _ c.loop-i.i c.requires.0.within c.loop-i.invariant c.loop-i-test.true _ read _ c.in_place.ensures c.if-not-in_place.false _ c.least_after-least.ensures _ c.room_of-n.ensures c.if-names-n.false c.if-rest-n.false (c.is_usual_member.ensures c.if-not-is_usual_member.false)

pub returns : goal.returns
returns c = λ e. going_end c.args.t.now c.args.at c.args.tag c.args.end c.args.first c.args.from c.args.to _ _ _ c.loop-i.i c.requires.0.within c.loop-i.invariant c.loop-i-test.false
