-- One record more at each turn, and what comes decides.
use Rattle.std.specs.Prelude.{Some}
use mathlib.Core.Path.{◌≡◌, sym, ◌∙◌}
use mathlib.Core.Bool.{false≢true}
use native.Mathlib.Omega.{arith}
use native.Mathlib.Nat.{le_refl}
use lib.ListN.{length}
use Rattle.table_fields.specs.Fields.{field_at}
use Rattle.table_fields.proofs.FieldLaws.{Lies, field_lies}
use Rattle.table_framing_quick.proofs.UsualLaws.{tabled_start, tabled_on, tabled_end}
use Rattle.table_framing_quick.proofs.is_usual.Goals as goal

pub loop-i-init : goal.loop-i-init
loop-i-init c = tabled_start c.args.t.now

pub read_field-requires : goal.read_field-requires
read_field-requires c = record { order = c.loop-i.invariant.order; within = le_refl (length c.args.t.now); most = c.requires }

pub returns-in_default : goal.returns-in_default
returns-in_default c = λ e. absurd (false≢true e)

pub returns-then-left-eq0 : goal.returns-then-left-eq0
returns-then-left-eq0 c = λ e. absurd (false≢true e)

pub returns-then-not-record_in_place : goal.returns-then-not-record_in_place
returns-then-not-record_in_place c = λ e. absurd (false≢true e)

pub is_usual_record-requires : goal.is_usual_record-requires
is_usual_record-requires c =
    let read : field_at c.args.t.now c.loop-i.i (length c.args.t.now) ≡ Some c.in-Some.f = sym c.read_field.ensures ∙ c.in-Some.is in
    let lies : Lies c.loop-i.i (length c.args.t.now) c.in-Some.f.start c.in-Some.f.end = field_lies c.args.t.now c.loop-i.i (length c.args.t.now) _ c.loop-i.invariant.order read in
    let l = lies in record { order = omega (arith, l.begins, l.order); within = l.within; most = c.requires }

pub returns-then-not-is_usual_record : goal.returns-then-not-is_usual_record
returns-then-not-is_usual_record c = λ e. absurd (false≢true e)

pub loop-i-smaller : goal.loop-i-smaller
loop-i-smaller c =
    let read : field_at c.args.t.now c.loop-i.i (length c.args.t.now) ≡ Some c.in-Some.f = sym c.read_field.ensures ∙ c.in-Some.is in
    let lies : Lies c.loop-i.i (length c.args.t.now) c.in-Some.f.start c.in-Some.f.end = field_lies c.args.t.now c.loop-i.i (length c.args.t.now) _ c.loop-i.invariant.order read in
    let l = lies in omega (arith, l.begins, l.order, l.within, c.loop-i-test.true)

pub loop-i-preserved : goal.loop-i-preserved
loop-i-preserved c =
    let read : field_at c.args.t.now c.loop-i.i (length c.args.t.now) ≡ Some c.in-Some.f = sym c.read_field.ensures ∙ c.in-Some.is in
    tabled_on c.args.t.now _ _ c.loop-i.i c.loop-i.invariant c.loop-i-test.true _ read _ c.record_in_place.ensures c.if-not-record_in_place.false c.if-left-eq0.false (c.is_usual_record.ensures c.if-not-is_usual_record.false) _ c.roots_after-roots.ensures

pub returns : goal.returns
returns c = λ e. tabled_end c.args.t.now _ _ c.loop-i.i c.loop-i.invariant c.loop-i-test.false
