-- One record more at each turn, and what comes decides.
use Rattle.std.proofs.lemmas.Result.{err_from_is_err_and}
use Rattle.std.specs.Prelude.{Some}
use mathlib.Core.Path.{◌≡◌, sym, ◌∙◌}
use native.Mathlib.Omega.{arith}
use native.Mathlib.Nat.{le_refl}
use lib.ListN.{length}
use Rattle.table_fields.specs.Fields.{field_at}
use Rattle.table_fields.proofs.FieldLaws.{Lies, field_lies}
use Rattle.table_framing.proofs.WrongLaws.{framing_start, framing_end, framing_torn, framing_out, framing_inside, framing_on}
use Rattle.table_framing.proofs.framing.Goals as goal

pub loop-i-init : goal.loop-i-init
loop-i-init c = framing_start c.args.t.now

pub read_field-requires : goal.read_field-requires
read_field-requires c = record { order = c.loop-i.invariant.order; within = le_refl (length c.args.t.now); most = c.requires }

pub overflow_cast-result : goal.overflow_cast-result
overflow_cast-result c = omega (arith, c.loop-i.invariant.order, c.requires)

pub returns-in_default : goal.returns-in_default
returns-in_default c = framing_torn c.args.t.now _ c.loop-i.i c.loop-i.invariant c.loop-i-test.true (sym c.read_field.ensures ∙ c.in_default.is)

pub overflow_cast-result-then-not-record_in_place : goal.overflow_cast-result-then-not-record_in_place
overflow_cast-result-then-not-record_in_place c = omega (arith, c.loop-i.invariant.order, c.requires)

pub returns-then-not-record_in_place : goal.returns-then-not-record_in_place
returns-then-not-record_in_place c =
    let read : field_at c.args.t.now c.loop-i.i (length c.args.t.now) ≡ Some c.in-Some.f = sym c.read_field.ensures ∙ c.in-Some.is in
    framing_out c.args.t.now _ c.loop-i.i c.loop-i.invariant c.loop-i-test.true _ read _ c.record_in_place.ensures c.if-not-record_in_place.true

pub first_wrong-requires : goal.first_wrong-requires
first_wrong-requires c =
    let read : field_at c.args.t.now c.loop-i.i (length c.args.t.now) ≡ Some c.in-Some.f = sym c.read_field.ensures ∙ c.in-Some.is in
    let lies : Lies c.loop-i.i (length c.args.t.now) c.in-Some.f.start c.in-Some.f.end = field_lies c.args.t.now c.loop-i.i (length c.args.t.now) _ c.loop-i.invariant.order read in
    let l = lies in record { order = omega (arith, l.begins, l.order); within = l.within; most = c.requires }

pub returns-in_err-first_wrong : goal.returns-in_err-first_wrong
returns-in_err-first_wrong c =
    let read : field_at c.args.t.now c.loop-i.i (length c.args.t.now) ≡ Some c.in-Some.f = sym c.read_field.ensures ∙ c.in-Some.is in
    let p = err_from_is_err_and c.from_residual.result c.from_residual.ensures.1 in
    rw (p.1, p.2) (sym c.in_err-first_wrong.was ∙ framing_inside c.args.t.now _ c.loop-i.i c.loop-i.invariant c.loop-i-test.true _ read _ c.record_in_place.ensures c.if-not-record_in_place.false _ _ c.first_wrong.ensures c.in_err-first_wrong.was)

pub loop-i-smaller : goal.loop-i-smaller
loop-i-smaller c =
    let read : field_at c.args.t.now c.loop-i.i (length c.args.t.now) ≡ Some c.in-Some.f = sym c.read_field.ensures ∙ c.in-Some.is in
    let lies : Lies c.loop-i.i (length c.args.t.now) c.in-Some.f.start c.in-Some.f.end = field_lies c.args.t.now c.loop-i.i (length c.args.t.now) _ c.loop-i.invariant.order read in
    let l = lies in omega (arith, l.begins, l.order, l.within, c.loop-i-test.true)

pub loop-i-preserved : goal.loop-i-preserved
loop-i-preserved c =
    let read : field_at c.args.t.now c.loop-i.i (length c.args.t.now) ≡ Some c.in-Some.f = sym c.read_field.ensures ∙ c.in-Some.is in
    framing_on c.args.t.now _ c.loop-i.i c.loop-i.invariant c.loop-i-test.true _ read _ c.record_in_place.ensures c.if-not-record_in_place.false _ c.first_wrong.ensures c.in_ok-first_wrong.was _ c.roots_after-roots.ensures

pub returns : goal.returns
returns c = framing_end c.args.t.now _ c.loop-i.i c.loop-i.invariant c.loop-i-test.false
