-- Record by record: the definitions that are not entered yet stand from here on.
use Rattle.std.specs.Prelude.{Some}
use mathlib.Core.Path.{◌≡◌, sym, ◌∙◌}
use lib.ListN.{length}
use native.Mathlib.Omega.{arith}
use Rattle.table_fields.specs.Fields.{field_at}
use Rattle.table_types.proofs.Recording.{recording_start, recording_end, recording_torn, next_below, next_bounds, recording_more}
use Rattle.table_types.proofs.records.Goals as goal

pub loop-at-init : goal.loop-at-init
loop-at-init c = recording_start _ _ c.requires

pub read_field-requires : goal.read_field-requires
read_field-requires c = record { order = c.loop-at.invariant.within; within = omega arith; most = c.requires.short }

pub shape_of-book-in_default : goal.shape_of-book-in_default
shape_of-book-in_default c = c.loop-at.invariant.cells ∙ sym c.requires.cells

pub returns-in_default : goal.returns-in_default
returns-in_default c = recording_torn c.args.t.now c.loop-at.book c.loop-at.at c.loop-at.i c.loop-at.invariant c.loop-at-test.true (sym c.read_field.ensures ∙ c.in_default.is)

pub enter-requires : goal.enter-requires
enter-requires c =
    let read : field_at c.args.t.now c.loop-at.at (length c.args.t.now) ≡ Some c.in-Some.f = sym c.read_field.ensures ∙ c.in-Some.is in
    let l = c.loop-at in
    let n = next_bounds c.args.t.now l.book l.at l.i l.invariant c.loop-at-test.true _ read in
    (record { order = n.0; within = n.1; most = c.requires.short }, l.invariant.cells, omega (arith, next_below c.args.t.now l.book l.at l.i l.invariant c.loop-at-test.true _ read, c.requires.few))

pub overflow_add-i : goal.overflow_add-i
overflow_add-i c =
    let read : field_at c.args.t.now c.loop-at.at (length c.args.t.now) ≡ Some c.in-Some.f = sym c.read_field.ensures ∙ c.in-Some.is in
    let l = c.loop-at in
    omega (arith, next_below c.args.t.now l.book l.at l.i l.invariant c.loop-at-test.true _ read, c.requires.few)

pub loop-at-smaller : goal.loop-at-smaller
loop-at-smaller c =
    let read : field_at c.args.t.now c.loop-at.at (length c.args.t.now) ≡ Some c.in-Some.f = sym c.read_field.ensures ∙ c.in-Some.is in
    let l = c.loop-at in
    let n = next_bounds c.args.t.now l.book l.at l.i l.invariant c.loop-at-test.true _ read in
    omega (arith, n.1, n.2)

pub loop-at-preserved : goal.loop-at-preserved
loop-at-preserved c =
    let read : field_at c.args.t.now c.loop-at.at (length c.args.t.now) ≡ Some c.in-Some.f = sym c.read_field.ensures ∙ c.in-Some.is in
    let l = c.loop-at in
    recording_more c.args.t.now l.book l.at l.i l.invariant c.loop-at-test.true _ read _ c.enter.ensures

pub shape_of-book : goal.shape_of-book
shape_of-book c = c.loop-at.invariant.cells ∙ sym c.requires.cells

pub returns : goal.returns
returns c = recording_end c.args.t.now c.loop-at.book c.loop-at.at c.loop-at.i c.loop-at.invariant c.loop-at-test.false
