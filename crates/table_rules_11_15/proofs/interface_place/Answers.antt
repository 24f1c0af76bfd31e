-- Field by field, up to the first that shows something.
use Rattle.std.proofs.lemmas.Result.{err_from_is_err_and}
use Rattle.std.specs.Prelude.{Some}
use Rattle.table_fields.proofs.BoundsLaws.{later, narrow}
use mathlib.Core.Path.{sym, subst, ◌∙◌}
use native.Mathlib.Omega.{arith}
use Rattle.table_members.specs.Members.{NextMember}
use Rattle.table_rules_13_15.proofs.Walking.{walking_start, walking_none, walking_pass, walking_here, walking_on}
use Rattle.table_rules_11_15.proofs.interface_place.Goals as goal

pub loop-f-init : goal.loop-f-init
loop-f-init c = walking_start _ _ _ _ _ c.requires.1.order c.requires.3

pub next_member-requires : goal.next_member-requires
next_member-requires c = later c.requires.1 c.loop-f.invariant.within

pub returns-in_default : goal.returns-in_default
returns-in_default c = walking_none c.loop-f.invariant (subst (NextMember c.args.t.now c.loop-f.i c.args.end) c.in_default.is c.next_member.ensures)

pub field_place-requires : goal.field_place-requires
field_place-requires c =
    let found : NextMember c.args.t.now c.loop-f.i c.args.end (Some c.in-Some.f) = subst (NextMember c.args.t.now c.loop-f.i c.args.end) c.in-Some.is c.next_member.ensures in
    let p = c.requires in
    let f = found in
    (p.0, narrow p.1 f.lies.order f.lies.within, p.2, walking_pass c.loop-f.invariant f, p.4, p.5)

pub returns-in_err-field_place : goal.returns-in_err-field_place
returns-in_err-field_place c =
    let found : NextMember c.args.t.now c.loop-f.i c.args.end (Some c.in-Some.f) = subst (NextMember c.args.t.now c.loop-f.i c.args.end) c.in-Some.is c.next_member.ensures in
    let p = err_from_is_err_and c.from_residual.result c.from_residual.ensures.1 in
    rw (p.1, p.2) (walking_here c.loop-f.invariant found _ (sym c.in_err-field_place.was ∙ c.field_place.ensures))

pub overflow_add-p : goal.overflow_add-p
overflow_add-p c =
    let found : NextMember c.args.t.now c.loop-f.i c.args.end (Some c.in-Some.f) = subst (NextMember c.args.t.now c.loop-f.i c.args.end) c.in-Some.is c.next_member.ensures in
    let f = found in
    omega (arith, c.loop-f.invariant.few, f.lies.begins, f.lies.order, f.lies.within, c.requires.1.within, c.requires.1.most)

pub loop-f-smaller : goal.loop-f-smaller
loop-f-smaller c =
    let found : NextMember c.args.t.now c.loop-f.i c.args.end (Some c.in-Some.f) = subst (NextMember c.args.t.now c.loop-f.i c.args.end) c.in-Some.is c.next_member.ensures in
    let f = found in
    omega (arith, f.lies.begins, f.lies.order, f.lies.within)

pub loop-f-preserved : goal.loop-f-preserved
loop-f-preserved c =
    let found : NextMember c.args.t.now c.loop-f.i c.args.end (Some c.in-Some.f) = subst (NextMember c.args.t.now c.loop-f.i c.args.end) c.in-Some.is c.next_member.ensures in
    walking_on c.loop-f.invariant found (sym c.in_ok-field_place.was ∙ c.field_place.ensures)
