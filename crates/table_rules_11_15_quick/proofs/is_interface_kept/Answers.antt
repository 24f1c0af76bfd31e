-- Field by field: if the rest is kept, all is.
use Rattle.std.specs.Prelude.{Some}
use Rattle.paper.proofs.Bools.{not_false}
use Rattle.table_fields.proofs.BoundsLaws.{later, narrow}
use mathlib.Core.Path.{sym, ap, subst, ◌∙◌}
use mathlib.Core.Bool.{false≢true}
use native.Mathlib.Omega.{arith}
use Rattle.paper_table.specs.Lists.{all_of}
use Rattle.table_members.specs.Members.{NextMember}
use Rattle.table_types.specs.Sizes.{slim_member}
use Rattle.table_types.proofs.SlimLaws.{all_head, all_tail}
use Rattle.table_rules_11_15_quick.proofs.KeepingLaws.{holding_start, holding_none, holding_on}
use mathlib.Core.Bool.{not}
use Rattle.table_rules_11_15_quick.proofs.is_interface_kept.Goals as goal

pub loop-f-init : goal.loop-f-init
loop-f-init c = (holding_start _ _ _ _ c.requires.2.order, c.requires.4)

pub next_member-requires : goal.next_member-requires
next_member-requires c = later c.requires.2 c.loop-f.invariant.0.within

pub returns-in_default : goal.returns-in_default
returns-in_default c = let a = c.args in
    λ z. holding_none _ _ _ _ _ c.loop-f.invariant.0 (subst (NextMember a.t.now c.loop-f.i a.end) c.in_default.is c.next_member.ensures)

pub is_field_kept-requires : goal.is_field_kept-requires
is_field_kept-requires c =
    let found : NextMember c.args.t.now c.loop-f.i c.args.end (Some c.in-Some.f) = subst (NextMember c.args.t.now c.loop-f.i c.args.end) c.in-Some.is c.next_member.ensures in
    let p = c.requires in
    let f = found in
    (p.0, p.1, narrow p.2 f.lies.order f.lies.within, p.3, all_head slim_member _ _ (ap (all_of slim_member) (sym f.all_are) ∙ c.loop-f.invariant.1), p.5, p.6)

pub returns-then-not-is_field_kept : goal.returns-then-not-is_field_kept
returns-then-not-is_field_kept c = λ z. absurd (false≢true z)

pub loop-f-smaller : goal.loop-f-smaller
loop-f-smaller c =
    let found : NextMember c.args.t.now c.loop-f.i c.args.end (Some c.in-Some.f) = subst (NextMember c.args.t.now c.loop-f.i c.args.end) c.in-Some.is c.next_member.ensures in
    let f = found in
    omega (arith, f.lies.begins, f.lies.order, f.lies.within)

pub loop-f-preserved : goal.loop-f-preserved
loop-f-preserved c =
    let found : NextMember c.args.t.now c.loop-f.i c.args.end (Some c.in-Some.f) = subst (NextMember c.args.t.now c.loop-f.i c.args.end) c.in-Some.is c.next_member.ensures in
    let f = found in
    (holding_on _ _ _ _ _ c.loop-f.invariant.0 _ _ _ _ f (c.is_field_kept.ensures (not_false _ (ap not c.if-not-is_field_kept.false))), all_tail slim_member _ _ (ap (all_of slim_member) (sym f.all_are) ∙ c.loop-f.invariant.1))
