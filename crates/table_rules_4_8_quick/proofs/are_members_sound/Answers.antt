-- Member by member: if the others are sound, all are.
use Rattle.std.specs.Prelude.{Some}
use Rattle.table_fields.proofs.BoundsLaws.{later, narrow}
use mathlib.Core.Path.{subst}
use mathlib.Core.Bool.{false≢true}
use native.Mathlib.Omega.{arith}
use Rattle.paper_table.specs.Types.{table_of}
use Rattle.table_members.specs.Members.{NextMember, members_in}
use Rattle.table_rules_4_8_quick.specs.Sound.{member_name, MemberSound, member_mark}
use Rattle.table_rules_4_8_quick.proofs.SoundLaws.{sounding_start, sounding_none, sounding_on}
use Rattle.table_rules_4_8_quick.proofs.are_members_sound.Goals as goal

pub loop-f-init : goal.loop-f-init
loop-f-init c = (sounding_start member_name _ _ _ _ _ _ c.requires.1.order c.requires.2, c.requires.3)

pub next_member-requires : goal.next_member-requires
next_member-requires c = later c.requires.1 c.loop-f.invariant.0.within

pub returns-in_default : goal.returns-in_default
returns-in_default c = let a = c.args in
    λ z. sounding_none member_name (MemberSound (table_of a.t.now) (members_in a.t.now a.from a.end)) _ member_mark a.from a.end c.loop-f.i c.loop-f.m (members_in a.t.now a.from a.end) (members_in a.t.now c.loop-f.i a.end) c.loop-f.invariant.0 (subst (NextMember a.t.now c.loop-f.i a.end) c.in_default.is c.next_member.ensures)

pub is_member_sound-requires : goal.is_member_sound-requires
is_member_sound-requires c =
    let found : NextMember c.args.t.now c.loop-f.i c.args.end (Some c.in-Some.f) = subst (NextMember c.args.t.now c.loop-f.i c.args.end) c.in-Some.is c.next_member.ensures in
    let p = c.requires in
    let f = found in
    (p.0, p.1, narrow p.1 f.lies.order f.lies.within, c.loop-f.invariant.0.size, c.loop-f.invariant.1)

pub returns-then-not-is_member_sound : goal.returns-then-not-is_member_sound
returns-then-not-is_member_sound c = λ z. absurd (false≢true z)

pub overflow_add-m : goal.overflow_add-m
overflow_add-m c = omega (arith, c.loop-f.invariant.0.begun, c.loop-f.invariant.0.within, c.requires.1.within, c.requires.1.most)

pub loop-f-smaller : goal.loop-f-smaller
loop-f-smaller c =
    let found : NextMember c.args.t.now c.loop-f.i c.args.end (Some c.in-Some.f) = subst (NextMember c.args.t.now c.loop-f.i c.args.end) c.in-Some.is c.next_member.ensures in
    let f = found in
    omega (arith, f.lies.begins, f.lies.order, f.lies.within)

pub loop-f-preserved : goal.loop-f-preserved
loop-f-preserved c =
    let found : NextMember c.args.t.now c.loop-f.i c.args.end (Some c.in-Some.f) = subst (NextMember c.args.t.now c.loop-f.i c.args.end) c.in-Some.is c.next_member.ensures in
    let a = c.args in
    (sounding_on member_name (MemberSound (table_of a.t.now) (members_in a.t.now a.from a.end)) _ member_mark a.from a.end c.loop-f.i c.loop-f.m (members_in a.t.now a.from a.end) (members_in a.t.now c.loop-f.i a.end) c.loop-f.invariant.0 _ _ _ _ found _ c.is_member_sound.ensures.0 c.if-not-is_member_sound.false, c.is_member_sound.ensures.1)
