-- Member by member: what is found from here on is what is found from the start.
use Rattle.std.specs.Prelude.{Some}
use mathlib.Core.Path.{sym, subst, ◌∙◌}
use native.Mathlib.Omega.{arith}
use Rattle.table_fields.proofs.BoundsLaws.{later}
use borrow.Author.Tests.{eq-eqb, ne_eqb}
use Rattle.table_members.specs.Members.{members_in, NextMember}
use Rattle.table_members.proofs.FindLaws.{sought_start, find_none, find_found, find_more}
use Rattle.table_members.proofs.MemberLaws.{member_tag}
use Rattle.query_roots.specs.Rooted.{tagged}
use Rattle.query_roots.proofs.find_tagged.Goals as goal

pub loop-f-init : goal.loop-f-init
loop-f-init c = sought_start _ _ _ c.requires.order

pub next_member-requires : goal.next_member-requires
next_member-requires c = let g = c.requires in
    later g c.loop-f.invariant.within

pub returns-in_err-f : goal.returns-in_err-f
returns-in_err-f c = let l = c.loop-f in
    let a = c.args in
    rw c.from_residual.ensures (find_none (tagged a.tag) a.from a.end l.i (members_in a.t.now a.from a.end) (members_in a.t.now l.i a.end) l.invariant (subst (NextMember a.t.now l.i a.end) c.in_err-f.was c.next_member.ensures))

pub returns-then-f-tag : goal.returns-then-f-tag
returns-then-f-tag c =
    let found : NextMember c.args.t.now c.loop-f.i c.args.end (Some c.in_ok-f.f) = let a = c.args in
    subst (NextMember a.t.now c.loop-f.i a.end) c.in_ok-f.was c.next_member.ensures in
    let l = c.loop-f in
    let a = c.args in
    find_found (tagged a.tag) a.from a.end l.i (members_in a.t.now a.from a.end) (members_in a.t.now l.i a.end) l.invariant _ _ _ _ found (eq-eqb _ a.tag (member_tag _ _ _ _ ∙ c.if-f-tag.true))

pub loop-f-smaller : goal.loop-f-smaller
loop-f-smaller c =
    let found : NextMember c.args.t.now c.loop-f.i c.args.end (Some c.in_ok-f.f) = let a = c.args in
    subst (NextMember a.t.now c.loop-f.i a.end) c.in_ok-f.was c.next_member.ensures in
    let f = found in
    omega (arith, f.lies.begins, f.lies.order, f.lies.within)

pub loop-f-preserved : goal.loop-f-preserved
loop-f-preserved c =
    let found : NextMember c.args.t.now c.loop-f.i c.args.end (Some c.in_ok-f.f) = let a = c.args in
    subst (NextMember a.t.now c.loop-f.i a.end) c.in_ok-f.was c.next_member.ensures in
    let l = c.loop-f in
    let a = c.args in
    find_more (tagged a.tag) a.from a.end l.i (members_in a.t.now a.from a.end) (members_in a.t.now l.i a.end) l.invariant _ _ _ _ found (ne_eqb _ a.tag (λ z. c.if-f-tag.false (sym (member_tag _ _ _ _) ∙ z)))
