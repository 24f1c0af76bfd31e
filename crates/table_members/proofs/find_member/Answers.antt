-- Member by member: what is found from here on is what is found from the start.
use Rattle.std.specs.Prelude.{Some}
use Rattle.table_fields.proofs.BoundsLaws.{later, narrow}
use mathlib.Core.Path.{sym, subst, ◌∙◌}
use native.Mathlib.Omega.{arith}
use Rattle.paper_table.specs.Types.{member_named}
use Rattle.table_book.specs.Book.{part}
use Rattle.table_members.specs.Members.{members_in, NextMember}
use Rattle.table_members.proofs.FindLaws.{sought_start, find_none, find_found, find_more}
use Rattle.table_members.proofs.find_member.Goals as goal

pub loop-f-init : goal.loop-f-init
loop-f-init c = sought_start _ _ _ c.requires.0.order

pub next_member-requires : goal.next_member-requires
next_member-requires c = later c.requires.0 c.loop-f.invariant.within

pub returns-in_err-f : goal.returns-in_err-f
returns-in_err-f c = let a = c.args in
    rw c.from_residual.ensures (find_none (member_named (part a.s.now a.at a.n)) a.from a.end c.loop-f.i (members_in a.t.now a.from a.end) (members_in a.t.now c.loop-f.i a.end) c.loop-f.invariant (subst (NextMember a.t.now c.loop-f.i a.end) c.in_err-f.was c.next_member.ensures))

pub is_member_named-requires : goal.is_member_named-requires
is_member_named-requires c =
    let found : NextMember c.args.t.now c.loop-f.i c.args.end (Some c.in_ok-f.f) = subst (NextMember c.args.t.now c.loop-f.i c.args.end) c.in_ok-f.was c.next_member.ensures in
    let f = found in
    (narrow c.requires.0 f.lies.order f.lies.within, c.requires.1)

pub returns-then-is_member_named : goal.returns-then-is_member_named
returns-then-is_member_named c =
    let found : NextMember c.args.t.now c.loop-f.i c.args.end (Some c.in_ok-f.f) = subst (NextMember c.args.t.now c.loop-f.i c.args.end) c.in_ok-f.was c.next_member.ensures in
    let a = c.args in
    find_found (member_named (part a.s.now a.at a.n)) a.from a.end c.loop-f.i (members_in a.t.now a.from a.end) (members_in a.t.now c.loop-f.i a.end) c.loop-f.invariant _ _ _ _ found (sym c.is_member_named.ensures ∙ c.if-is_member_named.true)

pub loop-f-smaller : goal.loop-f-smaller
loop-f-smaller c =
    let found : NextMember c.args.t.now c.loop-f.i c.args.end (Some c.in_ok-f.f) = subst (NextMember c.args.t.now c.loop-f.i c.args.end) c.in_ok-f.was c.next_member.ensures in
    let f = found in
    omega (arith, f.lies.begins, f.lies.order, f.lies.within)

pub loop-f-preserved : goal.loop-f-preserved
loop-f-preserved c =
    let found : NextMember c.args.t.now c.loop-f.i c.args.end (Some c.in_ok-f.f) = subst (NextMember c.args.t.now c.loop-f.i c.args.end) c.in_ok-f.was c.next_member.ensures in
    let a = c.args in
    find_more (member_named (part a.s.now a.at a.n)) a.from a.end c.loop-f.i (members_in a.t.now a.from a.end) (members_in a.t.now c.loop-f.i a.end) c.loop-f.invariant _ _ _ _ found (sym c.is_member_named.ensures ∙ c.if-is_member_named.false)
