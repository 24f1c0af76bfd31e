-- A walk over the members.
use Rattle.std.proofs.lemmas.Result.{err_from_is_err_and}
use Rattle.std.specs.Prelude.{Some}
use Rattle.table_fields.proofs.BoundsLaws.{later, narrow}
use mathlib.Core.Path.{subst, sym, ◌∙◌}
use native.Mathlib.Omega.{arith}
use Rattle.paper_table.specs.Types.{table_of}
use Rattle.table_members.specs.Members.{NextMember, members_in}
use Rattle.table_walks.proofs.Walked.{walking_start, walking_end, walking_here, walking_on}
use Rattle.table_walks.specs.Walks.{member_and_arguments_at}
use Rattle.table_walks.proofs.members_place.Goals as goal

pub loop-f-init : goal.loop-f-init
loop-f-init c = walking_start (member_and_arguments_at c.args.rule (table_of c.args.t.now) (members_in c.args.t.now c.args.from c.args.end)) c.args.from c.args.end (members_in c.args.t.now c.args.from c.args.end) c.requires.1.order

pub next_member-requires : goal.next_member-requires
next_member-requires c = later c.requires.1 c.loop-f.invariant.within

pub returns-in_default : goal.returns-in_default
returns-in_default c = walking_end (member_and_arguments_at c.args.rule (table_of c.args.t.now) (members_in c.args.t.now c.args.from c.args.end)) c.args.from c.args.end c.loop-f.i c.loop-f.m (members_in c.args.t.now c.args.from c.args.end) (members_in c.args.t.now c.loop-f.i c.args.end) c.loop-f.invariant (subst (NextMember c.args.t.now c.loop-f.i c.args.end) c.in_default.is c.next_member.ensures)

pub member_place-requires : goal.member_place-requires
member_place-requires c =
    let found : NextMember c.args.t.now c.loop-f.i c.args.end (Some c.in-Some.f) = subst (NextMember c.args.t.now c.loop-f.i c.args.end) c.in-Some.is c.next_member.ensures in
    let f = found in
    (c.requires.0, c.requires.1, narrow c.requires.1 f.lies.order f.lies.within)

pub returns-in_err-member_place : goal.returns-in_err-member_place
returns-in_err-member_place c =
    let found : NextMember c.args.t.now c.loop-f.i c.args.end (Some c.in-Some.f) = subst (NextMember c.args.t.now c.loop-f.i c.args.end) c.in-Some.is c.next_member.ensures in
    let p = err_from_is_err_and c.from_residual.result c.from_residual.ensures.1 in
    rw (p.1, p.2) (walking_here (member_and_arguments_at c.args.rule (table_of c.args.t.now) (members_in c.args.t.now c.args.from c.args.end)) c.args.from c.args.end c.loop-f.i c.loop-f.m (members_in c.args.t.now c.args.from c.args.end) (members_in c.args.t.now c.loop-f.i c.args.end) c.loop-f.invariant _ _ _ _ found _ (sym c.in_err-member_place.was ∙ c.member_place.ensures))

pub overflow_add-m : goal.overflow_add-m
overflow_add-m c =
    let found : NextMember c.args.t.now c.loop-f.i c.args.end (Some c.in-Some.f) = subst (NextMember c.args.t.now c.loop-f.i c.args.end) c.in-Some.is c.next_member.ensures in
    let f = found in
    omega (arith, c.loop-f.invariant.begun, c.loop-f.invariant.within, c.requires.1.within, c.requires.1.most)

pub loop-f-smaller : goal.loop-f-smaller
loop-f-smaller c =
    let found : NextMember c.args.t.now c.loop-f.i c.args.end (Some c.in-Some.f) = subst (NextMember c.args.t.now c.loop-f.i c.args.end) c.in-Some.is c.next_member.ensures in
    let f = found in
    omega (arith, f.lies.begins, f.lies.order, f.lies.within)

pub loop-f-preserved : goal.loop-f-preserved
loop-f-preserved c =
    let found : NextMember c.args.t.now c.loop-f.i c.args.end (Some c.in-Some.f) = subst (NextMember c.args.t.now c.loop-f.i c.args.end) c.in-Some.is c.next_member.ensures in
    walking_on (member_and_arguments_at c.args.rule (table_of c.args.t.now) (members_in c.args.t.now c.args.from c.args.end)) c.args.from c.args.end c.loop-f.i c.loop-f.m (members_in c.args.t.now c.args.from c.args.end) (members_in c.args.t.now c.loop-f.i c.args.end) c.loop-f.invariant _ _ _ _ found (sym c.in_ok-member_place.was ∙ c.member_place.ensures)
