-- Member by member: each is one that the union has.
use Rattle.std.specs.Prelude.{Some}
use mathlib.Core.Path.{sym, ap, subst, ◌∙◌}
use mathlib.Core.List.{List}
use Prim.Native.Nat.{ℕ}
use native.Mathlib.Omega.{arith}
use Rattle.paper.specs.Tokens.{same}
use Rattle.paper_table.specs.Types.{Member, member_named}
use Rattle.paper_table.proofs.TextLaws.{same_refl}
use Rattle.table_book.specs.Book.{part}
use Rattle.table_members.specs.Members.{members_in, NextMember}
use Rattle.table_types.specs.Booked.{definition_on}
use Rattle.table_types.proofs.Entries.{bounds_entered, members_entered}
use Rattle.table_types.proofs.Objects.{number_room}
use Rattle.table_possible.proofs.NameLaws.{Inside, inside_start, inside_one, inside_on}
use Rattle.table_possible.proofs.mark_union.Goals as goal

pub end_of-end-requires : goal.end_of-end-requires
end_of-end-requires c = (c.requires.0.indexed.held.cells, number_room _ _ c.requires.0 _ c.requires.2)

pub start_of-m-requires : goal.start_of-m-requires
start_of-m-requires c = (c.requires.0.indexed.held.cells, number_room _ _ c.requires.0 _ c.requires.2)

pub loop-f-init : goal.loop-f-init
loop-f-init c = let a = c.args in
    let b = bounds_entered a.t.now a.book.now c.requires.0 a.i c.requires.2 c.start_of-m.result c.end_of-end.result c.start_of-m.ensures c.end_of-end.ensures in
    (c.requires.1, subst (λ (x : ℕ). Inside x c.end_of-end.result c.start_of-m.result (definition_on a.t.now a.i).members (members_in a.t.now c.start_of-m.result c.end_of-end.result)) c.start_of-m.ensures (subst (λ (xs : List Member). Inside c.start_of-m.result c.end_of-end.result c.start_of-m.result xs (members_in a.t.now c.start_of-m.result c.end_of-end.result)) (members_entered a.t.now a.book.now c.requires.0 a.i c.requires.2 _ _ c.start_of-m.ensures c.end_of-end.ensures) (inside_start _ _ _ b.order)))

pub next_member-requires : goal.next_member-requires
next_member-requires c = record { order = c.loop-f.invariant.1.within; within = omega (arith, c.end_of-end.ensures, (c.requires.0.entered c.args.i c.requires.2).within); most = c.requires.0.short }

pub shape_of-bits-in_default : goal.shape_of-bits-in_default
shape_of-bits-in_default c = c.loop-f.invariant.0.size ∙ sym c.requires.1.size

pub returns-in_default : goal.returns-in_default
returns-in_default c = c.loop-f.invariant.0

pub member_name-name-requires : goal.member_name-name-requires
member_name-name-requires c =
    let found : NextMember c.args.t.now c.loop-f.m c.end_of-end.result (Some c.in-Some.f) = subst (NextMember c.args.t.now c.loop-f.m c.end_of-end.result) c.in-Some.is c.next_member.ensures in
    let f = found in
    record { order = f.lies.order; within = omega (arith, f.lies.within, c.end_of-end.ensures, (c.requires.0.entered c.args.i c.requires.2).within); most = c.requires.0.short }

pub mark_member-requires : goal.mark_member-requires
mark_member-requires c =
    let found : NextMember c.args.t.now c.loop-f.m c.end_of-end.result (Some c.in-Some.f) = subst (NextMember c.args.t.now c.loop-f.m c.end_of-end.result) c.in-Some.is c.next_member.ensures in
    let a = c.args in
    let e = c.member_name-name.ensures in
    let n = part a.t.now c.member_name-name.result.at c.member_name-name.result.size in
    (c.requires.0, c.loop-f.invariant.0, c.requires.2, c.requires.3, e.within, inside_one _ _ _ _ _ c.loop-f.invariant.1 _ _ _ _ found (member_named n) (ap (λ (x : List ℕ). same x n) (sym e.is) ∙ same_refl n))

pub loop-f-smaller : goal.loop-f-smaller
loop-f-smaller c =
    let found : NextMember c.args.t.now c.loop-f.m c.end_of-end.result (Some c.in-Some.f) = subst (NextMember c.args.t.now c.loop-f.m c.end_of-end.result) c.in-Some.is c.next_member.ensures in
    let f = found in
    omega (arith, f.lies.begins, f.lies.order, f.lies.within)

pub loop-f-preserved : goal.loop-f-preserved
loop-f-preserved c =
    let found : NextMember c.args.t.now c.loop-f.m c.end_of-end.result (Some c.in-Some.f) = subst (NextMember c.args.t.now c.loop-f.m c.end_of-end.result) c.in-Some.is c.next_member.ensures in
    (c.mark_member.ensures, inside_on _ _ _ _ _ c.loop-f.invariant.1 _ _ _ _ found)
