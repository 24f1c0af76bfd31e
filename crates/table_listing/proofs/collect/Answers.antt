-- Member by member: those that are not entered yet stand from here on.
use Rattle.std.specs.Prelude.{Some}
use Rattle.table_fields.proofs.BoundsLaws.{later, narrow}
use mathlib.Core.Path.{sym, subst, ◌∙◌}
use native.Mathlib.Omega.{arith}
use Rattle.table_members.specs.Members.{NextMember}
use Rattle.table_listing.proofs.Listing.{collecting_start, collecting_end, collecting_more, member_below}
use Rattle.table_listing.proofs.collect.Goals as goal

pub loop-f-init : goal.loop-f-init
loop-f-init c = collecting_start _ _ _ _ c.requires

pub next_member-requires : goal.next_member-requires
next_member-requires c = later c.requires.bounds c.loop-f.invariant.within

pub shape_of-book-in_default : goal.shape_of-book-in_default
shape_of-book-in_default c = c.loop-f.invariant.cells ∙ sym c.requires.cells

pub returns-in_default : goal.returns-in_default
returns-in_default c = let a = c.args in
    let l = c.loop-f in
    collecting_end a.t.now l.book a.from a.end l.at l.i l.invariant (subst (NextMember a.t.now l.at a.end) c.in_default.is c.next_member.ensures)

pub enter-requires : goal.enter-requires
enter-requires c =
    let found : NextMember c.args.t.now c.loop-f.at c.args.end (Some c.in-Some.f) = subst (NextMember c.args.t.now c.loop-f.at c.args.end) c.in-Some.is c.next_member.ensures in
    let a = c.args in
    let l = c.loop-f in
    let f = found in
    (narrow c.requires.bounds f.lies.order f.lies.within, l.invariant.cells, omega (arith, member_below a.t.now l.book a.from a.end l.at l.i l.invariant _ _ _ f, c.requires.few))

pub overflow_add-i : goal.overflow_add-i
overflow_add-i c =
    let found : NextMember c.args.t.now c.loop-f.at c.args.end (Some c.in-Some.f) = subst (NextMember c.args.t.now c.loop-f.at c.args.end) c.in-Some.is c.next_member.ensures in
    let a = c.args in
    let l = c.loop-f in
    omega (arith, member_below a.t.now l.book a.from a.end l.at l.i l.invariant _ _ _ found, c.requires.few)

pub loop-f-smaller : goal.loop-f-smaller
loop-f-smaller c =
    let found : NextMember c.args.t.now c.loop-f.at c.args.end (Some c.in-Some.f) = subst (NextMember c.args.t.now c.loop-f.at c.args.end) c.in-Some.is c.next_member.ensures in
    let f = found in
    omega (arith, f.lies.begins, f.lies.order, f.lies.within)

pub loop-f-preserved : goal.loop-f-preserved
loop-f-preserved c =
    let found : NextMember c.args.t.now c.loop-f.at c.args.end (Some c.in-Some.f) = subst (NextMember c.args.t.now c.loop-f.at c.args.end) c.in-Some.is c.next_member.ensures in
    let a = c.args in
    let l = c.loop-f in
    collecting_more a.t.now l.book a.from a.end l.at l.i l.invariant _ _ _ found _ (omega arith) c.enter.ensures
