-- What is entered so far, and what is left, are the members.
use Rattle.std.specs.Prelude.{Some}
use mathlib.Core.Path.{◌≡◌, refl, ap, subst}
use Prim.Native.Nat.{◌+◌, suc}
use lib.ListN.{length}
use Rattle.table_members.specs.Members.{members_in, member_from, NextMember}
use Rattle.table_entries.specs.Entries.{entries_of}
use Rattle.table_entries.proofs.Runs.{roomy_same}
use Rattle.table_entries.proofs.Writes.{filling_start, filling_end, filling_more, members_keep}
use native.Mathlib.Omega.{arith}
use Rattle.table_entries.proofs.enter_members.Goals as goal

pub loop-f-init : goal.loop-f-init
loop-f-init c = (c.requires.0.order, filling_start _ _ _ _ _)

pub next_member-requires : goal.next_member-requires
next_member-requires c = record { order = c.loop-f.invariant.0; within = c.requires.0.within; most = c.requires.0.most }

pub shape_of-es-in_default : goal.shape_of-es-in_default
shape_of-es-in_default c = c.loop-f.invariant.1.cells

pub returns-in_default : goal.returns-in_default
returns-in_default c = let a = c.args in
    filling_end _ _ _ _ _ _ _ _ c.loop-f.invariant.1 refl (subst (NextMember a.t.now c.loop-f.i a.end) c.in_default.is c.next_member.ensures)

pub enter_member-k-requires : goal.enter_member-k-requires
enter_member-k-requires c =
    let found : NextMember c.args.t.now c.loop-f.i c.args.end (Some c.in-Some.f) = subst (NextMember c.args.t.now c.loop-f.i c.args.end) c.in-Some.is c.next_member.ensures in
    let one_less : c.loop-f.k + entries_of (members_in c.args.t.now c.loop-f.i c.args.end) ≡ c.loop-f.k + suc (length (member_from c.args.t.now c.in-Some.f.tag c.in-Some.f.start c.in-Some.f.end).arguments) + entries_of (members_in c.args.t.now c.in-Some.f.end c.args.end) = let q = ap entries_of found.all_are in omega (arith, q) in
    let f = found in
    let p = c.requires in
    (record { order = f.lies.order; within = omega (arith, f.lies.within, p.0.within); most = p.0.most }, p.1, roomy_same p.2 (omega (arith, one_less, c.loop-f.invariant.1.size)) c.loop-f.invariant.1.cells)

pub loop-f-smaller : goal.loop-f-smaller
loop-f-smaller c =
    let found : NextMember c.args.t.now c.loop-f.i c.args.end (Some c.in-Some.f) = subst (NextMember c.args.t.now c.loop-f.i c.args.end) c.in-Some.is c.next_member.ensures in
    let f = found in omega (arith, f.lies.begins, f.lies.order, f.lies.within)

pub loop-f-preserved : goal.loop-f-preserved
loop-f-preserved c =
    let found : NextMember c.args.t.now c.loop-f.i c.args.end (Some c.in-Some.f) = subst (NextMember c.args.t.now c.loop-f.i c.args.end) c.in-Some.is c.next_member.ensures in
    let one_less : c.loop-f.k + entries_of (members_in c.args.t.now c.loop-f.i c.args.end) ≡ c.loop-f.k + suc (length (member_from c.args.t.now c.in-Some.f.tag c.in-Some.f.start c.in-Some.f.end).arguments) + entries_of (members_in c.args.t.now c.in-Some.f.end c.args.end) = let q = ap entries_of found.all_are in omega (arith, q) in
    let f = found in
    let o = c.enter_member-k.ensures in
    (f.lies.within, filling_more _ _ _ _ _ _ _ _ c.loop-f.invariant.1 (members_keep _ _) _ _ _ _ f.all_are o.one (omega (arith, o.size)) (omega (arith, o.size, one_less)))
