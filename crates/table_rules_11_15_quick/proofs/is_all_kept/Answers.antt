-- Name by name: if the rest is kept, all is.
use Rattle.std.specs.Prelude.{Some}
use mathlib.Core.Path.{subst}
use mathlib.Core.Bool.{false≢true}
use mathlib.Core.List.{List}
use native.Mathlib.Omega.{arith}
use Rattle.paper.proofs.Bools.{not_false}
use Rattle.paper_table.specs.Types.{Member, table_of}
use Rattle.table_members.specs.Members.{members_in, implemented_in, NextImplemented}
use Rattle.table_types.specs.Booked.{definition_on}
use Rattle.table_types.proofs.Entries.{bounds_entered, members_entered, implemented_entered}
use Rattle.table_types.proofs.Objects.{number_room}
use Rattle.table_types.proofs.SlimLaws.{entry_slim}
use Rattle.table_rules_11_15_quick.specs.Keeping.{Every, NameKept}
use Rattle.table_rules_11_15_quick.proofs.KeepingLaws.{all_kept, holding_start, holding_none, holding_on}
use mathlib.Core.Path.{ap}
use mathlib.Core.Bool.{not}
use Rattle.table_rules_11_15_quick.proofs.is_all_kept.Goals as goal

pub start_of-from-requires : goal.start_of-from-requires
start_of-from-requires c = (c.requires.0.indexed.held.cells, number_room _ _ c.requires.0 _ c.requires.3)

pub end_of-stop-requires : goal.end_of-stop-requires
end_of-stop-requires c = (c.requires.0.indexed.held.cells, number_room _ _ c.requires.0 _ c.requires.3)

pub loop-f-init : goal.loop-f-init
loop-f-init c = let a = c.args in
    holding_start _ _ _ _ (bounds_entered a.t.now a.book.now c.requires.0 a.d c.requires.3 _ _ c.start_of-from.ensures c.end_of-stop.ensures).order

pub next_implemented-requires : goal.next_implemented-requires
next_implemented-requires c = record { order = c.loop-f.invariant.within; within = omega (arith, c.end_of-stop.ensures, (c.requires.0.entered c.args.d c.requires.3).within); most = c.requires.0.short }

pub returns-in_default : goal.returns-in_default
returns-in_default c = let a = c.args in
    let from = c.start_of-from.result in
    let stop = c.end_of-stop.result in
    let k = holding_none (NameKept (table_of a.t.now) (members_in a.t.now from stop)) stop c.loop-f.i (implemented_in a.t.now from stop) (implemented_in a.t.now c.loop-f.i stop) c.loop-f.invariant (subst (NextImplemented a.t.now c.loop-f.i stop) c.in_default.is c.next_implemented.ensures) in
    let m = members_entered a.t.now a.book.now c.requires.0 a.d c.requires.3 from stop c.start_of-from.ensures c.end_of-stop.ensures in
    let n = implemented_entered a.t.now a.book.now c.requires.0 a.d c.requires.3 from stop c.start_of-from.ensures c.end_of-stop.ensures in
    λ z. all_kept (table_of a.t.now) a.d (definition_on a.t.now a.d) (subst (λ (es : List Member). Every (NameKept (table_of a.t.now) es) (definition_on a.t.now a.d).implements) m (subst (Every (NameKept (table_of a.t.now) (members_in a.t.now from stop))) n k))

pub overflow_sub-f : goal.overflow_sub-f
overflow_sub-f c =
    let found : NextImplemented c.args.t.now c.loop-f.i c.end_of-stop.result (Some c.in-Some.f) = subst (NextImplemented c.args.t.now c.loop-f.i c.end_of-stop.result) c.in-Some.is c.next_implemented.ensures in
    found.lies.order

pub is_name_kept-requires : goal.is_name_kept-requires
is_name_kept-requires c =
    let found : NextImplemented c.args.t.now c.loop-f.i c.end_of-stop.result (Some c.in-Some.f) = subst (NextImplemented c.args.t.now c.loop-f.i c.end_of-stop.result) c.in-Some.is c.next_implemented.ensures in
    let a = c.args in
    let p = c.requires in
    let f = found in
    (p.0, p.1, p.2, omega (arith, f.lies.order, f.lies.within, c.end_of-stop.ensures, (p.0.entered a.d p.3).within), bounds_entered a.t.now a.book.now p.0 a.d p.3 _ _ c.start_of-from.ensures c.end_of-stop.ensures, rw (c.start_of-from.ensures, c.end_of-stop.ensures) (entry_slim a.t.now a.book.now p.0 p.2 a.d p.3), rw (c.start_of-from.ensures, c.end_of-stop.ensures) p.4)

pub returns-then-not-is_name_kept : goal.returns-then-not-is_name_kept
returns-then-not-is_name_kept c = λ z. absurd (false≢true z)

pub loop-f-smaller : goal.loop-f-smaller
loop-f-smaller c =
    let found : NextImplemented c.args.t.now c.loop-f.i c.end_of-stop.result (Some c.in-Some.f) = subst (NextImplemented c.args.t.now c.loop-f.i c.end_of-stop.result) c.in-Some.is c.next_implemented.ensures in
    let f = found in
    omega (arith, f.lies.begins, f.lies.order, f.lies.within)

pub loop-f-preserved : goal.loop-f-preserved
loop-f-preserved c =
    let found : NextImplemented c.args.t.now c.loop-f.i c.end_of-stop.result (Some c.in-Some.f) = subst (NextImplemented c.args.t.now c.loop-f.i c.end_of-stop.result) c.in-Some.is c.next_implemented.ensures in
    holding_on _ _ _ _ _ c.loop-f.invariant _ _ _ _ found (c.is_name_kept.ensures (not_false _ (ap not c.if-not-is_name_kept.false)))
