-- Name by name: each is one that the object implements.
use Rattle.std.specs.Prelude.{Some}
use mathlib.Core.Path.{sym, subst, ◌∙◌}
use mathlib.Core.List.{List}
use Prim.Native.Nat.{ℕ, ◌-◌}
use native.Mathlib.Omega.{arith}
use Rattle.paper.specs.Tokens.{same}
use Rattle.paper_table.proofs.TextLaws.{same_refl}
use Rattle.table_book.specs.Book.{part}
use Rattle.table_members.specs.Members.{implemented_in, NextImplemented}
use Rattle.table_types.specs.Booked.{definition_on}
use Rattle.table_types.proofs.Entries.{bounds_entered, implemented_entered}
use Rattle.table_types.proofs.Objects.{number_room}
use Rattle.table_possible.proofs.NameLaws.{Inside, inside_start, inside_one, inside_on}
use Rattle.table_possible.proofs.mark_object.Goals as goal

pub end_of-end-requires : goal.end_of-end-requires
end_of-end-requires c = (c.requires.0.indexed.held.cells, number_room _ _ c.requires.0 _ c.requires.2)

pub start_of-i-requires : goal.start_of-i-requires
start_of-i-requires c = (c.requires.0.indexed.held.cells, number_room _ _ c.requires.0 _ c.requires.2)

pub loop-f-init : goal.loop-f-init
loop-f-init c = let a = c.args in
    let b = bounds_entered a.t.now a.book.now c.requires.0 a.j c.requires.2 c.start_of-i.result c.end_of-end.result c.start_of-i.ensures c.end_of-end.ensures in
    (c.requires.1, subst (λ (x : ℕ). Inside x c.end_of-end.result c.start_of-i.result (definition_on a.t.now a.j).implements (implemented_in a.t.now c.start_of-i.result c.end_of-end.result)) c.start_of-i.ensures (subst (λ (xs : List (List ℕ)). Inside c.start_of-i.result c.end_of-end.result c.start_of-i.result xs (implemented_in a.t.now c.start_of-i.result c.end_of-end.result)) (implemented_entered a.t.now a.book.now c.requires.0 a.j c.requires.2 _ _ c.start_of-i.ensures c.end_of-end.ensures) (inside_start _ _ _ b.order)))

pub next_implemented-requires : goal.next_implemented-requires
next_implemented-requires c = record { order = c.loop-f.invariant.1.within; within = omega (arith, c.end_of-end.ensures, (c.requires.0.entered c.args.j c.requires.2).within); most = c.requires.0.short }

pub shape_of-bits-in_default : goal.shape_of-bits-in_default
shape_of-bits-in_default c = c.loop-f.invariant.0.size ∙ sym c.requires.1.size

pub returns-in_default : goal.returns-in_default
returns-in_default c = c.loop-f.invariant.0

pub overflow_sub-f : goal.overflow_sub-f
overflow_sub-f c =
    let found : NextImplemented c.args.t.now c.loop-f.i c.end_of-end.result (Some c.in-Some.f) = subst (NextImplemented c.args.t.now c.loop-f.i c.end_of-end.result) c.in-Some.is c.next_implemented.ensures in
    found.lies.order

pub mark_interface-requires : goal.mark_interface-requires
mark_interface-requires c =
    let found : NextImplemented c.args.t.now c.loop-f.i c.end_of-end.result (Some c.in-Some.f) = subst (NextImplemented c.args.t.now c.loop-f.i c.end_of-end.result) c.in-Some.is c.next_implemented.ensures in
    let a = c.args in
    let f = found in
    let n = part a.t.now c.in-Some.f.start (c.in-Some.f.end - c.in-Some.f.start) in
    (c.requires.0, c.loop-f.invariant.0, c.requires.2, c.requires.3, omega (arith, f.lies.order, f.lies.within, c.end_of-end.ensures, (c.requires.0.entered a.j c.requires.2).within), inside_one _ _ _ _ _ c.loop-f.invariant.1 _ _ _ _ f (same n) (same_refl n))

pub loop-f-smaller : goal.loop-f-smaller
loop-f-smaller c =
    let found : NextImplemented c.args.t.now c.loop-f.i c.end_of-end.result (Some c.in-Some.f) = subst (NextImplemented c.args.t.now c.loop-f.i c.end_of-end.result) c.in-Some.is c.next_implemented.ensures in
    let f = found in
    omega (arith, f.lies.begins, f.lies.order, f.lies.within)

pub loop-f-preserved : goal.loop-f-preserved
loop-f-preserved c =
    let found : NextImplemented c.args.t.now c.loop-f.i c.end_of-end.result (Some c.in-Some.f) = subst (NextImplemented c.args.t.now c.loop-f.i c.end_of-end.result) c.in-Some.is c.next_implemented.ensures in
    (c.mark_interface.ensures, inside_on _ _ _ _ _ c.loop-f.invariant.1 _ _ _ _ found)
