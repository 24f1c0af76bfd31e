-- Name by name: one of those from here on is it if and only if one of all is.
use Rattle.std.specs.Prelude.{Some}
use Rattle.table_fields.proofs.BoundsLaws.{later}
use mathlib.Core.Path.{sym, subst, ◌∙◌}
use native.Mathlib.Omega.{arith}
use Rattle.paper.specs.Tokens.{same}
use Rattle.table_book.specs.Book.{part}
use Rattle.table_members.specs.Members.{implemented_in, NextImplemented}
use Rattle.table_members.proofs.FindLaws.{sought_start, any_none, any_found, any_more}
use Rattle.table_members.proofs.implements.Goals as goal

pub loop-f-init : goal.loop-f-init
loop-f-init c = sought_start _ _ _ c.requires.0.order

pub next_implemented-requires : goal.next_implemented-requires
next_implemented-requires c = later c.requires.0 c.loop-f.invariant.within

pub returns-in_default : goal.returns-in_default
returns-in_default c = let a = c.args in
    any_none (same (part a.s.now a.at a.n)) a.from a.end c.loop-f.i (implemented_in a.t.now a.from a.end) (implemented_in a.t.now c.loop-f.i a.end) c.loop-f.invariant (subst (NextImplemented a.t.now c.loop-f.i a.end) c.in_default.is c.next_implemented.ensures)

pub overflow_sub-f : goal.overflow_sub-f
overflow_sub-f c =
    let found : NextImplemented c.args.t.now c.loop-f.i c.args.end (Some c.in-Some.f) = subst (NextImplemented c.args.t.now c.loop-f.i c.args.end) c.in-Some.is c.next_implemented.ensures in
    found.lies.order

pub is_text-requires : goal.is_text-requires
is_text-requires c =
    let found : NextImplemented c.args.t.now c.loop-f.i c.args.end (Some c.in-Some.f) = subst (NextImplemented c.args.t.now c.loop-f.i c.args.end) c.in-Some.is c.next_implemented.ensures in
    let f = found in
    (c.requires.1, omega (arith, f.lies.order, f.lies.within, c.requires.0.within))

pub returns-then-is_text : goal.returns-then-is_text
returns-then-is_text c =
    let found : NextImplemented c.args.t.now c.loop-f.i c.args.end (Some c.in-Some.f) = subst (NextImplemented c.args.t.now c.loop-f.i c.args.end) c.in-Some.is c.next_implemented.ensures in
    let a = c.args in
    any_found (same (part a.s.now a.at a.n)) a.from a.end c.loop-f.i (implemented_in a.t.now a.from a.end) (implemented_in a.t.now c.loop-f.i a.end) c.loop-f.invariant _ _ _ _ found (sym c.is_text.ensures ∙ c.if-is_text.true)

pub loop-f-smaller : goal.loop-f-smaller
loop-f-smaller c =
    let found : NextImplemented c.args.t.now c.loop-f.i c.args.end (Some c.in-Some.f) = subst (NextImplemented c.args.t.now c.loop-f.i c.args.end) c.in-Some.is c.next_implemented.ensures in
    let f = found in
    omega (arith, f.lies.begins, f.lies.order, f.lies.within)

pub loop-f-preserved : goal.loop-f-preserved
loop-f-preserved c =
    let found : NextImplemented c.args.t.now c.loop-f.i c.args.end (Some c.in-Some.f) = subst (NextImplemented c.args.t.now c.loop-f.i c.args.end) c.in-Some.is c.next_implemented.ensures in
    let a = c.args in
    any_more (same (part a.s.now a.at a.n)) a.from a.end c.loop-f.i (implemented_in a.t.now a.from a.end) (implemented_in a.t.now c.loop-f.i a.end) c.loop-f.invariant _ _ _ _ found (sym c.is_text.ensures ∙ c.if-is_text.false)
