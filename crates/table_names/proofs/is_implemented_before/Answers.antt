-- A walk that counts over the names before.
use Rattle.std.specs.Prelude.{Some}
use Rattle.table_fields.proofs.BoundsLaws.{later}
use mathlib.Core.Path.{subst, sym, ◌∙◌}
use native.Mathlib.Omega.{arith}
use Rattle.paper.specs.Tokens.{same}
use Rattle.table_book.specs.Book.{part}
use Rattle.table_members.specs.Members.{NextImplemented, implemented_in}
use Rattle.table_names.proofs.CountedLaws.{counting_start, counting_none, counting_end, counting_found, counting_more}
use Rattle.table_names.proofs.is_implemented_before.Goals as goal

pub loop-init : goal.loop-init
loop-init c = counting_start _ _ _ _ _ c.requires.0.order

pub next_implemented-requires : goal.next_implemented-requires
next_implemented-requires c = later c.requires.0 c.loop.invariant.within

pub returns-in_default : goal.returns-in_default
returns-in_default c = let a = c.args in
    counting_none (same (part a.t.now a.at a.n)) a.from a.end c.loop.i a.count c.loop.counter (implemented_in a.t.now a.from a.end) (implemented_in a.t.now c.loop.i a.end) c.loop.invariant (subst (NextImplemented a.t.now c.loop.i a.end) c.in_default.is c.next_implemented.ensures)

pub overflow_sub-f : goal.overflow_sub-f
overflow_sub-f c =
    let found : NextImplemented c.args.t.now c.loop.i c.args.end (Some c.in-Some.f) = subst (NextImplemented c.args.t.now c.loop.i c.args.end) c.in-Some.is c.next_implemented.ensures in
    found.lies.order

pub is_text-requires : goal.is_text-requires
is_text-requires c =
    let found : NextImplemented c.args.t.now c.loop.i c.args.end (Some c.in-Some.f) = subst (NextImplemented c.args.t.now c.loop.i c.args.end) c.in-Some.is c.next_implemented.ensures in
    let f = found in
    (c.requires.1, omega (arith, f.lies.order, f.lies.within, c.requires.0.within))

pub returns-then-is_text : goal.returns-then-is_text
returns-then-is_text c =
    let found : NextImplemented c.args.t.now c.loop.i c.args.end (Some c.in-Some.f) = subst (NextImplemented c.args.t.now c.loop.i c.args.end) c.in-Some.is c.next_implemented.ensures in
    let a = c.args in
    counting_found (same (part a.t.now a.at a.n)) a.from a.end c.loop.i a.count c.loop.counter (implemented_in a.t.now a.from a.end) (implemented_in a.t.now c.loop.i a.end) c.loop.invariant _ _ _ _ found c.loop-test.true (sym c.is_text.ensures ∙ c.if-is_text.true)

pub loop-preserved : goal.loop-preserved
loop-preserved c =
    let found : NextImplemented c.args.t.now c.loop.i c.args.end (Some c.in-Some.f) = subst (NextImplemented c.args.t.now c.loop.i c.args.end) c.in-Some.is c.next_implemented.ensures in
    let a = c.args in
    counting_more (same (part a.t.now a.at a.n)) a.from a.end c.loop.i a.count c.loop.counter (implemented_in a.t.now a.from a.end) (implemented_in a.t.now c.loop.i a.end) c.loop.invariant _ _ _ _ found c.loop-test.true (sym c.is_text.ensures ∙ c.if-is_text.false)

pub returns : goal.returns
returns c = let a = c.args in
    counting_end (same (part a.t.now a.at a.n)) a.from a.end c.loop.i a.count c.loop.counter (implemented_in a.t.now a.from a.end) (implemented_in a.t.now c.loop.i a.end) c.loop.invariant c.loop-test.false
