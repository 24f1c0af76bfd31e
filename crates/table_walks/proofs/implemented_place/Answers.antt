-- A walk over the implemented names.
use Rattle.std.specs.Prelude.{Some}
use Rattle.table_fields.proofs.BoundsLaws.{later, narrow}
use mathlib.Core.Path.{subst, sym, ◌∙◌}
use native.Mathlib.Omega.{arith}
use Rattle.paper_table.specs.Types.{table_of}
use Rattle.table_members.specs.Members.{NextImplemented, implemented_in}
use Rattle.table_walks.proofs.Walked.{walking_start, walking_end, walking_here, walking_on, only_true, only_false}
use Rattle.paper_table.specs.Places.{member_at}
use Rattle.table_walks.specs.Walks.{name_at}
use Rattle.table_walks.proofs.implemented_place.Goals as goal

pub loop-f-init : goal.loop-f-init
loop-f-init c = walking_start (name_at c.args.rule (table_of c.args.t.now) (implemented_in c.args.t.now c.args.from c.args.end)) c.args.from c.args.end (implemented_in c.args.t.now c.args.from c.args.end) c.requires.1.order

pub next_implemented-requires : goal.next_implemented-requires
next_implemented-requires c = later c.requires.1 c.loop-f.invariant.within

pub returns-in_default : goal.returns-in_default
returns-in_default c = walking_end (name_at c.args.rule (table_of c.args.t.now) (implemented_in c.args.t.now c.args.from c.args.end)) c.args.from c.args.end c.loop-f.i c.loop-f.m (implemented_in c.args.t.now c.args.from c.args.end) (implemented_in c.args.t.now c.loop-f.i c.args.end) c.loop-f.invariant (subst (NextImplemented c.args.t.now c.loop-f.i c.args.end) c.in_default.is c.next_implemented.ensures)

pub is_implemented_broken-requires : goal.is_implemented_broken-requires
is_implemented_broken-requires c =
    let found : NextImplemented c.args.t.now c.loop-f.i c.args.end (Some c.in-Some.f) = subst (NextImplemented c.args.t.now c.loop-f.i c.args.end) c.in-Some.is c.next_implemented.ensures in
    let f = found in
    (c.requires.0, c.requires.1, narrow c.requires.1 f.lies.order f.lies.within)

pub returns-then-is_implemented_broken : goal.returns-then-is_implemented_broken
returns-then-is_implemented_broken c =
    let found : NextImplemented c.args.t.now c.loop-f.i c.args.end (Some c.in-Some.f) = subst (NextImplemented c.args.t.now c.loop-f.i c.args.end) c.in-Some.is c.next_implemented.ensures in
    walking_here (name_at c.args.rule (table_of c.args.t.now) (implemented_in c.args.t.now c.args.from c.args.end)) c.args.from c.args.end c.loop-f.i c.loop-f.m (implemented_in c.args.t.now c.args.from c.args.end) (implemented_in c.args.t.now c.loop-f.i c.args.end) c.loop-f.invariant _ _ _ _ found _ (only_true _ (member_at c.loop-f.m) (sym c.is_implemented_broken.ensures ∙ c.if-is_implemented_broken.true))

pub overflow_add-m : goal.overflow_add-m
overflow_add-m c =
    let found : NextImplemented c.args.t.now c.loop-f.i c.args.end (Some c.in-Some.f) = subst (NextImplemented c.args.t.now c.loop-f.i c.args.end) c.in-Some.is c.next_implemented.ensures in
    let f = found in
    omega (arith, c.loop-f.invariant.begun, c.loop-f.invariant.within, c.requires.1.within, c.requires.1.most)

pub loop-f-smaller : goal.loop-f-smaller
loop-f-smaller c =
    let found : NextImplemented c.args.t.now c.loop-f.i c.args.end (Some c.in-Some.f) = subst (NextImplemented c.args.t.now c.loop-f.i c.args.end) c.in-Some.is c.next_implemented.ensures in
    let f = found in
    omega (arith, f.lies.begins, f.lies.order, f.lies.within)

pub loop-f-preserved : goal.loop-f-preserved
loop-f-preserved c =
    let found : NextImplemented c.args.t.now c.loop-f.i c.args.end (Some c.in-Some.f) = subst (NextImplemented c.args.t.now c.loop-f.i c.args.end) c.in-Some.is c.next_implemented.ensures in
    walking_on (name_at c.args.rule (table_of c.args.t.now) (implemented_in c.args.t.now c.args.from c.args.end)) c.args.from c.args.end c.loop-f.i c.loop-f.m (implemented_in c.args.t.now c.args.from c.args.end) (implemented_in c.args.t.now c.loop-f.i c.args.end) c.loop-f.invariant _ _ _ _ found (only_false _ (member_at c.loop-f.m) (sym c.is_implemented_broken.ensures ∙ c.if-is_implemented_broken.false))
