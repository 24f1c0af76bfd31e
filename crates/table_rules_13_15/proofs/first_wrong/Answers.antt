use Rattle.std.specs.Prelude.{Some}
use Rattle.table_rules_13_15.proofs.Walking.{only_here, only_kept, walking_start, walking_none, walking_pass, walking_here, walking_on}
use Rattle.table_members.specs.Members.{NextArgument}
use Rattle.paper_table.specs.Places.{part_argument_at}
use Rattle.table_fields.proofs.BoundsLaws.{later, narrow}
use native.Mathlib.Omega.{arith}
use mathlib.Core.Path.{subst}
use Rattle.table_rules_13_15.proofs.first_wrong.Goals as goal

pub loop-f-init : goal.loop-f-init
loop-f-init c = walking_start _ _ _ _ _ c.requires.0.order c.requires.2

pub next_argument-requires : goal.next_argument-requires
next_argument-requires c = later c.requires.0 c.loop-f.invariant.within

pub returns-in_default : goal.returns-in_default
returns-in_default c = walking_none c.loop-f.invariant (subst (NextArgument c.args.t.now c.loop-f.i c.args.end) c.in_default.is c.next_argument.ensures)

pub is_wrong-requires : goal.is_wrong-requires
is_wrong-requires c =
    let found : NextArgument c.args.t.now c.loop-f.i c.args.end (Some c.in-Some.f) = subst (NextArgument c.args.t.now c.loop-f.i c.args.end) c.in-Some.is c.next_argument.ensures in
    let p = c.requires in
    let f = found in
    (narrow p.0 f.lies.order f.lies.within, p.1, walking_pass c.loop-f.invariant f, p.3)

pub returns-then-is_wrong : goal.returns-then-is_wrong
returns-then-is_wrong c =
    let found : NextArgument c.args.t.now c.loop-f.i c.args.end (Some c.in-Some.f) = subst (NextArgument c.args.t.now c.loop-f.i c.args.end) c.in-Some.is c.next_argument.ensures in
    let a = c.args in
    walking_here c.loop-f.invariant found _
    (only_here a.member a.part c.loop-f.a c.is_wrong.ensures c.if-is_wrong.true)

pub overflow_add-a : goal.overflow_add-a
overflow_add-a c =
    let found : NextArgument c.args.t.now c.loop-f.i c.args.end (Some c.in-Some.f) = subst (NextArgument c.args.t.now c.loop-f.i c.args.end) c.in-Some.is c.next_argument.ensures in
    let f = found in
    omega (arith, c.loop-f.invariant.few, f.lies.begins, f.lies.order, f.lies.within, c.requires.0.within, c.requires.0.most)

pub loop-f-smaller : goal.loop-f-smaller
loop-f-smaller c =
    let found : NextArgument c.args.t.now c.loop-f.i c.args.end (Some c.in-Some.f) = subst (NextArgument c.args.t.now c.loop-f.i c.args.end) c.in-Some.is c.next_argument.ensures in
    let f = found in
    omega (arith, f.lies.begins, f.lies.order, f.lies.within)

pub loop-f-preserved : goal.loop-f-preserved
loop-f-preserved c =
    let found : NextArgument c.args.t.now c.loop-f.i c.args.end (Some c.in-Some.f) = subst (NextArgument c.args.t.now c.loop-f.i c.args.end) c.in-Some.is c.next_argument.ensures in
    let a = c.args in
    walking_on c.loop-f.invariant found
    (only_kept (part_argument_at a.member a.part c.loop-f.a) c.is_wrong.ensures c.if-is_wrong.false)
