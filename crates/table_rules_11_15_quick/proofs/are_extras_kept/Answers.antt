-- Argument by argument: if the rest is kept, all is.
use Rattle.std.specs.Prelude.{Some}
use Rattle.table_fields.proofs.BoundsLaws.{later, narrow}
use mathlib.Core.Path.{subst}
use mathlib.Core.Bool.{false≢true}
use native.Mathlib.Omega.{arith}
use Rattle.table_members.specs.Members.{arguments_in, NextArgument}
use Rattle.table_rules_11_15_quick.proofs.KeepingLaws.{extras_start, extras_none, extras_on}
use Rattle.table_rules_11_15_quick.proofs.are_extras_kept.Goals as goal

pub loop-f-init : goal.loop-f-init
loop-f-init c = extras_start _ _ _ _ c.requires.order

pub next_argument-requires : goal.next_argument-requires
next_argument-requires c = later c.requires c.loop-f.invariant.within

pub returns-in_default : goal.returns-in_default
returns-in_default c = let a = c.args in
    λ xs m z. extras_none a.marks a.stop _ _ (arguments_in a.t.now a.from a.stop) (arguments_in a.t.now c.loop-f.i a.stop) c.loop-f.invariant (subst (NextArgument a.t.now c.loop-f.i a.stop) c.in_default.is c.next_argument.ensures) xs m

pub is_loose-requires : goal.is_loose-requires
is_loose-requires c =
    let found : NextArgument c.args.t.now c.loop-f.i c.args.stop (Some c.in-Some.f) = subst (NextArgument c.args.t.now c.loop-f.i c.args.stop) c.in-Some.is c.next_argument.ensures in
    let f = found in
    narrow c.requires f.lies.order f.lies.within

pub returns-then-is_loose : goal.returns-then-is_loose
returns-then-is_loose c = λ xs m z. absurd (false≢true z)

pub overflow_add-k : goal.overflow_add-k
overflow_add-k c = omega (arith, c.loop-f.invariant.few, c.loop-f.invariant.within, c.requires.within, c.requires.most)

pub loop-f-smaller : goal.loop-f-smaller
loop-f-smaller c =
    let found : NextArgument c.args.t.now c.loop-f.i c.args.stop (Some c.in-Some.f) = subst (NextArgument c.args.t.now c.loop-f.i c.args.stop) c.in-Some.is c.next_argument.ensures in
    let f = found in
    omega (arith, f.lies.begins, f.lies.order, f.lies.within)

pub loop-f-preserved : goal.loop-f-preserved
loop-f-preserved c =
    let found : NextArgument c.args.t.now c.loop-f.i c.args.stop (Some c.in-Some.f) = subst (NextArgument c.args.t.now c.loop-f.i c.args.stop) c.in-Some.is c.next_argument.ensures in
    let a = c.args in
    extras_on a.marks a.stop c.loop-f.i c.loop-f.k (arguments_in a.t.now a.from a.stop) (arguments_in a.t.now c.loop-f.i a.stop) c.loop-f.invariant _ _ _ _ found (c.is_loose.ensures c.if-is_loose.false)
