-- Argument by argument: those before are kept, and marked among the own field's.
use Rattle.std.specs.Prelude.{Some}
use Rattle.table_fields.proofs.BoundsLaws.{later, narrow}
use mathlib.Core.Path.{subst}
use mathlib.Core.Bool.{false≢true}
use native.Mathlib.Omega.{arith}
use Rattle.table_members.specs.Members.{arguments_in, argument_from, NextArgument}
use Rattle.table_rules_11_15_quick.specs.Keeping.{ArgumentKept, MatchedBy, MatchedAs}
use Rattle.table_rules_11_15_quick.proofs.KeepingLaws.{holding_none, matching_start, matching_on}
use Rattle.table_rules_11_15_quick.proofs.are_arguments_kept.Goals as goal

pub loop-f-init : goal.loop-f-init
loop-f-init c = matching_start _ _ _ _ c.requires.0.order

pub next_argument-requires : goal.next_argument-requires
next_argument-requires c = later c.requires.0 c.loop-f.invariant.holding.within

pub are_extras_kept-requires : goal.are_extras_kept-requires
are_extras_kept-requires c = c.requires.1

pub returns-in_default : goal.returns-in_default
returns-in_default c = let a = c.args in
    let e = subst (NextArgument a.t.now c.loop-f.i a.end) c.in_default.is c.next_argument.ensures in
    λ z. (holding_none (ArgumentKept (arguments_in a.t.now a.from a.stop)) a.end c.loop-f.i (arguments_in a.t.now a.at a.end) (arguments_in a.t.now c.loop-f.i a.end) c.loop-f.invariant.holding e, c.are_extras_kept.ensures (arguments_in a.t.now a.at a.end) c.loop-f.invariant.marked z)

pub matching-requires : goal.matching-requires
matching-requires c =
    let found : NextArgument c.args.t.now c.loop-f.i c.args.end (Some c.in-Some.f) = subst (NextArgument c.args.t.now c.loop-f.i c.args.end) c.in-Some.is c.next_argument.ensures in
    let f = found in
    (narrow c.requires.0 f.lies.order f.lies.within, c.requires.1)

pub returns-in_default-matching : goal.returns-in_default-matching
returns-in_default-matching c = λ z. absurd (false≢true z)

pub overflow_shl-marks : goal.overflow_shl-marks
overflow_shl-marks c =
    let match_is : MatchedBy (arguments_in c.args.t.now c.args.from c.args.stop) (argument_from c.args.t.now c.in-Some.f.start c.in-Some.f.end) c.in-Some-matching.k = subst (MatchedAs (arguments_in c.args.t.now c.args.from c.args.stop) (argument_from c.args.t.now c.in-Some.f.start c.in-Some.f.end)) c.in-Some-matching.is c.matching.ensures in
    omega (arith, match_is.small)

pub loop-f-smaller : goal.loop-f-smaller
loop-f-smaller c =
    let found : NextArgument c.args.t.now c.loop-f.i c.args.end (Some c.in-Some.f) = subst (NextArgument c.args.t.now c.loop-f.i c.args.end) c.in-Some.is c.next_argument.ensures in
    let f = found in
    omega (arith, f.lies.begins, f.lies.order, f.lies.within)

pub loop-f-preserved : goal.loop-f-preserved
loop-f-preserved c =
    let found : NextArgument c.args.t.now c.loop-f.i c.args.end (Some c.in-Some.f) = subst (NextArgument c.args.t.now c.loop-f.i c.args.end) c.in-Some.is c.next_argument.ensures in
    let match_is : MatchedBy (arguments_in c.args.t.now c.args.from c.args.stop) (argument_from c.args.t.now c.in-Some.f.start c.in-Some.f.end) c.in-Some-matching.k = subst (MatchedAs (arguments_in c.args.t.now c.args.from c.args.stop) (argument_from c.args.t.now c.in-Some.f.start c.in-Some.f.end)) c.in-Some-matching.is c.matching.ensures in
    let a = c.args in
    matching_on (arguments_in a.t.now a.from a.stop) a.at a.end c.loop-f.i c.loop-f.marks (arguments_in a.t.now a.at a.end) (arguments_in a.t.now c.loop-f.i a.end) c.loop-f.invariant _ _ _ _ found c.in-Some-matching.k match_is
