-- Argument by argument: if the others are sound, all are.
use Rattle.std.specs.Prelude.{Some}
use Rattle.table_fields.proofs.BoundsLaws.{later, narrow}
use mathlib.Core.Path.{subst}
use mathlib.Core.Bool.{false≢true}
use mathlib.Core.List.{List}
use native.Mathlib.Omega.{arith}
use Rattle.paper_table.specs.Types.{Argument, table_of}
use Rattle.table_members.specs.Members.{NextArgument, arguments_in}
use Rattle.table_rules_4_8_quick.specs.Sound.{EveryFrom, argument_name, ArgumentSound}
use Rattle.table_rules_4_8_quick.proofs.SoundLaws.{sounding_start, sounding_none, sounding_on}
use Rattle.table_rules_4_8_quick.proofs.are_arguments_sound.Goals as goal

pub loop-f-init : goal.loop-f-init
loop-f-init c = sounding_start argument_name _ _ _ _ _ _ c.arguments_from-first.ensures.order c.requires.2

pub next_argument-requires : goal.next_argument-requires
next_argument-requires c = later c.requires.1 c.loop-f.invariant.within

pub returns-in_default : goal.returns-in_default
returns-in_default c = let a = c.args in
    let first = c.arguments_from-first.result in
    let k = sounding_none argument_name (ArgumentSound (table_of a.t.now) (arguments_in a.t.now first a.end)) _ a.mark first a.end c.loop-f.i c.loop-f.a (arguments_in a.t.now first a.end) (arguments_in a.t.now c.loop-f.i a.end) c.loop-f.invariant (subst (NextArgument a.t.now c.loop-f.i a.end) c.in_default.is c.next_argument.ensures) in
    (c.loop-f.invariant.size, λ z. subst (λ (xs : List Argument). EveryFrom (ArgumentSound (table_of a.t.now) xs) 0 xs) c.arguments_from-first.ensures.are k)

pub is_argument_sound-requires : goal.is_argument_sound-requires
is_argument_sound-requires c =
    let found : NextArgument c.args.t.now c.loop-f.i c.args.end (Some c.in-Some.f) = subst (NextArgument c.args.t.now c.loop-f.i c.args.end) c.in-Some.is c.next_argument.ensures in
    let p = c.requires in
    let f = found in
    (p.0, later p.1 c.arguments_from-first.ensures.order, narrow p.1 f.lies.order f.lies.within, c.loop-f.invariant.size)

pub returns-then-not-is_argument_sound : goal.returns-then-not-is_argument_sound
returns-then-not-is_argument_sound c = (c.is_argument_sound.ensures.size, λ z. absurd (false≢true z))

pub overflow_add-a : goal.overflow_add-a
overflow_add-a c = omega (arith, c.loop-f.invariant.begun, c.loop-f.invariant.within, c.requires.1.within, c.requires.1.most)

pub loop-f-smaller : goal.loop-f-smaller
loop-f-smaller c =
    let found : NextArgument c.args.t.now c.loop-f.i c.args.end (Some c.in-Some.f) = subst (NextArgument c.args.t.now c.loop-f.i c.args.end) c.in-Some.is c.next_argument.ensures in
    let f = found in
    omega (arith, f.lies.begins, f.lies.order, f.lies.within)

pub loop-f-preserved : goal.loop-f-preserved
loop-f-preserved c =
    let found : NextArgument c.args.t.now c.loop-f.i c.args.end (Some c.in-Some.f) = subst (NextArgument c.args.t.now c.loop-f.i c.args.end) c.in-Some.is c.next_argument.ensures in
    let a = c.args in
    let first = c.arguments_from-first.result in
    sounding_on argument_name (ArgumentSound (table_of a.t.now) (arguments_in a.t.now first a.end)) _ a.mark first a.end c.loop-f.i c.loop-f.a (arguments_in a.t.now first a.end) (arguments_in a.t.now c.loop-f.i a.end) c.loop-f.invariant _ _ _ _ found _ c.is_argument_sound.ensures c.if-not-is_argument_sound.false
