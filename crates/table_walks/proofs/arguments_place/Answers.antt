-- A walk over a field's arguments.
use Rattle.std.specs.Prelude.{Some}
use Rattle.table_fields.proofs.BoundsLaws.{later, narrow}
use mathlib.Core.Path.{subst, sym, ap, ◌∙◌}
use mathlib.Core.List.{List, head?}
use native.Mathlib.Omega.{arith}
use Rattle.paper_table.specs.Types.{table_of}
use Rattle.table_members.specs.Members.{NextArgument, arguments_in}
use Rattle.table_walks.proofs.Walked.{walking_start, walking_end, walking_here, walking_on, only_true, only_false}
use Rattle.paper_table.specs.Places.{Place, argument_at}
use Rattle.table_places.specs.Placed.{placed}
use Rattle.table_walks.proofs.ArgumentLaws.{argument_faults, field_arguments, other_arguments}
use Rattle.table_walks.proofs.arguments_place.Goals as goal

pub returns-then-tag-ne-TAG_FIELD : goal.returns-then-tag-ne-TAG_FIELD
returns-then-tag-ne-TAG_FIELD c = other_arguments c.args.rule (table_of c.args.t.now) c.args.m c.args.t.now c.args.tag c.args.start c.args.end c.if-tag-ne-TAG_FIELD.true

pub loop-f-init : goal.loop-f-init
loop-f-init c = walking_start (argument_faults c.args.rule (table_of c.args.t.now) (arguments_in c.args.t.now c.args.start c.args.end) c.args.m) c.args.start c.args.end (arguments_in c.args.t.now c.args.start c.args.end) c.requires.1.order

pub next_argument-requires : goal.next_argument-requires
next_argument-requires c = later c.requires.1 c.loop-f.invariant.within

pub returns-in_default : goal.returns-in_default
returns-in_default c = walking_end (argument_faults c.args.rule (table_of c.args.t.now) (arguments_in c.args.t.now c.args.start c.args.end) c.args.m) c.args.start c.args.end c.loop-f.i c.loop-f.a (arguments_in c.args.t.now c.args.start c.args.end) (arguments_in c.args.t.now c.loop-f.i c.args.end) c.loop-f.invariant (subst (NextArgument c.args.t.now c.loop-f.i c.args.end) c.in_default.is c.next_argument.ensures) ∙ sym (ap (λ (ps : List Place). placed (head? ps)) (field_arguments c.args.rule (table_of c.args.t.now) c.args.m c.args.t.now c.args.tag c.args.start c.args.end c.if-tag-ne-TAG_FIELD.false))

pub is_argument_broken-requires : goal.is_argument_broken-requires
is_argument_broken-requires c =
    let found : NextArgument c.args.t.now c.loop-f.i c.args.end (Some c.in-Some.f) = subst (NextArgument c.args.t.now c.loop-f.i c.args.end) c.in-Some.is c.next_argument.ensures in
    let f = found in
    (c.requires.0, c.requires.1, narrow c.requires.1 f.lies.order f.lies.within)

pub returns-then-is_argument_broken : goal.returns-then-is_argument_broken
returns-then-is_argument_broken c =
    let found : NextArgument c.args.t.now c.loop-f.i c.args.end (Some c.in-Some.f) = subst (NextArgument c.args.t.now c.loop-f.i c.args.end) c.in-Some.is c.next_argument.ensures in
    walking_here (argument_faults c.args.rule (table_of c.args.t.now) (arguments_in c.args.t.now c.args.start c.args.end) c.args.m) c.args.start c.args.end c.loop-f.i c.loop-f.a (arguments_in c.args.t.now c.args.start c.args.end) (arguments_in c.args.t.now c.loop-f.i c.args.end) c.loop-f.invariant _ _ _ _ found _ (only_true _ (argument_at c.args.m c.loop-f.a) (sym c.is_argument_broken.ensures ∙ c.if-is_argument_broken.true)) ∙ sym (ap (λ (ps : List Place). placed (head? ps)) (field_arguments c.args.rule (table_of c.args.t.now) c.args.m c.args.t.now c.args.tag c.args.start c.args.end c.if-tag-ne-TAG_FIELD.false))

pub overflow_add-a : goal.overflow_add-a
overflow_add-a c =
    let found : NextArgument c.args.t.now c.loop-f.i c.args.end (Some c.in-Some.f) = subst (NextArgument c.args.t.now c.loop-f.i c.args.end) c.in-Some.is c.next_argument.ensures in
    let f = found in
    omega (arith, c.loop-f.invariant.begun, c.loop-f.invariant.within, c.requires.1.within, c.requires.1.most)

pub loop-f-smaller : goal.loop-f-smaller
loop-f-smaller c =
    let found : NextArgument c.args.t.now c.loop-f.i c.args.end (Some c.in-Some.f) = subst (NextArgument c.args.t.now c.loop-f.i c.args.end) c.in-Some.is c.next_argument.ensures in
    let f = found in
    omega (arith, f.lies.begins, f.lies.order, f.lies.within)

pub loop-f-preserved : goal.loop-f-preserved
loop-f-preserved c =
    let found : NextArgument c.args.t.now c.loop-f.i c.args.end (Some c.in-Some.f) = subst (NextArgument c.args.t.now c.loop-f.i c.args.end) c.in-Some.is c.next_argument.ensures in
    walking_on (argument_faults c.args.rule (table_of c.args.t.now) (arguments_in c.args.t.now c.args.start c.args.end) c.args.m) c.args.start c.args.end c.loop-f.i c.loop-f.a (arguments_in c.args.t.now c.args.start c.args.end) (arguments_in c.args.t.now c.loop-f.i c.args.end) c.loop-f.invariant _ _ _ _ found (only_false _ (argument_at c.args.m c.loop-f.a) (sym c.is_argument_broken.ensures ∙ c.if-is_argument_broken.false))
