-- Name by name, up to the first that shows something.
use Rattle.std.proofs.lemmas.Result.{err_from_is_err_and}
use Rattle.std.specs.Prelude.{Some}
use Rattle.table_fields.proofs.BoundsLaws.{later, narrow}
use mathlib.Core.Path.{sym, subst, ◌∙◌}
use native.Mathlib.Omega.{arith}
use Rattle.table_members.specs.Members.{implemented_in, NextImplemented}
use Rattle.table_types.proofs.SlimLaws.{all_any}
use Rattle.table_rules_13_15.proofs.Walking.{walking_start, walking_none, walking_here, walking_on}
use Rattle.table_rules_11_15.proofs.first_place.Goals as goal

pub loop-f-init : goal.loop-f-init
loop-f-init c = walking_start _ _ _ _ _ c.requires.2.order (all_any (implemented_in c.args.t.now c.args.from c.args.stop))

pub next_implemented-requires : goal.next_implemented-requires
next_implemented-requires c = later c.requires.2 c.loop-f.invariant.within

pub returns-in_default : goal.returns-in_default
returns-in_default c = walking_none c.loop-f.invariant (subst (NextImplemented c.args.t.now c.loop-f.i c.args.stop) c.in_default.is c.next_implemented.ensures)

pub name_place-requires : goal.name_place-requires
name_place-requires c =
    let found : NextImplemented c.args.t.now c.loop-f.i c.args.stop (Some c.in-Some.f) = subst (NextImplemented c.args.t.now c.loop-f.i c.args.stop) c.in-Some.is c.next_implemented.ensures in
    let p = c.requires in
    let f = found in
    (p.0, p.1, narrow p.2 f.lies.order f.lies.within, p.2, p.3, p.4)

pub returns-in_err-name_place : goal.returns-in_err-name_place
returns-in_err-name_place c =
    let found : NextImplemented c.args.t.now c.loop-f.i c.args.stop (Some c.in-Some.f) = subst (NextImplemented c.args.t.now c.loop-f.i c.args.stop) c.in-Some.is c.next_implemented.ensures in
    let p = err_from_is_err_and c.from_residual.result c.from_residual.ensures.1 in
    rw (p.1, p.2) (walking_here c.loop-f.invariant found _ (sym c.in_err-name_place.was ∙ c.name_place.ensures))

pub overflow_add-m : goal.overflow_add-m
overflow_add-m c =
    let found : NextImplemented c.args.t.now c.loop-f.i c.args.stop (Some c.in-Some.f) = subst (NextImplemented c.args.t.now c.loop-f.i c.args.stop) c.in-Some.is c.next_implemented.ensures in
    let f = found in
    omega (arith, c.loop-f.invariant.few, f.lies.begins, f.lies.order, f.lies.within, c.requires.2.within, c.requires.2.most)

pub loop-f-smaller : goal.loop-f-smaller
loop-f-smaller c =
    let found : NextImplemented c.args.t.now c.loop-f.i c.args.stop (Some c.in-Some.f) = subst (NextImplemented c.args.t.now c.loop-f.i c.args.stop) c.in-Some.is c.next_implemented.ensures in
    let f = found in
    omega (arith, f.lies.begins, f.lies.order, f.lies.within)

pub loop-f-preserved : goal.loop-f-preserved
loop-f-preserved c =
    let found : NextImplemented c.args.t.now c.loop-f.i c.args.stop (Some c.in-Some.f) = subst (NextImplemented c.args.t.now c.loop-f.i c.args.stop) c.in-Some.is c.next_implemented.ensures in
    walking_on c.loop-f.invariant found (sym c.in_ok-name_place.was ∙ c.name_place.ensures)
