-- What is entered so far, and what is left, are the arguments.
use Rattle.std.specs.Prelude.{Some}
use mathlib.Core.Path.{◌≡◌, refl, ap, subst}
use mathlib.Core.List.{List}
use Prim.Native.Nat.{◌+◌}
use Rattle.paper_table.specs.Types.{Argument}
use lib.ListN.{length}
use Rattle.table_members.specs.Members.{arguments_in, NextArgument}
use Rattle.table_entries.specs.Entries.{Roomy}
use Rattle.table_entries.proofs.Runs.{roomy_less, roomy_same}
use Rattle.table_entries.proofs.Writes.{filling_start, filling_end, filling_more, arguments_keep, argument_entered}
use native.Mathlib.Omega.{arith}
use Rattle.table_entries.proofs.enter_arguments.Goals as goal

pub loop-f-init : goal.loop-f-init
loop-f-init c = (c.requires.0.order, filling_start _ _ _ _ _)

pub next_argument-requires : goal.next_argument-requires
next_argument-requires c = record { order = c.loop-f.invariant.0; within = c.requires.0.within; most = c.requires.0.most }

pub shape_of-es-in_default : goal.shape_of-es-in_default
shape_of-es-in_default c = c.loop-f.invariant.1.cells

pub returns-in_default : goal.returns-in_default
returns-in_default c = let a = c.args in
    filling_end _ _ _ _ _ _ _ _ c.loop-f.invariant.1 refl (subst (NextArgument a.t.now c.loop-f.i a.end) c.in_default.is c.next_argument.ensures)

pub overflow_add-k : goal.overflow_add-k
overflow_add-k c =
    let found : NextArgument c.args.t.now c.loop-f.i c.args.end (Some c.in-Some.f) = subst (NextArgument c.args.t.now c.loop-f.i c.args.end) c.in-Some.is c.next_argument.ensures in
    let one_less : c.loop-f.k + length (arguments_in c.args.t.now c.loop-f.i c.args.end) ≡ c.loop-f.k + 1 + length (arguments_in c.args.t.now c.in-Some.f.end c.args.end) = let q = ap (λ (xs : List Argument). length xs) found.all_are in omega (arith, q) in
    let roomy : Roomy c.args.es.now (c.loop-f.k + 1) = roomy_less c.requires.2 (omega (arith, one_less, c.loop-f.invariant.1.size)) in
    omega (arith, roomy.most)

pub enter-requires : goal.enter-requires
enter-requires c =
    let found : NextArgument c.args.t.now c.loop-f.i c.args.end (Some c.in-Some.f) = subst (NextArgument c.args.t.now c.loop-f.i c.args.end) c.in-Some.is c.next_argument.ensures in
    let one_less : c.loop-f.k + length (arguments_in c.args.t.now c.loop-f.i c.args.end) ≡ c.loop-f.k + 1 + length (arguments_in c.args.t.now c.in-Some.f.end c.args.end) = let q = ap (λ (xs : List Argument). length xs) found.all_are in omega (arith, q) in
    let roomy : Roomy c.args.es.now (c.loop-f.k + 1) = roomy_less c.requires.2 (omega (arith, one_less, c.loop-f.invariant.1.size)) in
    let f = found in
    let p = c.requires in
    (record { order = f.lies.order; within = omega (arith, f.lies.within, p.0.within); most = p.0.most }, p.1, roomy_same roomy (omega arith) c.loop-f.invariant.1.cells, roomy.most)

pub overflow_add-k-in-loop-f : goal.overflow_add-k-in-loop-f
overflow_add-k-in-loop-f c =
    let found : NextArgument c.args.t.now c.loop-f.i c.args.end (Some c.in-Some.f) = subst (NextArgument c.args.t.now c.loop-f.i c.args.end) c.in-Some.is c.next_argument.ensures in
    let one_less : c.loop-f.k + length (arguments_in c.args.t.now c.loop-f.i c.args.end) ≡ c.loop-f.k + 1 + length (arguments_in c.args.t.now c.in-Some.f.end c.args.end) = let q = ap (λ (xs : List Argument). length xs) found.all_are in omega (arith, q) in
    let roomy : Roomy c.args.es.now (c.loop-f.k + 1) = roomy_less c.requires.2 (omega (arith, one_less, c.loop-f.invariant.1.size)) in
    omega (arith, roomy.most)

pub loop-f-smaller : goal.loop-f-smaller
loop-f-smaller c =
    let found : NextArgument c.args.t.now c.loop-f.i c.args.end (Some c.in-Some.f) = subst (NextArgument c.args.t.now c.loop-f.i c.args.end) c.in-Some.is c.next_argument.ensures in
    let f = found in omega (arith, f.lies.begins, f.lies.order, f.lies.within)

pub loop-f-preserved : goal.loop-f-preserved
loop-f-preserved c =
    let found : NextArgument c.args.t.now c.loop-f.i c.args.end (Some c.in-Some.f) = subst (NextArgument c.args.t.now c.loop-f.i c.args.end) c.in-Some.is c.next_argument.ensures in
    let one_less : c.loop-f.k + length (arguments_in c.args.t.now c.loop-f.i c.args.end) ≡ c.loop-f.k + 1 + length (arguments_in c.args.t.now c.in-Some.f.end c.args.end) = let q = ap (λ (xs : List Argument). length xs) found.all_are in omega (arith, q) in
    let f = found in
    (f.lies.within, filling_more _ _ _ _ _ _ _ _ c.loop-f.invariant.1 (arguments_keep _ _) _ _ _ _ f.all_are (argument_entered _ _ _ _ _ _ _ c.enter.ensures) (omega arith) one_less)
