-- Argument by argument: what is found from here on is what is found of all, and its number grows with each.
use Rattle.std.specs.Prelude.{Some}
use Rattle.table_fields.proofs.BoundsLaws.{later, narrow}
use mathlib.Core.Path.{sym, ap, subst, ◌∙◌}
use mathlib.Core.List.{List}
use Prim.Native.Nat.{ℕ}
use native.Mathlib.Omega.{arith}
use Rattle.paper.specs.Tokens.{same}
use Rattle.paper_table.specs.Types.{argument_named}
use Rattle.table_book.specs.Book.{part}
use Rattle.table_members.specs.Members.{arguments_in, NextArgument}
use Rattle.table_rules_11_15_quick.proofs.NumberedLaws.{passing_start, passing_none, passing_here, passing_on}
use Rattle.table_rules_11_15_quick.proofs.argument_in.Goals as goal

pub loop-f-init : goal.loop-f-init
loop-f-init c = passing_start _ _ _ _ c.requires.0.order

pub next_argument-requires : goal.next_argument-requires
next_argument-requires c = later c.requires.0 c.loop-f.invariant.within

pub returns-in_err-f : goal.returns-in_err-f
returns-in_err-f c = rw c.from_residual.ensures (passing_none _ _ _ _ _ _ c.loop-f.invariant (subst (NextArgument c.args.t.now c.loop-f.i c.args.end) c.in_err-f.was c.next_argument.ensures))

pub name_in-name-requires : goal.name_in-name-requires
name_in-name-requires c =
    let found : NextArgument c.args.t.now c.loop-f.i c.args.end (Some c.in_ok-f.f) = subst (NextArgument c.args.t.now c.loop-f.i c.args.end) c.in_ok-f.was c.next_argument.ensures in
    let f = found in
    narrow c.requires.0 f.lies.order f.lies.within

pub is_text-requires : goal.is_text-requires
is_text-requires c = (c.name_in-name.ensures.within, c.requires.1)

pub returns-then-is_text : goal.returns-then-is_text
returns-then-is_text c =
    let found : NextArgument c.args.t.now c.loop-f.i c.args.end (Some c.in_ok-f.f) = subst (NextArgument c.args.t.now c.loop-f.i c.args.end) c.in_ok-f.was c.next_argument.ensures in
    let a = c.args in
    let f = found in
    record {
      first = passing_here (argument_named (part a.s.now a.at a.n)) a.end c.loop-f.i c.loop-f.a (arguments_in a.t.now a.from a.end) (arguments_in a.t.now c.loop-f.i a.end) c.loop-f.invariant _ _ _ _ f (sym (ap (λ (x : List ℕ). same x (part a.s.now a.at a.n)) c.name_in-name.ensures.is) ∙ sym c.is_text.ensures ∙ c.if-is_text.true);
      bounds = narrow c.requires.0 f.lies.order f.lies.within;
    }

pub overflow_add-a : goal.overflow_add-a
overflow_add-a c = omega (arith, c.loop-f.invariant.few, c.loop-f.invariant.within, c.requires.0.within, c.requires.0.most)

pub loop-f-smaller : goal.loop-f-smaller
loop-f-smaller c =
    let found : NextArgument c.args.t.now c.loop-f.i c.args.end (Some c.in_ok-f.f) = subst (NextArgument c.args.t.now c.loop-f.i c.args.end) c.in_ok-f.was c.next_argument.ensures in
    let f = found in
    omega (arith, f.lies.begins, f.lies.order, f.lies.within)

pub loop-f-preserved : goal.loop-f-preserved
loop-f-preserved c =
    let found : NextArgument c.args.t.now c.loop-f.i c.args.end (Some c.in_ok-f.f) = subst (NextArgument c.args.t.now c.loop-f.i c.args.end) c.in_ok-f.was c.next_argument.ensures in
    let a = c.args in
    passing_on (argument_named (part a.s.now a.at a.n)) a.end c.loop-f.i c.loop-f.a (arguments_in a.t.now a.from a.end) (arguments_in a.t.now c.loop-f.i a.end) c.loop-f.invariant _ _ _ _ found (sym (ap (λ (x : List ℕ). same x (part a.s.now a.at a.n)) c.name_in-name.ensures.is) ∙ sym c.is_text.ensures ∙ c.if-is_text.false)
