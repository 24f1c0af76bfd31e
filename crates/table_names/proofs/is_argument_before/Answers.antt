-- A walk that counts over the arguments before.
use Rattle.std.specs.Prelude.{Some}
use Rattle.table_fields.proofs.BoundsLaws.{later, narrow}
use mathlib.Core.Path.{subst, sym, ap, ◌∙◌}
use mathlib.Core.List.{List}
use Prim.Native.Nat.{ℕ}
use Rattle.paper.specs.Tokens.{same}
use Rattle.table_book.specs.Book.{part}
use Rattle.table_members.specs.Members.{NextArgument, arguments_in}
use Rattle.table_names.proofs.CountedLaws.{counting_start, counting_none, counting_end, counting_found, counting_more}
use Rattle.paper_table.specs.Types.{argument_named}
use Rattle.table_names.proofs.is_argument_before.Goals as goal

pub loop-init : goal.loop-init
loop-init c = counting_start _ _ _ _ _ c.requires.0.order

pub next_argument-requires : goal.next_argument-requires
next_argument-requires c = later c.requires.0 c.loop.invariant.within

pub returns-in_default : goal.returns-in_default
returns-in_default c = let a = c.args in
    counting_none (argument_named (part a.t.now a.at a.n)) a.from a.end c.loop.i a.count c.loop.counter (arguments_in a.t.now a.from a.end) (arguments_in a.t.now c.loop.i a.end) c.loop.invariant (subst (NextArgument a.t.now c.loop.i a.end) c.in_default.is c.next_argument.ensures)

pub name_in-m-requires : goal.name_in-m-requires
name_in-m-requires c =
    let found : NextArgument c.args.t.now c.loop.i c.args.end (Some c.in-Some.f) = subst (NextArgument c.args.t.now c.loop.i c.args.end) c.in-Some.is c.next_argument.ensures in
    let f = found in
    narrow c.requires.0 f.lies.order f.lies.within

pub returns-then-is_text : goal.returns-then-is_text
returns-then-is_text c =
    let found : NextArgument c.args.t.now c.loop.i c.args.end (Some c.in-Some.f) = subst (NextArgument c.args.t.now c.loop.i c.args.end) c.in-Some.is c.next_argument.ensures in
    let a = c.args in
    counting_found (argument_named (part a.t.now a.at a.n)) a.from a.end c.loop.i a.count c.loop.counter (arguments_in a.t.now a.from a.end) (arguments_in a.t.now c.loop.i a.end) c.loop.invariant _ _ _ _ found c.loop-test.true (sym (ap (λ (x : List ℕ). same x (part a.t.now a.at a.n)) c.name_in-m.ensures.is) ∙ sym c.is_text.ensures ∙ c.if-is_text.true)

pub loop-preserved : goal.loop-preserved
loop-preserved c =
    let found : NextArgument c.args.t.now c.loop.i c.args.end (Some c.in-Some.f) = subst (NextArgument c.args.t.now c.loop.i c.args.end) c.in-Some.is c.next_argument.ensures in
    let a = c.args in
    counting_more (argument_named (part a.t.now a.at a.n)) a.from a.end c.loop.i a.count c.loop.counter (arguments_in a.t.now a.from a.end) (arguments_in a.t.now c.loop.i a.end) c.loop.invariant _ _ _ _ found c.loop-test.true (sym (ap (λ (x : List ℕ). same x (part a.t.now a.at a.n)) c.name_in-m.ensures.is) ∙ sym c.is_text.ensures ∙ c.if-is_text.false)

pub returns : goal.returns
returns c = let a = c.args in
    counting_end (argument_named (part a.t.now a.at a.n)) a.from a.end c.loop.i a.count c.loop.counter (arguments_in a.t.now a.from a.end) (arguments_in a.t.now c.loop.i a.end) c.loop.invariant c.loop-test.false
