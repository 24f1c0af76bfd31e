-- A walk that counts over the members before.
use Rattle.std.specs.Prelude.{Some}
use Rattle.table_fields.proofs.BoundsLaws.{later, narrow}
use mathlib.Core.Path.{subst, sym, ap, ◌∙◌}
use mathlib.Core.List.{List}
use Prim.Native.Nat.{ℕ}
use Rattle.paper.specs.Tokens.{same}
use Rattle.table_book.specs.Book.{part}
use Rattle.table_members.specs.Members.{NextMember, members_in}
use Rattle.table_names.proofs.CountedLaws.{counting_start, counting_none, counting_end, counting_found, counting_more}
use Rattle.paper_table.specs.Types.{member_named}
use Rattle.table_names.proofs.is_member_before.Goals as goal

pub loop-init : goal.loop-init
loop-init c = counting_start _ _ _ _ _ c.requires.0.order

pub next_member-requires : goal.next_member-requires
next_member-requires c = later c.requires.0 c.loop.invariant.within

pub returns-in_default : goal.returns-in_default
returns-in_default c = let a = c.args in
    counting_none (member_named (part a.t.now a.at a.n)) a.from a.end c.loop.i a.count c.loop.counter (members_in a.t.now a.from a.end) (members_in a.t.now c.loop.i a.end) c.loop.invariant (subst (NextMember a.t.now c.loop.i a.end) c.in_default.is c.next_member.ensures)

pub member_name-m-requires : goal.member_name-m-requires
member_name-m-requires c =
    let found : NextMember c.args.t.now c.loop.i c.args.end (Some c.in-Some.f) = subst (NextMember c.args.t.now c.loop.i c.args.end) c.in-Some.is c.next_member.ensures in
    let f = found in
    narrow c.requires.0 f.lies.order f.lies.within

pub returns-then-is_text : goal.returns-then-is_text
returns-then-is_text c =
    let found : NextMember c.args.t.now c.loop.i c.args.end (Some c.in-Some.f) = subst (NextMember c.args.t.now c.loop.i c.args.end) c.in-Some.is c.next_member.ensures in
    let a = c.args in
    counting_found (member_named (part a.t.now a.at a.n)) a.from a.end c.loop.i a.count c.loop.counter (members_in a.t.now a.from a.end) (members_in a.t.now c.loop.i a.end) c.loop.invariant _ _ _ _ found c.loop-test.true (sym (ap (λ (x : List ℕ). same x (part a.t.now a.at a.n)) c.member_name-m.ensures.is) ∙ sym c.is_text.ensures ∙ c.if-is_text.true)

pub loop-preserved : goal.loop-preserved
loop-preserved c =
    let found : NextMember c.args.t.now c.loop.i c.args.end (Some c.in-Some.f) = subst (NextMember c.args.t.now c.loop.i c.args.end) c.in-Some.is c.next_member.ensures in
    let a = c.args in
    counting_more (member_named (part a.t.now a.at a.n)) a.from a.end c.loop.i a.count c.loop.counter (members_in a.t.now a.from a.end) (members_in a.t.now c.loop.i a.end) c.loop.invariant _ _ _ _ found c.loop-test.true (sym (ap (λ (x : List ℕ). same x (part a.t.now a.at a.n)) c.member_name-m.ensures.is) ∙ sym c.is_text.ensures ∙ c.if-is_text.false)

pub returns : goal.returns
returns c = let a = c.args in
    counting_end (member_named (part a.t.now a.at a.n)) a.from a.end c.loop.i a.count c.loop.counter (members_in a.t.now a.from a.end) (members_in a.t.now c.loop.i a.end) c.loop.invariant c.loop-test.false
