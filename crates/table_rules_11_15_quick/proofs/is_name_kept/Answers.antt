-- By the definition that the name means.
use mathlib.Core.Path.{◌≡◌, sym, subst, ◌∙◌}
use native.Mathlib.Omega.{arith}
use Prim.Native.Nat.{◌<◌}
use borrow.Author.Tests.{eqb-true}
use Rattle.paper_table.specs.TableNumbers.{tag_interface}
use Rattle.paper_table.specs.Types.{table_of, meant}
use Rattle.table_book.specs.Book.{part, count_in}
use Rattle.table_members.specs.Members.{members_in}
use Rattle.table_types.proofs.Entries.{bounds_entered}
use Rattle.table_types.proofs.Objects.{kind_below, number_room, number_other, number_members}
use Rattle.table_types.proofs.SlimLaws.{entry_slim}
use Rattle.table_rules_11_15_quick.specs.Keeping.{Every, FieldKept}
use Rattle.table_rules_11_15_quick.proofs.is_name_kept.Goals as goal

pub number_meant-k-requires : goal.number_meant-k-requires
number_meant-k-requires c = (c.requires.0, c.requires.3)

pub returns-then-kind_in-ne-RECORD_INTERFACE : goal.returns-then-kind_in-ne-RECORD_INTERFACE
returns-then-kind_in-ne-RECORD_INTERFACE c = let a = c.args in
    let n = part a.t.now a.at a.n in
    λ z e. absurd (number_other a.t.now a.book.now c.requires.0 n c.number_meant-k.result c.number_meant-k.ensures tag_interface (λ q. c.if-kind_in-ne-RECORD_INTERFACE.true (c.kind_in.ensures ∙ q)) (omega arith) (eqb-true (meant (table_of a.t.now) n).tag tag_interface e))

pub start_of-requires : goal.start_of-requires
start_of-requires c =
    let entry : c.number_meant-k.result < count_in c.args.book.now = kind_below c.args.book.now c.number_meant-k.result tag_interface (sym c.kind_in.ensures ∙ c.if-kind_in-ne-RECORD_INTERFACE.false) (λ q. omega (arith, q)) in
    (c.requires.0.indexed.held.cells, number_room _ _ c.requires.0 _ entry)

pub end_of-requires : goal.end_of-requires
end_of-requires c =
    let entry : c.number_meant-k.result < count_in c.args.book.now = kind_below c.args.book.now c.number_meant-k.result tag_interface (sym c.kind_in.ensures ∙ c.if-kind_in-ne-RECORD_INTERFACE.false) (λ q. omega (arith, q)) in
    (c.requires.0.indexed.held.cells, number_room _ _ c.requires.0 _ entry)

pub is_interface_kept-requires : goal.is_interface_kept-requires
is_interface_kept-requires c =
    let entry : c.number_meant-k.result < count_in c.args.book.now = kind_below c.args.book.now c.number_meant-k.result tag_interface (sym c.kind_in.ensures ∙ c.if-kind_in-ne-RECORD_INTERFACE.false) (λ q. omega (arith, q)) in
    let a = c.args in
    let p = c.requires in
    let k = c.number_meant-k.result in
    (p.0, p.1, bounds_entered a.t.now a.book.now p.0 k entry _ _ c.start_of.ensures c.end_of.ensures, p.4, rw (c.start_of.ensures, c.end_of.ensures) (entry_slim a.t.now a.book.now p.0 p.2 k entry), p.5, p.6)

pub returns : goal.returns
returns c =
    let entry : c.number_meant-k.result < count_in c.args.book.now = kind_below c.args.book.now c.number_meant-k.result tag_interface (sym c.kind_in.ensures ∙ c.if-kind_in-ne-RECORD_INTERFACE.false) (λ q. omega (arith, q)) in
    let a = c.args in
    let k = c.number_meant-k.result in
    let n = part a.t.now a.at a.n in
    let m : members_in a.t.now c.start_of.result c.end_of.result ≡ (meant (table_of a.t.now) n).members = rw (c.start_of.ensures, c.end_of.ensures) (number_members a.t.now a.book.now c.requires.0 n k c.number_meant-k.ensures entry) in
    λ z e. subst (Every (FieldKept (table_of a.t.now) (members_in a.t.now a.from a.stop))) m (c.is_interface_kept.ensures z)
