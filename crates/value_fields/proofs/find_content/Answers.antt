-- By the definition's content in the book.
use mathlib.Core.Path.{sym, subst, ◌∙◌}
use Rattle.table_book.specs.Book.{part}
use Rattle.table_members.specs.Members.{FindMember}
use Rattle.table_types.proofs.Objects.{entry_bounds}
use Rattle.query_fields.proofs.FieldLaws.{number_below, number_room}
use Rattle.value_fields.proofs.ContentLaws.{union_lacks, field_lacks, field_contained}
use Rattle.value_fields.proofs.find_content.Goals as goal

pub kind_of-requires : goal.kind_of-requires
kind_of-requires c = (c.requires.0.indexed.held.cells, number_room c.args.t.now c.args.book.now c.requires.0 c.args.k c.requires.2)

pub returns-then-kind_of : goal.returns-then-kind_of
returns-then-kind_of c = union_lacks c.args.t.now c.args.book.now c.requires.0 c.args.k c.requires.2 (part c.args.s.now c.args.at c.args.n) (sym c.kind_of.ensures ∙ c.if-kind_of.true)

pub start_of-requires : goal.start_of-requires
start_of-requires c = (c.requires.0.indexed.held.cells, number_room c.args.t.now c.args.book.now c.requires.0 c.args.k c.requires.2)

pub end_of-requires : goal.end_of-requires
end_of-requires c = (c.requires.0.indexed.held.cells, number_room c.args.t.now c.args.book.now c.requires.0 c.args.k c.requires.2)

pub find_member-requires : goal.find_member-requires
find_member-requires c = (entry_bounds c.args.t.now c.args.book.now c.requires.0 c.args.k (number_below c.args.t.now c.args.book.now c.requires.0 c.args.k c.requires.2) c.start_of.ensures c.end_of.ensures, c.requires.3)

pub returns-in_default : goal.returns-in_default
returns-in_default c = field_lacks c.args.t.now c.args.book.now c.requires.0 c.args.k c.requires.2 (part c.args.s.now c.args.at c.args.n) (λ z. c.if-kind_of.false (c.kind_of.ensures ∙ z)) c.start_of.result c.end_of.result c.start_of.ensures c.end_of.ensures (subst (FindMember c.args.t.now c.start_of.result c.end_of.result (part c.args.s.now c.args.at c.args.n)) c.in_default.is c.find_member.ensures)

pub returns : goal.returns
returns c = field_contained c.args.t.now c.args.book.now c.requires.0 c.args.k c.requires.2 (part c.args.s.now c.args.at c.args.n) (λ z. c.if-kind_of.false (c.kind_of.ensures ∙ z)) c.start_of.result c.end_of.result c.start_of.ensures c.end_of.ensures c.requires.1 _ _ _ (subst (FindMember c.args.t.now c.start_of.result c.end_of.result (part c.args.s.now c.args.at c.args.n)) c.in-Some.is c.find_member.ensures)
