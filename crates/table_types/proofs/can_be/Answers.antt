-- By the definitions that the two names mean.
use mathlib.Core.Path.{◌≡◌, sym, ◌∙◌}
use native.Mathlib.Omega.{arith}
use Rattle.paper_table.specs.Types.{table_of, meant}
use Rattle.table_book.specs.Book.{part}
use Rattle.table_members.specs.Members.{implemented_in, members_in}
use Rattle.table_types.proofs.Objects.{kind_below, number_room, number_tag, number_other, number_implements, number_members, no_object, no_abstract, an_interface, a_union, entry_bounds}
use Rattle.table_types.proofs.can_be.Goals as goal

pub number_meant-i-requires : goal.number_meant-i-requires
number_meant-i-requires c = (c.requires.0, c.requires.2)

pub kind_in-requires : goal.kind_in-requires
kind_in-requires c = (c.requires.0.indexed.held.cells, c.requires.0.indexed.held.most)

pub returns-then-kind_in-ne-RECORD_OBJECT : goal.returns-then-kind_in-ne-RECORD_OBJECT
returns-then-kind_in-ne-RECORD_OBJECT c = no_object (table_of c.args.t.now) (part c.args.s.now c.args.a c.args.an) (part c.args.s.now c.args.o c.args.on) (number_other c.args.t.now c.args.book.now c.requires.0 (part c.args.s.now c.args.o c.args.on) c.number_meant-i.result c.number_meant-i.ensures 2 (λ e. c.if-kind_in-ne-RECORD_OBJECT.true (c.kind_in.ensures ∙ e)) (omega arith))

pub number_meant-j-requires : goal.number_meant-j-requires
number_meant-j-requires c = (c.requires.0, c.requires.1)

pub kind_in-kind-requires : goal.kind_in-kind-requires
kind_in-kind-requires c = (c.requires.0.indexed.held.cells, c.requires.0.indexed.held.most)

pub start_of-requires : goal.start_of-requires
start_of-requires c = (c.requires.0.indexed.held.cells, number_room c.args.t.now c.args.book.now c.requires.0 c.number_meant-i.result (kind_below c.args.book.now c.number_meant-i.result 2 (sym c.kind_in.ensures ∙ c.if-kind_in-ne-RECORD_OBJECT.false) (λ z. omega arith)))

pub end_of-requires : goal.end_of-requires
end_of-requires c = (c.requires.0.indexed.held.cells, number_room c.args.t.now c.args.book.now c.requires.0 c.number_meant-i.result (kind_below c.args.book.now c.number_meant-i.result 2 (sym c.kind_in.ensures ∙ c.if-kind_in-ne-RECORD_OBJECT.false) (λ z. omega arith)))

pub implements-requires : goal.implements-requires
implements-requires c = (entry_bounds c.args.t.now c.args.book.now c.requires.0 c.number_meant-i.result (kind_below c.args.book.now c.number_meant-i.result 2 (sym c.kind_in.ensures ∙ c.if-kind_in-ne-RECORD_OBJECT.false) (λ z. omega arith)) c.start_of.ensures c.end_of.ensures, c.requires.1)

pub returns-then-kind-eq-RECORD_INTERFACE : goal.returns-then-kind-eq-RECORD_INTERFACE
returns-then-kind-eq-RECORD_INTERFACE c = let u : implemented_in c.args.t.now c.start_of.result c.end_of.result ≡ (meant (table_of c.args.t.now) (part c.args.s.now c.args.o c.args.on)).implements = rw (c.start_of.ensures, c.end_of.ensures) (number_implements c.args.t.now c.args.book.now c.requires.0 (part c.args.s.now c.args.o c.args.on) c.number_meant-i.result c.number_meant-i.ensures (kind_below c.args.book.now c.number_meant-i.result 2 (sym c.kind_in.ensures ∙ c.if-kind_in-ne-RECORD_OBJECT.false) (λ z. omega arith))) in
    an_interface (table_of c.args.t.now) (part c.args.s.now c.args.a c.args.an) (part c.args.s.now c.args.o c.args.on) (implemented_in c.args.t.now c.start_of.result c.end_of.result) (number_tag c.args.t.now c.args.book.now c.requires.0 (part c.args.s.now c.args.o c.args.on) c.number_meant-i.result c.number_meant-i.ensures 2 (sym c.kind_in.ensures ∙ c.if-kind_in-ne-RECORD_OBJECT.false) (λ z. omega arith)) (number_tag c.args.t.now c.args.book.now c.requires.0 (part c.args.s.now c.args.a c.args.an) c.number_meant-j.result c.number_meant-j.ensures 3 (sym c.kind_in-kind.ensures ∙ c.if-kind-eq-RECORD_INTERFACE.true) (λ z. omega arith)) u c.implements.ensures

pub start_of-requires-then-kind-eq-RECORD_UNION : goal.start_of-requires-then-kind-eq-RECORD_UNION
start_of-requires-then-kind-eq-RECORD_UNION c = (c.requires.0.indexed.held.cells, number_room c.args.t.now c.args.book.now c.requires.0 c.number_meant-j.result (kind_below c.args.book.now c.number_meant-j.result 4 (sym c.kind_in-kind.ensures ∙ c.if-kind-eq-RECORD_UNION.true) (λ z. omega arith)))

pub end_of-requires-then-kind-eq-RECORD_UNION : goal.end_of-requires-then-kind-eq-RECORD_UNION
end_of-requires-then-kind-eq-RECORD_UNION c = (c.requires.0.indexed.held.cells, number_room c.args.t.now c.args.book.now c.requires.0 c.number_meant-j.result (kind_below c.args.book.now c.number_meant-j.result 4 (sym c.kind_in-kind.ensures ∙ c.if-kind-eq-RECORD_UNION.true) (λ z. omega arith)))

pub has_member-requires : goal.has_member-requires
has_member-requires c = (entry_bounds c.args.t.now c.args.book.now c.requires.0 c.number_meant-j.result (kind_below c.args.book.now c.number_meant-j.result 4 (sym c.kind_in-kind.ensures ∙ c.if-kind-eq-RECORD_UNION.true) (λ z. omega arith)) c.start_of-then-kind-eq-RECORD_UNION.ensures c.end_of-then-kind-eq-RECORD_UNION.ensures, c.requires.2)

pub returns-then-kind-eq-RECORD_UNION : goal.returns-then-kind-eq-RECORD_UNION
returns-then-kind-eq-RECORD_UNION c = a_union (table_of c.args.t.now) (part c.args.s.now c.args.a c.args.an) (part c.args.s.now c.args.o c.args.on) (members_in c.args.t.now c.start_of-then-kind-eq-RECORD_UNION.result c.end_of-then-kind-eq-RECORD_UNION.result) (number_tag c.args.t.now c.args.book.now c.requires.0 (part c.args.s.now c.args.o c.args.on) c.number_meant-i.result c.number_meant-i.ensures 2 (sym c.kind_in.ensures ∙ c.if-kind_in-ne-RECORD_OBJECT.false) (λ z. omega arith)) (number_tag c.args.t.now c.args.book.now c.requires.0 (part c.args.s.now c.args.a c.args.an) c.number_meant-j.result c.number_meant-j.ensures 4 (sym c.kind_in-kind.ensures ∙ c.if-kind-eq-RECORD_UNION.true) (λ z. omega arith)) (rw (c.start_of-then-kind-eq-RECORD_UNION.ensures, c.end_of-then-kind-eq-RECORD_UNION.ensures) (number_members c.args.t.now c.args.book.now c.requires.0 (part c.args.s.now c.args.a c.args.an) c.number_meant-j.result c.number_meant-j.ensures (kind_below c.args.book.now c.number_meant-j.result 4 (sym c.kind_in-kind.ensures ∙ c.if-kind-eq-RECORD_UNION.true) (λ z. omega arith)))) c.has_member.ensures

pub returns : goal.returns
returns c = no_abstract (table_of c.args.t.now) (part c.args.s.now c.args.a c.args.an) (part c.args.s.now c.args.o c.args.on) (number_other c.args.t.now c.args.book.now c.requires.0 (part c.args.s.now c.args.a c.args.an) c.number_meant-j.result c.number_meant-j.ensures 3 (λ e. c.if-kind-eq-RECORD_INTERFACE.false (c.kind_in-kind.ensures ∙ e)) (omega arith)) (number_other c.args.t.now c.args.book.now c.requires.0 (part c.args.s.now c.args.a c.args.an) c.number_meant-j.result c.number_meant-j.ensures 4 (λ e. c.if-kind-eq-RECORD_UNION.false (c.kind_in-kind.ensures ∙ e)) (omega arith))
