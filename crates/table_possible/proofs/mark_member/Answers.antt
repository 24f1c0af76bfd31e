-- The name means an object, so the union can be that one.
use mathlib.Core.Path.{sym, ◌∙◌}
use native.Mathlib.Omega.{arith}
use Rattle.table_book.specs.Book.{part}
use Rattle.paper_table.specs.TableNumbers.{tag_object}
use Rattle.table_types.proofs.Objects.{kind_below, number_room}
use Rattle.table_possible.proofs.NameLaws.{member_possible, possible_more}
use Rattle.table_possible.proofs.mark_member.Goals as goal

pub number_meant-j-requires : goal.number_meant-j-requires
number_meant-j-requires c = (c.requires.0, c.requires.4)

pub kind_in-requires : goal.kind_in-requires
kind_in-requires c = (c.requires.0.indexed.held.cells, c.requires.0.indexed.held.most)

pub mark-requires : goal.mark-requires
mark-requires c = let b = c.requires.0 in
    (c.requires.1.size, number_room _ _ b _ c.requires.2, number_room _ _ b _ (kind_below c.args.book.now c.number_meant-j.result tag_object (sym c.kind_in.ensures ∙ c.if-kind_in-eq-RECORD_OBJECT.true) (λ q. omega (arith, q))))

pub shape_of-bits : goal.shape_of-bits
shape_of-bits c = c.mark.ensures.size

pub returns-then-kind_in-eq-RECORD_OBJECT : goal.returns-then-kind_in-eq-RECORD_OBJECT
returns-then-kind_in-eq-RECORD_OBJECT c = let a = c.args in
    let b = c.requires.0 in
    possible_more a.t.now a.book.now b _ _ a.i c.number_meant-j.result c.requires.1 c.mark.ensures (member_possible a.t.now a.book.now b (part a.t.now a.at a.n) a.i c.number_meant-j.result c.number_meant-j.ensures (sym c.kind_in.ensures ∙ c.if-kind_in-eq-RECORD_OBJECT.true) c.requires.2 c.requires.3 c.requires.5)

pub returns-else-kind_in-eq-RECORD_OBJECT : goal.returns-else-kind_in-eq-RECORD_OBJECT
returns-else-kind_in-eq-RECORD_OBJECT c = c.requires.1
