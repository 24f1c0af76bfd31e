-- The name means an interface, so that one can be the object.
use mathlib.Core.Path.{sym, ◌∙◌}
use native.Mathlib.Omega.{arith}
use Rattle.table_book.specs.Book.{part}
use Rattle.paper_table.specs.TableNumbers.{tag_interface}
use Rattle.table_types.proofs.Objects.{kind_below, number_room}
use Rattle.table_possible.proofs.NameLaws.{implements_possible, possible_more}
use Rattle.table_possible.proofs.mark_interface.Goals as goal

pub number_meant-i-requires : goal.number_meant-i-requires
number_meant-i-requires c = (c.requires.0, c.requires.4)

pub kind_in-requires : goal.kind_in-requires
kind_in-requires c = (c.requires.0.indexed.held.cells, c.requires.0.indexed.held.most)

pub mark-requires : goal.mark-requires
mark-requires c = let b = c.requires.0 in
    (c.requires.1.size, number_room _ _ b _ (kind_below c.args.book.now c.number_meant-i.result tag_interface (sym c.kind_in.ensures ∙ c.if-kind_in-eq-RECORD_INTERFACE.true) (λ q. omega (arith, q))), number_room _ _ b _ c.requires.2)

pub shape_of-bits : goal.shape_of-bits
shape_of-bits c = c.mark.ensures.size

pub returns-then-kind_in-eq-RECORD_INTERFACE : goal.returns-then-kind_in-eq-RECORD_INTERFACE
returns-then-kind_in-eq-RECORD_INTERFACE c = let a = c.args in
    let b = c.requires.0 in
    possible_more a.t.now a.book.now b _ _ c.number_meant-i.result a.j c.requires.1 c.mark.ensures (implements_possible a.t.now a.book.now b (part a.t.now a.at a.n) c.number_meant-i.result a.j c.number_meant-i.ensures (sym c.kind_in.ensures ∙ c.if-kind_in-eq-RECORD_INTERFACE.true) c.requires.2 c.requires.3 c.requires.5)

pub returns-else-kind_in-eq-RECORD_INTERFACE : goal.returns-else-kind_in-eq-RECORD_INTERFACE
returns-else-kind_in-eq-RECORD_INTERFACE c = c.requires.1
