-- Child by child.
use mathlib.Core.Path.{sym, ◌∙◌}
use native.Mathlib.Omega.{arith}
use Rattle.table_book.specs.Book.{part}
use Rattle.query_rows.specs.Rowed.{doc_of}
use Rattle.value_entries.proofs.EntryLaws.{entry_here, entry_end}
use Rattle.value_entries.proofs.ChildLaws.{stands, stands_later, entry_hop, entry_next}
use Rattle.value_entries.proofs.find_entry.Goals as goal

pub first_child-c-requires : goal.first_child-c-requires
first_child-c-requires c = (c.requires.0, c.requires.1)

pub loop-c-init : goal.loop-c-init
loop-c-init c = let a = c.args in let d = doc_of a.s.now a.rows.now a.n in
    (stands d a.h a.n a.h _ c.first_child-c.ensures (omega arith) c.requires.1, entry_hop d a.h a.n a.h _ c.first_child-c.ensures a.kind (omega arith) (part a.t.now a.at a.l))

pub is_named-requires : goal.is_named-requires
is_named-requires c = (c.requires.0.rowed, c.requires.2)

pub returns-then-is_named : goal.returns-then-is_named
returns-then-is_named c = let a = c.args in let d = doc_of a.s.now a.rows.now a.n in let j = c.loop-c.c in
    entry_here d a.kind a.h (part a.t.now a.at a.l) a.n j c.loop-c-test.true (sym c.is_named.ensures ∙ c.if-is_named.true) ∙ sym c.loop-c.invariant.1

pub next_child-c-requires : goal.next_child-c-requires
next_child-c-requires c = (c.requires.0, c.requires.1, c.loop-c-test.true, c.loop-c.invariant.0.below c.loop-c-test.true)

pub loop-c-smaller : goal.loop-c-smaller
loop-c-smaller c = let a = c.args in let d = doc_of a.s.now a.rows.now a.n in let j = c.loop-c.c in
    omega (arith, c.loop-c-test.true, stands_later d a.h a.n j _ c.next_child-c.ensures)

pub loop-c-preserved : goal.loop-c-preserved
loop-c-preserved c = let a = c.args in let d = doc_of a.s.now a.rows.now a.n in let j = c.loop-c.c in
    (stands d a.h a.n j _ c.next_child-c.ensures (omega (arith, c.loop-c.invariant.0.behind)) c.loop-c-test.true, c.loop-c.invariant.1 ∙ entry_next d a.h a.n j _ c.next_child-c.ensures a.kind (omega (arith, c.loop-c.invariant.0.behind)) (part a.t.now a.at a.l) c.loop-c-test.true (sym c.is_named.ensures ∙ c.if-is_named.false))

pub returns : goal.returns
returns c = let a = c.args in let d = doc_of a.s.now a.rows.now a.n in let j = c.loop-c.c in
    entry_end d a.kind a.h (part a.t.now a.at a.l) a.n j c.loop-c-test.false ∙ sym c.loop-c.invariant.1
