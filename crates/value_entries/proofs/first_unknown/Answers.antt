-- Child by child.
use mathlib.Core.Path.{refl, sym, ◌∙◌}
use native.Mathlib.Omega.{arith}
use Rattle.query_rows.specs.Rowed.{doc_of}
use Rattle.value_entries.specs.Entered.{dues_by}
use Rattle.value_entries.proofs.EntryLaws.{unknown_here, unknown_end, marks_none, marks_some}
use Rattle.value_entries.proofs.ChildLaws.{stands, stands_later, unknown_hop, unknown_next}
use Rattle.value_entries.proofs.first_unknown.Goals as goal

pub first_child-c-requires : goal.first_child-c-requires
first_child-c-requires c = (c.requires.1, c.requires.2)

pub loop-c-init : goal.loop-c-init
loop-c-init c = let a = c.args in let d = doc_of a.s.now a.rows.now a.n in
    (stands d a.h a.n a.h _ c.first_child-c.ensures (omega arith) c.requires.2, λ text read. unknown_hop d a.h a.n a.h _ c.first_child-c.ensures a.kind (omega arith) text read (dues_by a.kind a.t.now a.start a.end))

pub is_unknown-requires : goal.is_unknown-requires
is_unknown-requires c = (c.requires.0, c.requires.1.rowed)

pub returns-then-is_unknown : goal.returns-then-is_unknown
returns-then-is_unknown c = let a = c.args in let d = doc_of a.s.now a.rows.now a.n in let j = c.loop-c.c in
    λ text read. marks_some a.n text j d _ (c.loop-c.invariant.1 text read ∙ unknown_here d a.kind a.h text read (dues_by a.kind a.t.now a.start a.end) _ j refl a.n c.loop-c-test.true (sym c.is_unknown.ensures ∙ c.if-is_unknown.true)) c.loop-c-test.true

pub next_child-c-requires : goal.next_child-c-requires
next_child-c-requires c = (c.requires.1, c.requires.2, c.loop-c-test.true, c.loop-c.invariant.0.below c.loop-c-test.true)

pub loop-c-smaller : goal.loop-c-smaller
loop-c-smaller c = let a = c.args in let d = doc_of a.s.now a.rows.now a.n in let j = c.loop-c.c in
    omega (arith, c.loop-c-test.true, stands_later d a.h a.n j _ c.next_child-c.ensures)

pub loop-c-preserved : goal.loop-c-preserved
loop-c-preserved c = let a = c.args in let d = doc_of a.s.now a.rows.now a.n in let j = c.loop-c.c in
    (stands d a.h a.n j _ c.next_child-c.ensures (omega (arith, c.loop-c.invariant.0.behind)) c.loop-c-test.true, λ text read. c.loop-c.invariant.1 text read ∙ unknown_next d a.h a.n j _ c.next_child-c.ensures a.kind (omega (arith, c.loop-c.invariant.0.behind)) text read (dues_by a.kind a.t.now a.start a.end) c.loop-c-test.true (sym c.is_unknown.ensures ∙ c.if-is_unknown.false))

pub returns : goal.returns
returns c = let a = c.args in let d = doc_of a.s.now a.rows.now a.n in let j = c.loop-c.c in
    λ text read. marks_none a.n text _ (c.loop-c.invariant.1 text read ∙ unknown_end d a.kind a.h text read (dues_by a.kind a.t.now a.start a.end) a.n j c.loop-c-test.false)
