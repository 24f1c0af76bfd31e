-- Child by child.
use mathlib.Core.Path.{sym, ◌∙◌}
use Prim.Native.Nat.{◌-◌, ◌+◌}
use native.Mathlib.Omega.{arith}
use Rattle.query_rows.specs.Rowed.{doc_of}
use Rattle.value_entries.specs.Entered.{names_before}
use Rattle.value_entries.proofs.EntryLaws.{repeated_here, repeated_end, marks_none, marks_some}
use Rattle.value_entries.proofs.ChildLaws.{stands, stands_later, repeated_first, repeated_next}
use Rattle.value_entries.proofs.first_repeated.Goals as goal

pub first_child-c-requires : goal.first_child-c-requires
first_child-c-requires c = (c.requires.0, c.requires.1)

pub loop-c-init : goal.loop-c-init
loop-c-init c = let a = c.args in let d = doc_of a.s.now a.rows.now a.n in
    (stands d a.h a.n a.h _ c.first_child-c.ensures (omega arith) c.requires.1, λ text read. repeated_first d a.kind a.h a.n _ c.first_child-c.ensures text read)

pub is_repeated-requires : goal.is_repeated-requires
is_repeated-requires c = (c.requires.0, c.loop-c.invariant.0.behind, c.loop-c-test.true)

pub returns-then-is_repeated : goal.returns-then-is_repeated
returns-then-is_repeated c = let a = c.args in let d = doc_of a.s.now a.rows.now a.n in let j = c.loop-c.c in
    λ text read. marks_some a.n text j d _ (c.loop-c.invariant.1 text read ∙ repeated_here d a.kind a.h text read a.n j c.loop-c-test.true (sym c.is_repeated.ensures ∙ c.if-is_repeated.true)) c.loop-c-test.true

pub next_child-c-requires : goal.next_child-c-requires
next_child-c-requires c = (c.requires.0, c.requires.1, c.loop-c-test.true, c.loop-c.invariant.0.below c.loop-c-test.true)

pub loop-c-smaller : goal.loop-c-smaller
loop-c-smaller c = let a = c.args in let d = doc_of a.s.now a.rows.now a.n in let j = c.loop-c.c in
    omega (arith, c.loop-c-test.true, stands_later d a.h a.n j _ c.next_child-c.ensures)

pub loop-c-preserved : goal.loop-c-preserved
loop-c-preserved c = let a = c.args in let d = doc_of a.s.now a.rows.now a.n in let j = c.loop-c.c in
    (stands d a.h a.n j _ c.next_child-c.ensures (omega (arith, c.loop-c.invariant.0.behind)) c.loop-c-test.true, λ text read. c.loop-c.invariant.1 text read ∙ repeated_next d a.h a.n j _ c.next_child-c.ensures a.kind (omega (arith, c.loop-c.invariant.0.behind)) text read c.loop-c.invariant.0.behind c.loop-c-test.true (sym c.is_repeated.ensures ∙ c.if-is_repeated.false))

pub returns : goal.returns
returns c = let a = c.args in let d = doc_of a.s.now a.rows.now a.n in let j = c.loop-c.c in
    λ text read. marks_none a.n text _ (c.loop-c.invariant.1 text read ∙ repeated_end d a.kind a.h text read (names_before d a.kind a.h (j - (a.h + 1))) a.n j c.loop-c-test.false)
