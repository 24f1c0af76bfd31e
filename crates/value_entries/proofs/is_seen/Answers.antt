-- Child by child, up to row c.
use mathlib.Core.Path.{sym, ◌∙◌}
use native.Mathlib.Omega.{arith}
use Rattle.paper_query.specs.Constructs.{name_of}
use Rattle.query_rows.specs.Rowed.{doc_of}
use Rattle.value_entries.proofs.ChildLaws.{stands, stands_later, seen_first, seen_next, seen_yes, seen_no}
use Rattle.value_entries.proofs.is_seen.Goals as goal

pub first_child-j-requires : goal.first_child-j-requires
first_child-j-requires c = (c.requires.0, omega (arith, c.requires.1, c.requires.2))

pub loop-j-init : goal.loop-j-init
loop-j-init c = let a = c.args in let d = doc_of a.s.now a.rows.now a.n in
    (stands d a.h a.n a.h _ c.first_child-j.ensures (omega arith) (omega (arith, c.requires.1, c.requires.2)), seen_first d a.kind a.h a.n _ c.first_child-j.ensures (name_of d a.c))

pub is_twin-requires : goal.is_twin-requires
is_twin-requires c = c.requires.0.rowed

pub returns-then-is_twin : goal.returns-then-is_twin
returns-then-is_twin c = let a = c.args in let d = doc_of a.s.now a.rows.now a.n in let j = c.loop-j.j in
    seen_yes d a.kind a.h (name_of d a.c) j a.c c.loop-j.invariant.0.behind c.loop-j-test.true (sym c.is_twin.ensures ∙ c.if-is_twin.true)

pub next_child-j-requires : goal.next_child-j-requires
next_child-j-requires c = (c.requires.0, omega (arith, c.requires.1, c.requires.2), omega (arith, c.loop-j-test.true, c.requires.2), c.loop-j.invariant.0.below (omega (arith, c.loop-j-test.true, c.requires.2)))

pub loop-j-smaller : goal.loop-j-smaller
loop-j-smaller c = let a = c.args in let d = doc_of a.s.now a.rows.now a.n in let j = c.loop-j.j in
    omega (arith, c.loop-j-test.true, c.requires.2, stands_later d a.h a.n j _ c.next_child-j.ensures)

pub loop-j-preserved : goal.loop-j-preserved
loop-j-preserved c = let a = c.args in let d = doc_of a.s.now a.rows.now a.n in let j = c.loop-j.j in
    (stands d a.h a.n j _ c.next_child-j.ensures (omega (arith, c.loop-j.invariant.0.behind)) (omega (arith, c.loop-j-test.true, c.requires.2)), seen_next d a.h a.n j _ c.next_child-j.ensures a.kind (omega (arith, c.loop-j.invariant.0.behind)) (name_of d a.c) c.loop-j.invariant.0.behind (sym c.is_twin.ensures ∙ c.if-is_twin.false) c.loop-j.invariant.1)

pub returns : goal.returns
returns c = let a = c.args in let d = doc_of a.s.now a.rows.now a.n in let j = c.loop-j.j in
    seen_no d a.kind a.h (name_of d a.c) j a.c c.loop-j-test.false c.loop-j.invariant.1
