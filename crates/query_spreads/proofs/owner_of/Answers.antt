-- By the row's kind: itself, or what its parent has.
use mathlib.Core.Path.{sym, ◌∙◌}
use native.Mathlib.Omega.{arith}
use Rattle.query_rows.specs.Rowed.{doc_of}
use Rattle.query_rows.proofs.RowsIn.{rows_count}
use Rattle.query_rows.proofs.Rooms.{room_at}
use Rattle.query_spreads.proofs.OwnerLaws.{operation_defines, fragment_defines, owner_itself, owner_at_parent, owner_of_none}
use Rattle.query_spreads.proofs.owner_of.Goals as goal

pub returns-then-kind-eq-KIND_OPERATION : goal.returns-then-kind-eq-KIND_OPERATION
returns-then-kind-eq-KIND_OPERATION c = let a = c.args in
    let d = doc_of a.s.now a.rows.now a.n in
    owner_itself d a.i (omega (arith, rows_count a.rows.now a.n, c.requires.0.few)) (operation_defines d a.i (sym c.kind_of-kind.ensures ∙ c.if-kind-eq-KIND_OPERATION.true))

pub returns-then-kind-eq-KIND_FRAGMENT : goal.returns-then-kind-eq-KIND_FRAGMENT
returns-then-kind-eq-KIND_FRAGMENT c = let a = c.args in
    let d = doc_of a.s.now a.rows.now a.n in
    owner_itself d a.i (omega (arith, rows_count a.rows.now a.n, c.requires.0.few)) (fragment_defines d a.i (sym c.kind_of-kind.ensures ∙ c.if-kind-eq-KIND_FRAGMENT.true))

pub bounds-owner-p : goal.bounds-owner-p
bounds-owner-p c = let p = c.requires in
    room_at _ _ _ p.1.size p.0.few (omega (arith, c.if-p-i.true, p.2))

pub returns-then-p-i : goal.returns-then-p-i
returns-then-p-i c = let a = c.args in
    owner_at_parent a.s.now a.rows.now a.n a.i a.owner.now c.kind_of-kind.ensures c.if-kind-eq-KIND_OPERATION.false c.if-kind-eq-KIND_FRAGMENT.false c.parent_of-p.ensures c.requires.1 c.if-p-i.true

pub returns : goal.returns
returns c = let a = c.args in
    owner_of_none a.s.now a.rows.now a.n a.i c.requires.0 c.requires.2 c.kind_of-kind.ensures c.if-kind-eq-KIND_OPERATION.false c.if-kind-eq-KIND_FRAGMENT.false c.parent_of-p.ensures c.if-p-i.false
