-- Row by row.
use mathlib.Core.Path.{◌≡◌, sym, ◌∙◌, subst}
use Prim.Native.Nat.{ℕ}
use native.Mathlib.Omega.{arith}
use Rattle.query_rows.specs.Rowed.{doc_of}
use Rattle.query_rows.proofs.RowsIn.{rows_count}
use Rattle.query_rows.proofs.Rooms.{room_rows}
use Rattle.plan_keys.specs.Keyed.{Filed}
use Rattle.plan_keys.proofs.Filing.{filed_none}
use Rattle.plan_keys.proofs.number_by.Goals as goal

pub loop-i-init : goal.loop-i-init
loop-i-init c = let a = c.args in let p = c.requires in
    filed_none (doc_of a.s.now a.rows.now a.n) a.seed _ _ _ _ p.1 c.clear.ensures (p.2 ∙ sym (room_rows a.rows.now a.n)) (p.3 ∙ sym (room_rows a.rows.now a.n))

pub number_row-requires : goal.number_row-requires
number_row-requires c = (c.requires.0, c.loop-i.invariant, c.loop-i-test.true)

pub loop-i-preserved : goal.loop-i-preserved
loop-i-preserved c = c.number_row.ensures

pub shape_of-head : goal.shape_of-head
shape_of-head c = c.loop-i.invariant.heads ∙ sym c.requires.1

pub shape_of-next : goal.shape_of-next
shape_of-next c = c.loop-i.invariant.nexts ∙ room_rows _ _ ∙ sym c.requires.2

pub shape_of-keys : goal.shape_of-keys
shape_of-keys c = c.loop-i.invariant.sizes ∙ room_rows _ _ ∙ sym c.requires.3

pub returns : goal.returns
returns c = let a = c.args in let f = c.loop-i.invariant in
    let z : c.loop-i.i ≡ a.n = omega (arith, c.loop-i-test.false, f.most, rows_count a.rows.now a.n) in
    subst (λ (x : ℕ). Filed (doc_of a.s.now a.rows.now a.n) a.seed c.loop-i.head c.loop-i.next c.loop-i.keys x) z f
