-- From row to row, each over its own subtree.
use mathlib.Core.Path.{sym, ◌∙◌}
use native.Mathlib.Omega.{arith}
use Rattle.query_rows.specs.Rowed.{rows_in}
use Rattle.query_rows.proofs.RowsIn.{rows_count}
use Rattle.query_rows.proofs.Rooms.{room_rows, room_enough}
use Rattle.query_subtrees.proofs.Hops.{hops_start, hops_here, hops_next, hops_less, hops_end}
use Rattle.query_subtrees.proofs.find_past.Goals as goal

pub loop-j-init : goal.loop-j-init
loop-j-init c = let a = c.args in
    hops_start (rows_in a.rows.now a.n) a.n a.i (rows_count a.rows.now a.n) c.requires.2

pub returns-then-leaves_row : goal.returns-then-leaves_row
returns-then-leaves_row c = let a = c.args in
    hops_here (rows_in a.rows.now a.n) a.n a.i c.loop-j.j c.loop-j.invariant c.loop-j-test.true (sym c.if-leaves_row.true ∙ c.leaves_row.ensures)

pub bounds-past-j : goal.bounds-past-j
bounds-past-j c = let a = c.args in let p = c.requires in
    omega (arith, c.loop-j-test.true, p.1.size, p.0.few, room_rows a.rows.now a.n, room_enough a.n p.0.few)

pub loop-j-smaller : goal.loop-j-smaller
loop-j-smaller c = let a = c.args in
    let q = c.wide-j.ensures ∙ c.requires.1.right c.loop-j.j (omega (arith, c.loop-j.invariant.after)) (omega (arith, c.loop-j-test.true, rows_count a.rows.now a.n)) in
    omega (arith, c.loop-j-test.true, hops_less (rows_in a.rows.now a.n) a.n a.i c.loop-j.j c.loop-j.invariant q)

pub loop-j-preserved : goal.loop-j-preserved
loop-j-preserved c = let a = c.args in
    let q = c.wide-j.ensures ∙ c.requires.1.right c.loop-j.j (omega (arith, c.loop-j.invariant.after)) (omega (arith, c.loop-j-test.true, rows_count a.rows.now a.n)) in
    hops_next (rows_in a.rows.now a.n) a.n a.i c.loop-j.j c.loop-j.invariant c.loop-j-test.true (sym c.if-leaves_row.false ∙ c.leaves_row.ensures) q

pub returns : goal.returns
returns c = let a = c.args in
    hops_end (rows_in a.rows.now a.n) a.n a.i c.loop-j.j c.loop-j.invariant c.loop-j-test.false
