-- Read off.
use mathlib.Core.Path.{◌∙◌}
use Prim.Native.Nat.{◌<◌}
use native.Mathlib.Omega.{arith}
use lib.ListN.{length}
use Rattle.query_rows.specs.Rowed.{rows_in}
use Rattle.query_rows.proofs.RowsIn.{rows_count}
use Rattle.query_rows.proofs.Rooms.{room_rows, room_enough}
use Rattle.query_subtrees.proofs.PastLaws.{past_after, past_most}
use Rattle.query_subtrees.proofs.past_of.Goals as goal

pub bounds-past-i : goal.bounds-past-i
bounds-past-i c = let a = c.args in let p = c.requires in
    omega (arith, p.2, p.1.size, p.0.few, room_rows a.rows.now a.n, room_enough a.n p.0.few)

pub returns : goal.returns
returns c = let a = c.args in let p = c.requires in
    let l : a.i < length (rows_in a.rows.now a.n) = omega (arith, p.2, rows_count a.rows.now a.n) in
    let e = c.wide.ensures ∙ p.1.right a.i l in
    (e, omega (arith, e, past_after (rows_in a.rows.now a.n) a.i), omega (arith, e, past_most (rows_in a.rows.now a.n) a.i l, rows_count a.rows.now a.n))
