-- Along the bucket of row i's key.
use mathlib.Core.Path.{sym, ◌∙◌}
use native.Mathlib.Omega.{arith}
use Rattle.query_rows.specs.Rowed.{doc_of}
use Rattle.query_rows.proofs.RowsIn.{rows_count}
use Rattle.query_rows.proofs.Rooms.{room_rows, room_enough}
use Rattle.plan_keys.proofs.Seeking.{seeks_start, seeks_low, seeks_found, seeks_next, seeks_less, seeks_end}
use Rattle.plan_keys.proofs.find_key.Goals as goal

pub loop-k-init : goal.loop-k-init
loop-k-init c = let a = c.args in let p = c.requires in
    seeks_start (doc_of a.s.now a.rows.now a.n) a.seed a.head.now a.next.now a.keys.now a.i p.1 (omega (arith, p.2, rows_count a.rows.now a.n)) a.s.now a.at a.l a.h p.3 c.wide-k.ensures

pub returns-then-has_key : goal.returns-then-has_key
returns-then-has_key c = let a = c.args in let p = c.requires in
    seeks_found (doc_of a.s.now a.rows.now a.n) a.seed a.head.now a.next.now a.keys.now a.i p.1 (omega (arith, p.2, rows_count a.rows.now a.n)) a.s.now a.at a.l a.h p.3 c.loop-k.k c.loop-k.invariant c.loop-k-test.true (sym c.if-has_key.true ∙ c.has_key.ensures)

pub offset_bounds-next-k : goal.offset_bounds-next-k
offset_bounds-next-k c = let a = c.args in let p = c.requires in
    omega (arith, p.2, p.0.few, seeks_low (doc_of a.s.now a.rows.now a.n) a.seed a.head.now a.next.now a.keys.now a.i p.1 (omega (arith, p.2, rows_count a.rows.now a.n)) a.s.now a.at a.l a.h p.3 c.loop-k.k c.loop-k.invariant c.loop-k-test.true)

pub bounds-next-k : goal.bounds-next-k
bounds-next-k c = let a = c.args in let p = c.requires in
    omega (arith, p.2, p.0.few, p.1.nexts, room_rows a.rows.now a.n, room_enough a.n p.0.few, seeks_low (doc_of a.s.now a.rows.now a.n) a.seed a.head.now a.next.now a.keys.now a.i p.1 (omega (arith, p.2, rows_count a.rows.now a.n)) a.s.now a.at a.l a.h p.3 c.loop-k.k c.loop-k.invariant c.loop-k-test.true)

pub loop-k-smaller : goal.loop-k-smaller
loop-k-smaller c = let a = c.args in let p = c.requires in
    seeks_less (doc_of a.s.now a.rows.now a.n) a.seed a.head.now a.next.now a.keys.now a.i p.1 (omega (arith, p.2, rows_count a.rows.now a.n)) a.s.now a.at a.l a.h p.3 c.loop-k.k c.loop-k.invariant c.loop-k-test.true c.wide-k-in-loop-k.ensures

pub loop-k-preserved : goal.loop-k-preserved
loop-k-preserved c = let a = c.args in let p = c.requires in
    seeks_next (doc_of a.s.now a.rows.now a.n) a.seed a.head.now a.next.now a.keys.now a.i p.1 (omega (arith, p.2, rows_count a.rows.now a.n)) a.s.now a.at a.l a.h p.3 c.loop-k.k c.loop-k.invariant c.loop-k-test.true (sym c.if-has_key.false ∙ c.has_key.ensures) c.wide-k-in-loop-k.ensures

pub returns : goal.returns
returns c = let a = c.args in let p = c.requires in
    seeks_end (doc_of a.s.now a.rows.now a.n) a.seed a.head.now a.next.now a.keys.now a.i p.1 (omega (arith, p.2, rows_count a.rows.now a.n)) a.s.now a.at a.l a.h p.3 c.loop-k.k c.loop-k.invariant c.loop-k-test.false
