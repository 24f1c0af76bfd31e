-- The key is found or is new.
use mathlib.Core.Path.{refl, ap, ◌∙◌}
use Prim.Native.Nat.{◌+◌}
use lib.ListN.{length, length-set}
use Rattle.plan_keys.specs.Keyed.{bucket_of}
use native.Mathlib.Omega.{arith}
use Rattle.query_rows.specs.Rowed.{doc_of}
use Rattle.query_rows.proofs.RowsIn.{rows_count}
use Rattle.query_rows.proofs.Rooms.{room_rows, room_enough}
use Rattle.plan_keys.proofs.KeyLaws.{key_most}
use Rattle.plan_keys.proofs.Filing.{filed_later, filed_first}
use Rattle.plan_keys.proofs.number_field.Goals as goal

pub find_key-k-requires : goal.find_key-k-requires
find_key-k-requires c = let p = c.requires in
    (p.0, p.1, p.2, record { field = p.3; within = c.key_of-place.ensures.0; key = c.key_of-place.ensures.1; bucket = c.hash-h.ensures.0; low = c.hash-h.ensures.1 })

pub overflow_cast-keys : goal.overflow_cast-keys
overflow_cast-keys c = let a = c.args in let p = c.requires in
    omega (arith, p.2, p.0.few, c.find_key-k.ensures, key_most (doc_of a.s.now a.rows.now a.n) a.i (omega (arith, p.2, rows_count a.rows.now a.n)) p.3)

pub bounds-keys-i : goal.bounds-keys-i
bounds-keys-i c = let a = c.args in let p = c.requires in
    omega (arith, p.2, p.0.few, p.1.sizes, room_rows a.rows.now a.n, room_enough a.n p.0.few)

pub returns-then-k-i : goal.returns-then-k-i
returns-then-k-i c = let a = c.args in let p = c.requires in
    filed_later (doc_of a.s.now a.rows.now a.n) a.seed a.head.now a.next.now a.keys.now a.i p.1 (omega (arith, p.2, rows_count a.rows.now a.n)) (omega (arith, p.0.few, rows_count a.rows.now a.n)) p.3 _ c.find_key-k.result c.find_key-k.ensures refl c.if-k-i.true

pub put_first-requires : goal.put_first-requires
put_first-requires c = let a = c.args in let p = c.requires in
    (omega (arith, p.1.heads, c.hash-h.ensures.1), omega (arith, p.2, p.0.few, p.1.nexts, room_rows a.rows.now a.n, room_enough a.n p.0.few), omega (arith, p.2, p.0.few))

pub is_crowded-requires : goal.is_crowded-requires
is_crowded-requires c = let p = c.requires in
    omega (arith, p.1.heads, c.hash-h.ensures.1, ap length c.put_first.ensures.0, length-set c.args.head.now c.hash-h.result (c.args.i + 1))

pub returns : goal.returns
returns c = let a = c.args in let p = c.requires in
    filed_first (doc_of a.s.now a.rows.now a.n) a.seed a.head.now a.next.now a.keys.now a.i p.1 (omega (arith, p.2, rows_count a.rows.now a.n)) (omega (arith, p.0.few, rows_count a.rows.now a.n)) p.3 _ c.find_key-k.result c.find_key-k.ensures refl
    (omega (arith, c.if-k-i.false, c.find_key-k.ensures, key_most (doc_of a.s.now a.rows.now a.n) a.i (omega (arith, p.2, rows_count a.rows.now a.n)) p.3))
    c.hash-h.result (c.hash-h.ensures.0 ∙ ap (bucket_of a.seed) c.key_of-place.ensures.1) c.hash-h.ensures.1 _ _ c.put_first.ensures.0 c.put_first.ensures.1
