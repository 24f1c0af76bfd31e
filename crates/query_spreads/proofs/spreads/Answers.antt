-- From the last row to the first: each spread goes in front of those of its definition.
use mathlib.Core.Path.{ap, sym, ◌∙◌}
use native.Mathlib.Omega.{arith}
use lib.ListN.{length, replicate, length-replicate}
use Rattle.paper_query.specs.Constructs.{count}
use Rattle.query_rows.specs.Rowed.{doc_of}
use Rattle.query_rows.proofs.RowsIn.{rows_count}
use Rattle.query_rows.proofs.Rooms.{room_most, room_rows, room_at}
use Rattle.query_spreads.proofs.LinkLaws.{linking_start, linking_skip, linking_more, linking_end}
use Rattle.query_spreads.proofs.spreads.Goals as goal

pub clear-requires : goal.clear-requires
clear-requires c = c.requires.0.few

pub loop-j-init : goal.loop-j-init
loop-j-init c = let a = c.args in
    let e = c.clear.ensures in
    let l = ap length e ∙ length-replicate (length a.first.now) a.n in
    linking_start (doc_of a.s.now a.rows.now a.n) _ _ _ _ (rows_count a.rows.now a.n) (omega (arith, l, c.requires.2)) (e ∙ ap (λ k. replicate k a.n) (sym l)) (c.requires.3 ∙ sym (room_rows _ _))

pub spreader-a-requires : goal.spreader-a-requires
spreader-a-requires c = (c.requires.0, c.requires.1, omega (arith, c.loop-j-test.true, c.loop-j.invariant.most, rows_count c.args.rows.now c.args.n))

pub put_first-requires : goal.put_first-requires
put_first-requires c = let a = c.args in
    let i = c.loop-j.invariant in
    let m = rows_count a.rows.now a.n in
    (omega (arith, c.if-a-n.true, i.firsts, i.enough, m), room_at _ _ _ i.nexts c.requires.0.few (omega (arith, c.loop-j-test.true, i.most, m)), omega (arith, i.nexts, room_most (count (doc_of a.s.now a.rows.now a.n))))

pub loop-j-preserved-then-a-n : goal.loop-j-preserved-then-a-n
loop-j-preserved-then-a-n c = let a = c.args in
    let l = c.loop-j in
    let m = rows_count a.rows.now a.n in
    linking_more (doc_of a.s.now a.rows.now a.n) _ l.first l.next l.j _ l.invariant c.loop-j-test.true (omega (arith, m, c.requires.0.few)) c.spreader-a.ensures (omega (arith, m, c.if-a-n.true)) c.put_first.ensures.0 c.put_first.ensures.1

pub loop-j-preserved : goal.loop-j-preserved
loop-j-preserved c = let a = c.args in
    let l = c.loop-j in
    linking_skip (doc_of a.s.now a.rows.now a.n) _ l.first l.next l.j _ l.invariant c.loop-j-test.true c.spreader-a.ensures (omega (arith, rows_count a.rows.now a.n, c.if-a-n.false))

pub shape_of-first : goal.shape_of-first
shape_of-first c = c.loop-j.invariant.firsts ∙ ap length c.clear.ensures ∙ length-replicate (length c.args.first.now) c.args.n

pub shape_of-next : goal.shape_of-next
shape_of-next c = c.loop-j.invariant.nexts ∙ room_rows _ _ ∙ sym c.requires.3

pub returns : goal.returns
returns c = linking_end c.loop-j.invariant (omega (arith, c.loop-j-test.false))
