use native.Mathlib.Omega.{arith}
use Rattle.query_rows.proofs.RowsIn.{rowed_sized}
use Rattle.query_opening.proofs.OpeningLaws.{meant_no, meant_one, meant_two}
use Rattle.query_opening.proofs.only_operation.Goals as goal

pub next_operation-i-requires : goal.next_operation-i-requires
next_operation-i-requires c = (rowed_sized c.requires, omega arith)

pub returns-then-n-i : goal.returns-then-n-i
returns-then-n-i c = let a = c.args in
    meant_no a.s.now a.rows.now a.n (omega (arith, c.if-n-i.true, c.next_operation-i.ensures))

pub next_operation-requires : goal.next_operation-requires
next_operation-requires c = (rowed_sized c.requires, omega (arith, c.if-n-i.false))

pub returns-then-next_operation-n : goal.returns-then-next_operation-n
returns-then-next_operation-n c = let a = c.args in
    meant_two a.s.now a.rows.now a.n _ c.next_operation-i.ensures (omega (arith, c.if-n-i.false)) (omega (arith, c.if-next_operation-n.true, c.next_operation.ensures))

pub returns : goal.returns
returns c = let a = c.args in
    meant_one a.s.now a.rows.now a.n _ c.next_operation-i.ensures (omega (arith, c.if-n-i.false)) (omega (arith, c.if-next_operation-n.false, c.next_operation.ensures))
