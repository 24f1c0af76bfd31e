-- The row is there, or none is.
use mathlib.Core.Path.{sym, ap}
use Rattle.paper.specs.Rows.{Row}
use Rattle.query_rows.proofs.RowsIn.{row_at_is, row_none}
use Rattle.query_rows.proofs.end_of.Goals as goal

pub returns-then-i-n : goal.returns-then-i-n
returns-then-i-n c = let a = c.args in
    sym (ap (λ (r : Row). r.end) (row_at_is a.rows.now a.n a.i c.if-i-n.true))

pub returns : goal.returns
returns c = let a = c.args in
    sym (ap (λ (r : Row). r.end) (row_none a.rows.now a.n a.i c.if-i-n.false))
