-- By the parent.
use mathlib.Core.Path.{◌∙◌}
use native.Mathlib.Omega.{arith}
use Rattle.query_rows.specs.Rowed.{row_in}
use Rattle.query_subtrees.proofs.Hops.{leaves_before, leaves_not}
use Rattle.query_subtrees.proofs.leaves_row.Goals as goal

pub returns-then-p-i : goal.returns-then-p-i
returns-then-p-i c = let a = c.args in
    leaves_before a.i (row_in a.rows.now a.n a.j) (omega (arith, c.if-p-i.true, c.wide-p.ensures, c.parent_of.ensures))

pub returns : goal.returns
returns c = let a = c.args in
    let e = c.wide-p.ensures ∙ c.parent_of.ensures in
    rw (c.wide.ensures, e) (leaves_not a.i (row_in a.rows.now a.n a.j) (omega (arith, c.if-p-i.false, e)))
