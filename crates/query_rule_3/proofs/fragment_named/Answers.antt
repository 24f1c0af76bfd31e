-- The first row of its kind and of row i's name.
use native.Mathlib.Omega.{arith}
use Rattle.paper_query.specs.Constructs.{fragment_named}
use Rattle.query_rows.proofs.RowsIn.{name_within}
use Rattle.query_rule_3.proofs.fragment_named.Goals as goal

pub first_called-requires : goal.first_called-requires
first_called-requires c = let a = c.args in
    let p = c.requires in
    (p.0, p.1, omega arith, omega (arith, c.name_of-at.ensures, c.size_of-l.ensures, name_within a.s.now a.rows.now a.n p.0 a.i))

pub returns : goal.returns
unfolding fragment_named
returns c = let a = c.args in
    let e = c.name_of-at.ensures in
    let f = c.size_of-l.ensures in
    rw (c.first_called.ensures, e, f)
