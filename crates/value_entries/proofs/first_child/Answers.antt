-- The row behind it, if that stands in it.
use native.Mathlib.Omega.{arith}
use Rattle.query_rows.proofs.RowsIn.{rowed_sized}
use Rattle.value_entries.proofs.ChildLaws.{first_here, first_none}
use Rattle.value_entries.proofs.first_child.Goals as goal

pub past_of-requires : goal.past_of-requires
past_of-requires c = (rowed_sized c.requires.0.rowed, c.requires.0.pasts, c.requires.1)

pub returns-then-c-past_of : goal.returns-then-c-past_of
returns-then-c-past_of c = let a = c.args in
    first_here a.s.now a.rows.now a.n a.past.now c.requires.0 a.h c.requires.1 (omega (arith, c.if-c-past_of.true, c.past_of.ensures.0))

pub returns : goal.returns
returns c = let a = c.args in
    first_none a.s.now a.rows.now a.n a.past.now c.requires.0 a.h c.requires.1 (omega (arith, c.if-c-past_of.false, c.past_of.ensures.0))
