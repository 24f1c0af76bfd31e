-- The row past the child, if that stands in the parent too.
use mathlib.Core.Path.{◌∙◌}
use native.Mathlib.Omega.{arith}
use Rattle.query_rows.proofs.RowsIn.{rowed_sized}
use Rattle.value_entries.proofs.ChildLaws.{next_here, next_none}
use Rattle.value_entries.proofs.next_child.Goals as goal

pub past_of-k-requires : goal.past_of-k-requires
past_of-k-requires c = (rowed_sized c.requires.0.rowed, c.requires.0.pasts, omega (arith, c.requires.1, c.requires.2))

pub past_of-requires : goal.past_of-requires
past_of-requires c = (rowed_sized c.requires.0.rowed, c.requires.0.pasts, omega (arith, c.requires.1, c.requires.2))

pub returns-then-k-past_of : goal.returns-then-k-past_of
returns-then-k-past_of c = let a = c.args in
    c.past_of-k.ensures.0 ∙ next_here a.s.now a.rows.now a.n a.past.now c.requires.0 a.h c.requires.1 a.c c.requires.2 c.requires.3 (omega (arith, c.if-k-past_of.true, c.past_of-k.ensures.0, c.past_of.ensures.0))

pub returns : goal.returns
returns c = let a = c.args in
    next_none a.s.now a.rows.now a.n a.past.now c.requires.0 a.h c.requires.1 a.c c.requires.2 c.requires.3 (omega (arith, c.if-k-past_of.false, c.past_of-k.ensures.0, c.past_of.ensures.0))
