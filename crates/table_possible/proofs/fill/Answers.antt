-- Definition by definition: each bit that is set is right.
use mathlib.Core.Path.{sym, ◌∙◌}
use native.Mathlib.Omega.{arith}
use Rattle.table_possible.proofs.NameLaws.{possible_none}
use Rattle.table_possible.proofs.fill.Goals as goal

pub count_of-count-requires : goal.count_of-count-requires
count_of-count-requires c = c.requires.0.indexed.held.cells

pub loop-k-init : goal.loop-k-init
loop-k-init c = possible_none _ _ c.requires.0 _ c.requires.1

pub mark_definition-requires : goal.mark_definition-requires
mark_definition-requires c = (c.requires.0, c.loop-k.invariant, omega (arith, c.loop-k-test.true, c.count_of-count.ensures))

pub shape_of-bits : goal.shape_of-bits
shape_of-bits c = c.loop-k.invariant.size ∙ sym c.requires.1.size
