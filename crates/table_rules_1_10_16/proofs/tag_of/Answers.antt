-- The entry's kind.
use native.Mathlib.Omega.{arith}
use Rattle.table_types.proofs.Entries.{tag_entered}
use Rattle.table_rules_1_10_16.proofs.tag_of.Goals as goal

pub kind_of-requires : goal.kind_of-requires
kind_of-requires c = (c.requires.0.indexed.held.cells, omega (arith, c.requires.0.indexed.held.most, c.requires.1))

pub returns : goal.returns
returns c = tag_entered c.args.t.now c.args.book.now c.requires.0 c.args.i c.requires.1 c.kind_of.ensures
