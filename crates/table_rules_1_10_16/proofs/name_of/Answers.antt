-- The entry's name.
use native.Mathlib.Omega.{arith}
use Rattle.table_types.proofs.Entries.{name_entered}
use Rattle.table_rules_1_10_16.proofs.name_of.Goals as goal

pub name_of-requires : goal.name_of-requires
name_of-requires c = (c.requires.0.indexed.held.cells, omega (arith, c.requires.0.indexed.held.most, c.requires.1))

pub size_of-requires : goal.size_of-requires
size_of-requires c = (c.requires.0.indexed.held.cells, omega (arith, c.requires.0.indexed.held.most, c.requires.1))

pub returns : goal.returns
returns c = name_entered c.args.t.now c.args.book.now c.requires.0 c.args.i c.requires.1 _ _ c.name_of.ensures c.size_of.ensures
