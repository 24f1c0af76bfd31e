-- The other name is a part of the same text.
use Rattle.query_rows.proofs.RowsIn.{rowed_sized, name_within}
use Rattle.query_rows.proofs.same_names.Goals as goal

pub name_of-requires : goal.name_of-requires
name_of-requires c = rowed_sized c.requires

pub size_of-requires : goal.size_of-requires
size_of-requires c = rowed_sized c.requires

pub is_called-requires : goal.is_called-requires
is_called-requires c = (c.requires, rw (c.name_of.ensures, c.size_of.ensures) (name_within c.args.s.now c.args.rows.now c.args.n c.requires c.args.j))

pub returns : goal.returns
returns c = rw (← c.name_of.ensures, ← c.size_of.ensures) c.is_called.ensures
