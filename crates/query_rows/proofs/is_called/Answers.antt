-- A name's bytes are a part of the text; those of a row that is not there are none.
use Rattle.query_rows.proofs.RowsIn.{rowed_sized, name_within}
use Rattle.query_rows.proofs.is_called.Goals as goal

pub name_of-requires : goal.name_of-requires
name_of-requires c = rowed_sized c.requires.0

pub size_of-requires : goal.size_of-requires
size_of-requires c = rowed_sized c.requires.0

pub is_text-requires : goal.is_text-requires
is_text-requires c = (rw (c.name_of.ensures, c.size_of.ensures) (name_within c.args.s.now c.args.rows.now c.args.n c.requires.0 c.args.i), c.requires.1)

pub returns : goal.returns
returns c = rw (← c.name_of.ensures, ← c.size_of.ensures) c.is_text.ensures
