-- The bytes of the name of row i.
use Rattle.query_rows.proofs.RowsIn.{rowed_sized, name_within}
use Rattle.value_held.proofs.held_at.Goals as goal

pub name_of-at-requires : goal.name_of-at-requires
name_of-at-requires c = rowed_sized c.requires.0

pub size_of-l-requires : goal.size_of-l-requires
size_of-l-requires c = rowed_sized c.requires.0

pub find_held-requires : goal.find_held-requires
find_held-requires c = let a = c.args in (c.requires.1, rw (c.name_of-at.ensures, c.size_of-l.ensures) (name_within a.s.now a.rows.now a.n c.requires.0 a.i))

pub returns : goal.returns
returns c = rw (← c.name_of-at.ensures, ← c.size_of-l.ensures) c.find_held.ensures
