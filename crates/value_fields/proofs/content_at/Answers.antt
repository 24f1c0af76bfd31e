-- By the row's name.
use Rattle.query_rows.proofs.RowsIn.{rowed_sized, name_within}
use Rattle.query_inside.proofs.EnclosedLaws.{above_known}
use Rattle.value_fields.proofs.content_at.Goals as goal

pub name_of-at-requires : goal.name_of-at-requires
name_of-at-requires c = rowed_sized c.requires.2

pub size_of-size-requires : goal.size_of-size-requires
size_of-size-requires c = rowed_sized c.requires.2

pub content_in-requires : goal.content_in-requires
content_in-requires c = (c.requires.0, c.requires.1, above_known c.args.t.now c.args.s.now c.args.rows.now c.args.n c.requires.2 c.args.i c.args.above c.requires.3, rw (c.name_of-at.ensures, c.size_of-size.ensures) (name_within c.args.s.now c.args.rows.now c.args.n c.requires.2 c.args.i))

pub returns : goal.returns
returns c = rw (c.requires.3, ← c.name_of-at.ensures, ← c.size_of-size.ensures) c.content_in.ensures
