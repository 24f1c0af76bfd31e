-- The entries, their count, the links.
use Rattle.table_types.proofs.Recording.{counted_held, booked_is}
use Rattle.table_types.proofs.fill.Goals as goal

pub link-requires : goal.link-requires
link-requires c = counted_held _ _ _ c.records-n.ensures c.requires.few

pub returns : goal.returns
returns c = booked_is _ _ _ c.records-n.ensures c.requires.few _ c.link.ensures c.requires.short
