-- The entries, their count, the links.
use Rattle.table_listing.proofs.Listing.{counted_held, listed_is}
use Rattle.table_listing.proofs.list_members.Goals as goal

pub link-requires : goal.link-requires
link-requires c = counted_held _ _ _ _ _ c.collect-n.ensures c.requires.few

pub returns : goal.returns
returns c = listed_is _ _ _ _ _ c.collect-n.ensures c.requires.few _ c.link.ensures
