-- The member's name, then five stores.
use Rattle.table_listing.proofs.Listing.{entering_is}
use Rattle.table_listing.proofs.enter.Goals as goal

pub returns : goal.returns
returns c = let a = c.args in
    entering_is a.t.now a.book.now _ a.i a.tag a.start a.end _ _ c.member_name-m.ensures c.put_entry.ensures
