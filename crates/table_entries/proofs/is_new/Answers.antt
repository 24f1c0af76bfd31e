-- The search before it ends at it.
use Rattle.table_entries.proofs.Finds.{here_stands, new_is}
use Rattle.table_entries.proofs.is_new.Goals as goal

pub find-x-requires : goal.find-x-requires
find-x-requires c = let a = c.args in
    let h = c.requires in
    (here_stands a.t.now a.book.now a.es.now a.from a.e h, rw (c.name_at.ensures, c.size_at.ensures) h.is.named.within)

pub returns : goal.returns
returns c = let a = c.args in
    new_is a.t.now a.book.now a.es.now a.from a.e _ _ _ c.name_at.ensures c.size_at.ensures c.find-x.ensures
