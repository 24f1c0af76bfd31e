-- The row's owner is the operation, or the search tells.
use mathlib.Core.Path.{sym, ◌∙◌}
use Rattle.query_rows.proofs.Rooms.{room_at}
use Rattle.value_fields.proofs.ReachLaws.{owner_reaches}
use Rattle.value_fields.proofs.reach_with.Goals as goal

pub link_of-requires : goal.link_of-requires
link_of-requires c = let p = c.requires in
    room_at _ _ _ c.owners.ensures.size p.0.few p.10

pub returns-then-link_of-op : goal.returns-then-link_of-op
returns-then-link_of-op c = let p = c.requires in
    owner_reaches _ _ _ _ c.owners.ensures p.9 _ p.10 (sym c.link_of.ensures ∙ c.if-link_of-op.true)

pub search_spreads-requires : goal.search_spreads-requires
search_spreads-requires c = let p = c.requires in
    (p.0, c.owners.ensures, p.2, p.3, p.4, p.5, p.6, p.7, p.8, p.9, p.10)
