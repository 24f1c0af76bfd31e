-- The lists are as long as there is room for the rows.
use mathlib.Core.Path.{sym}
use Rattle.query_rows.proofs.Rooms.{room_few, room_many}
use Rattle.value_fields.proofs.is_reached.Goals as goal

pub reach_in-requires : goal.reach_in-requires
reach_in-requires c = let p = c.requires in (p.0, p.1, p.2, sym (room_few _ c.if-n-le-FEW_ROWS.true))

pub reach_in-requires-2 : goal.reach_in-requires-2
reach_in-requires-2 c = let p = c.requires in (p.0, p.1, p.2, sym (room_many _ c.if-n-le-FEW_ROWS.false))
