-- The lists are as long as there is room for the rows.
use mathlib.Core.Path.{sym}
use Rattle.query_rows.proofs.Rooms.{room_few, room_many}
use Rattle.value_fields.proofs.content_of.Goals as goal

pub content_sized-requires : goal.content_sized-requires
content_sized-requires c = let p = c.requires in (p.0, p.1, p.2, sym (room_few _ c.if-n-le-FEW_ROWS.true))

pub content_sized-requires-2 : goal.content_sized-requires-2
content_sized-requires-2 c = let p = c.requires in (p.0, p.1, p.2, sym (room_many _ c.if-n-le-FEW_ROWS.false))
