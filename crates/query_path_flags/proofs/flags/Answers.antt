-- The lists are as long as there is room for the rows.
use mathlib.Core.Path.{sym}
use Rattle.query_rows.proofs.Rooms.{room_few, room_many}
use Rattle.query_path_flags.proofs.flags.Goals as goal

pub flag_in-requires : goal.flag_in-requires
flag_in-requires c = let p = c.requires in
    (p.0, p.1, p.2, p.3, p.4, p.5, sym (room_few _ c.if-n-le-FEW_ROWS.true))

pub flag_in-requires-2 : goal.flag_in-requires-2
flag_in-requires-2 c = let p = c.requires in
    (p.0, p.1, p.2, p.3, p.4, p.5, sym (room_many _ c.if-n-le-FEW_ROWS.false))
