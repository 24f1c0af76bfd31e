-- The lists are as long as there is room for the rows.
use mathlib.Core.Path.{sym}
use Rattle.query_rows.proofs.Rooms.{room_few, room_many}
use Rattle.query_judge.proofs.judge_entered.Goals as goal

pub judge_in-requires : goal.judge_in-requires
judge_in-requires c = let p = c.requires in (p.0, p.1, p.2, p.3, p.4, sym (room_few _ c.if-n-le-FEW_ROWS.true))

pub judge_in-requires-2 : goal.judge_in-requires-2
judge_in-requires-2 c = let p = c.requires in (p.0, p.1, p.2, p.3, p.4, sym (room_many _ c.if-n-le-FEW_ROWS.false))
