-- The lists are as long as there is room for the rows.
use mathlib.Core.Path.{sym}
use native.Mathlib.Omega.{arith}
use Rattle.query_rows.proofs.Rooms.{room_few, room_many}
use Rattle.plan_making.proofs.make.Goals as goal

pub make_in-requires : goal.make_in-requires
make_in-requires c = (c.requires.0, c.requires.1, sym (room_few _ c.if-n-le-FEW_ROWS.true), omega (arith, c.if-n-le-FEW_ROWS.true), omega arith)

pub make_in-requires-2 : goal.make_in-requires-2
make_in-requires-2 c = (c.requires.0, c.requires.1, sym (room_many _ (omega (arith, c.if-n-le-FEW_ROWS.false))), omega (arith, c.requires.0.rowed.few), omega arith)
