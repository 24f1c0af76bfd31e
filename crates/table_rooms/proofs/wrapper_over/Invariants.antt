-- One byte more at each turn, and what comes decides.
use Rattle.table_rooms.proofs.RoomLaws.{Wrapping}
use Rattle.table_rooms.proofs.wrapper_over.Given as goal

abbrev pub invariant-loop-i : goal.invariant-loop-i
invariant-loop-i l = Wrapping l.t l.start l.end l.left l.i
