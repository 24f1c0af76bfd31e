-- One field more at each turn, and what comes decides.
use Prim.Native.Nat.{◌-◌}
use Rattle.table_framing_quick.proofs.UsualLaws.{Going}
use Rattle.table_framing_quick.proofs.are_usual_members.Given as goal

abbrev pub invariant-loop-i : goal.invariant-loop-i
invariant-loop-i l = Going l.t l.at l.tag l.end l.first l.from l.to l.least l.names l.rest l.i

abbrev pub decreases-loop-i : goal.decreases-loop-i
decreases-loop-i l = l.end - l.i
