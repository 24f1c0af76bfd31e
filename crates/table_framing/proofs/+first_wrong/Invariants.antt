-- Depth falls at each call; in a holder one field more is read at each turn, and what comes decides.
use Prim.Native.Nat.{◌-◌}
use Rattle.table_framing.proofs.WrongLaws.{Ordered}
use Rattle.table_framing.proofs.+first_wrong.Given as goal

abbrev pub decreases-first_wrong : goal.decreases-first_wrong
decreases-first_wrong l = l.depth

abbrev pub invariant-loop-i : goal.invariant-loop-i
invariant-loop-i l = Ordered l.t l.at l.tag l.end l.depth l.first l.second l.from l.to l.least l.i

abbrev pub decreases-loop-i : goal.decreases-loop-i
decreases-loop-i l = l.end - l.i
