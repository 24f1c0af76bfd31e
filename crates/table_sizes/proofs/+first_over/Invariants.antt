-- Depth falls at each call; in a holder one field more is read at each turn, and what comes decides.
use Prim.Native.Nat.{◌-◌}
use Rattle.table_sizes.proofs.CountLaws.{Counting}
use Rattle.table_sizes.proofs.+first_over.Given as goal

abbrev pub decreases-first_over : goal.decreases-first_over
decreases-first_over l = l.depth

abbrev pub invariant-loop-i : goal.invariant-loop-i
invariant-loop-i l = Counting l.t l.at l.tag l.end l.depth l.names l.rest l.i

abbrev pub decreases-loop-i : goal.decreases-loop-i
decreases-loop-i l = l.end - l.i
