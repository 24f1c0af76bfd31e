-- One record more at each turn, and what comes decides.
use Prim.Native.Nat.{◌-◌}
use lib.ListN.{length}
use Rattle.table_framing_quick.proofs.UsualLaws.{Tabled}
use Rattle.table_framing_quick.proofs.is_usual.Given as goal

abbrev pub invariant-loop-i : goal.invariant-loop-i
invariant-loop-i l = Tabled l.t l.roots l.left l.i

abbrev pub decreases-loop-i : goal.decreases-loop-i
decreases-loop-i l = length l.t - l.i
