-- One argument more at each turn, and the rest decides.
use Prim.Native.Nat.{◌-◌}
use Rattle.table_framing_quick_types.proofs.FineLaws.{Usual}
use Rattle.table_framing_quick_types.proofs.is_usual_field.Given as goal

abbrev pub invariant-loop-i : goal.invariant-loop-i
invariant-loop-i l = Usual l.t l.at l.end l.left l.i

abbrev pub decreases-loop-i : goal.decreases-loop-i
decreases-loop-i l = l.end - l.i
