-- Argument by argument: if the rest is kept, all is.
use Prim.Native.Nat.{◌-◌}
use Rattle.table_members.specs.Members.{arguments_in}
use Rattle.table_rules_11_15_quick.proofs.KeepingLaws.{Extras}
use Rattle.table_rules_11_15_quick.proofs.are_extras_kept.Given as goal

abbrev pub invariant-loop-f : goal.invariant-loop-f
invariant-loop-f l = Extras l.marks l.stop l.i l.k (arguments_in l.t l.from l.stop) (arguments_in l.t l.i l.stop)

abbrev pub decreases-loop-f : goal.decreases-loop-f
decreases-loop-f l = l.stop - l.i
