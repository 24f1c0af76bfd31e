-- Argument by argument: those before are kept, and marked among the own field's.
use Prim.Native.Nat.{◌-◌}
use Rattle.table_members.specs.Members.{arguments_in}
use Rattle.table_rules_11_15_quick.proofs.KeepingLaws.{Matching}
use Rattle.table_rules_11_15_quick.proofs.are_arguments_kept.Given as goal

abbrev pub invariant-loop-f : goal.invariant-loop-f
invariant-loop-f l = Matching (arguments_in l.t l.from l.stop) l.at l.end l.i l.marks (arguments_in l.t l.at l.end) (arguments_in l.t l.i l.end)

abbrev pub decreases-loop-f : goal.decreases-loop-f
decreases-loop-f l = l.end - l.i
