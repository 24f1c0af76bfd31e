-- A walk over a field's arguments.
use Prim.Native.Nat.{◌-◌}
use Rattle.paper_table.specs.Types.{table_of}
use Rattle.table_members.specs.Members.{arguments_in}
use Rattle.table_walks.proofs.Walked.{Walking}
use Rattle.table_walks.proofs.ArgumentLaws.{argument_faults}
use Rattle.table_walks.proofs.arguments_place.Given as goal

abbrev pub invariant-loop-f : goal.invariant-loop-f
invariant-loop-f l = Walking (argument_faults l.rule (table_of l.t) (arguments_in l.t l.start l.end) l.m) l.start l.end l.i l.a (arguments_in l.t l.start l.end) (arguments_in l.t l.i l.end)

abbrev pub decreases-loop-f : goal.decreases-loop-f
decreases-loop-f l = l.end - l.i
