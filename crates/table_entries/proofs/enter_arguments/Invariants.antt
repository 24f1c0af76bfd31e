-- What is entered so far, and what is left, are the arguments.
use Prim.Native.Nat.{◌-◌, ◌≤◌}
use lib.ListN.{length}
use Rattle.table_members.specs.Members.{arguments_in}
use Rattle.table_entries.specs.Entries.{ArgumentEntry}
use Rattle.table_entries.proofs.Writes.{Filling}
use Rattle.table_entries.proofs.enter_arguments.Given as goal

abbrev pub invariant-loop-f : goal.invariant-loop-f
invariant-loop-f l = (l.i ≤ l.end) × Filling (ArgumentEntry l.t l.book) length l.initial.es l.es l.e l.k (arguments_in l.t l.from l.end) (arguments_in l.t l.i l.end)

abbrev pub decreases-loop-f : goal.decreases-loop-f
decreases-loop-f l = l.end - l.i
