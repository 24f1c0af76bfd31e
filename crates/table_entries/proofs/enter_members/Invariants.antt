-- What is entered so far, and what is left, are the members.
use Prim.Native.Nat.{◌-◌, ◌≤◌}
use Rattle.table_members.specs.Members.{members_in}
use Rattle.table_entries.specs.Entries.{entries_of, MemberEntry}
use Rattle.table_entries.proofs.Writes.{Filling}
use Rattle.table_entries.proofs.enter_members.Given as goal

abbrev pub invariant-loop-f : goal.invariant-loop-f
invariant-loop-f l = (l.i ≤ l.end) × Filling (MemberEntry l.t l.book) entries_of l.initial.es l.es l.e l.k (members_in l.t l.from l.end) (members_in l.t l.i l.end)

abbrev pub decreases-loop-f : goal.decreases-loop-f
decreases-loop-f l = l.end - l.i
