-- A walk over the members.
use Prim.Native.Nat.{◌-◌}
use Rattle.paper_table.specs.Types.{table_of}
use Rattle.table_members.specs.Members.{members_in}
use Rattle.table_walks.proofs.Walked.{Walking}
use Rattle.table_walks.specs.Walks.{member_and_arguments_at}
use Rattle.table_walks.proofs.members_place.Given as goal

abbrev pub invariant-loop-f : goal.invariant-loop-f
invariant-loop-f l = Walking (member_and_arguments_at l.rule (table_of l.t) (members_in l.t l.from l.end)) l.from l.end l.i l.m (members_in l.t l.from l.end) (members_in l.t l.i l.end)

abbrev pub decreases-loop-f : goal.decreases-loop-f
decreases-loop-f l = l.end - l.i
