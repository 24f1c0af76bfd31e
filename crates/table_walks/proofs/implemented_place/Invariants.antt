-- A walk over the implemented names.
use Prim.Native.Nat.{◌-◌}
use Rattle.paper_table.specs.Types.{table_of}
use Rattle.table_members.specs.Members.{implemented_in}
use Rattle.table_walks.proofs.Walked.{Walking}
use Rattle.table_walks.specs.Walks.{name_at}
use Rattle.table_walks.proofs.implemented_place.Given as goal

abbrev pub invariant-loop-f : goal.invariant-loop-f
invariant-loop-f l = Walking (name_at l.rule (table_of l.t) (implemented_in l.t l.from l.end)) l.from l.end l.i l.m (implemented_in l.t l.from l.end) (implemented_in l.t l.i l.end)

abbrev pub decreases-loop-f : goal.decreases-loop-f
decreases-loop-f l = l.end - l.i
