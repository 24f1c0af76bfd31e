-- Name by name: each is one that the object implements.
use Prim.Native.Nat.{◌-◌}
use Rattle.table_members.specs.Members.{implemented_in}
use Rattle.table_types.specs.Booked.{start_in, definition_on}
use Rattle.table_possible.specs.Possible.{Possible}
use Rattle.table_possible.proofs.NameLaws.{Inside}
use Rattle.table_possible.proofs.mark_object.Given as goal

abbrev pub invariant-loop-f : goal.invariant-loop-f
invariant-loop-f l = Possible l.t l.book l.bits × Inside (start_in l.book l.j) l.end l.i (definition_on l.t l.j).implements (implemented_in l.t l.i l.end)

abbrev pub decreases-loop-f : goal.decreases-loop-f
decreases-loop-f l = l.end - l.i
