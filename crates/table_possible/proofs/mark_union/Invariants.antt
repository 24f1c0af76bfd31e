-- Member by member: each is one that the union has.
use Prim.Native.Nat.{◌-◌}
use Rattle.table_members.specs.Members.{members_in}
use Rattle.table_types.specs.Booked.{start_in, definition_on}
use Rattle.table_possible.specs.Possible.{Possible}
use Rattle.table_possible.proofs.NameLaws.{Inside}
use Rattle.table_possible.proofs.mark_union.Given as goal

abbrev pub invariant-loop-f : goal.invariant-loop-f
invariant-loop-f l = Possible l.t l.book l.bits × Inside (start_in l.book l.i) l.end l.m (definition_on l.t l.i).members (members_in l.t l.m l.end)

abbrev pub decreases-loop-f : goal.decreases-loop-f
decreases-loop-f l = l.end - l.m
