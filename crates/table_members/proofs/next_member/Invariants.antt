-- Field by field: the members from here on are all.
use Prim.Native.Nat.{◌-◌}
use Rattle.table_members.specs.Members.{members_in}
use Rattle.table_members.proofs.MemberLaws.{Walked}
use Rattle.table_members.proofs.next_member.Given as goal

abbrev pub invariant-loop-i : goal.invariant-loop-i
invariant-loop-i l = Walked l.at l.end l.i (members_in l.t l.at l.end) (members_in l.t l.i l.end)

abbrev pub decreases-loop-i : goal.decreases-loop-i
decreases-loop-i l = l.end - l.i
