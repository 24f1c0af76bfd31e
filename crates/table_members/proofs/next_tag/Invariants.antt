-- Field by field: the first of the tag from here on is the first of all.
use Prim.Native.Nat.{◌-◌}
use Rattle.table_members.specs.Members.{fields_in, from_tag}
use Rattle.table_members.proofs.MemberLaws.{Walked}
use Rattle.table_members.proofs.next_tag.Given as goal

abbrev pub invariant-loop-i : goal.invariant-loop-i
invariant-loop-i l = Walked l.at l.end l.i (from_tag l.tag (fields_in l.t l.at l.end)) (from_tag l.tag (fields_in l.t l.i l.end))

abbrev pub decreases-loop-i : goal.decreases-loop-i
decreases-loop-i l = l.end - l.i
