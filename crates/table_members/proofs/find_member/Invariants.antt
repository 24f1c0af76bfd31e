-- Member by member: what is found from here on is what is found from the start.
use Prim.Native.Nat.{◌-◌}
use Rattle.paper_table.specs.Lists.{find}
use Rattle.paper_table.specs.Types.{member_named}
use Rattle.table_book.specs.Book.{part}
use Rattle.table_members.specs.Members.{members_in}
use Rattle.table_members.proofs.FindLaws.{Sought}
use Rattle.table_members.proofs.find_member.Given as goal

abbrev pub invariant-loop-f : goal.invariant-loop-f
invariant-loop-f l = Sought l.from l.end l.i (find (member_named (part l.s l.at l.n)) (members_in l.t l.from l.end)) (find (member_named (part l.s l.at l.n)) (members_in l.t l.i l.end))

abbrev pub decreases-loop-f : goal.decreases-loop-f
decreases-loop-f l = l.end - l.i
