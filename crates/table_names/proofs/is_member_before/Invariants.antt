-- A walk that counts over the members before.
use Rattle.table_book.specs.Book.{part}
use Rattle.table_members.specs.Members.{members_in}
use Rattle.table_names.proofs.CountedLaws.{Counting}
use Rattle.paper_table.specs.Types.{member_named}
use Rattle.table_names.proofs.is_member_before.Given as goal

abbrev pub invariant-loop : goal.invariant-loop
invariant-loop l = Counting (member_named (part l.t l.at l.n)) l.from l.end l.i l.count l.counter (members_in l.t l.from l.end) (members_in l.t l.i l.end)
