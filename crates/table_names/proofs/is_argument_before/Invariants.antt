-- A walk that counts over the arguments before.
use Rattle.table_book.specs.Book.{part}
use Rattle.table_members.specs.Members.{arguments_in}
use Rattle.table_names.proofs.CountedLaws.{Counting}
use Rattle.paper_table.specs.Types.{argument_named}
use Rattle.table_names.proofs.is_argument_before.Given as goal

abbrev pub invariant-loop : goal.invariant-loop
invariant-loop l = Counting (argument_named (part l.t l.at l.n)) l.from l.end l.i l.count l.counter (arguments_in l.t l.from l.end) (arguments_in l.t l.i l.end)
