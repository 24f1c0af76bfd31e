-- Argument by argument: what is found from here on is what is found from the start.
use Prim.Native.Nat.{◌-◌}
use Rattle.paper_table.specs.Lists.{find}
use Rattle.paper_table.specs.Types.{argument_named}
use Rattle.table_book.specs.Book.{part}
use Rattle.table_members.specs.Members.{arguments_in}
use Rattle.table_members.proofs.FindLaws.{Sought}
use Rattle.table_members.proofs.find_argument.Given as goal

abbrev pub invariant-loop-f : goal.invariant-loop-f
invariant-loop-f l = Sought l.from l.end l.i (find (argument_named (part l.s l.at l.n)) (arguments_in l.t l.from l.end)) (find (argument_named (part l.s l.at l.n)) (arguments_in l.t l.i l.end))

abbrev pub decreases-loop-f : goal.decreases-loop-f
decreases-loop-f l = l.end - l.i
