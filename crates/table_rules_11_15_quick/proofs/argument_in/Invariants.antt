-- Argument by argument: what is found from here on is what is found of all, and its number grows with each.
use Prim.Native.Nat.{◌-◌}
use Rattle.paper_table.specs.Types.{argument_named}
use Rattle.table_book.specs.Book.{part}
use Rattle.table_members.specs.Members.{arguments_in}
use Rattle.table_rules_11_15_quick.proofs.NumberedLaws.{Passing}
use Rattle.table_rules_11_15_quick.proofs.argument_in.Given as goal

abbrev pub invariant-loop-f : goal.invariant-loop-f
invariant-loop-f l = Passing (argument_named (part l.s l.at l.n)) l.end l.i l.a (arguments_in l.t l.from l.end) (arguments_in l.t l.i l.end)

abbrev pub decreases-loop-f : goal.decreases-loop-f
decreases-loop-f l = l.end - l.i
