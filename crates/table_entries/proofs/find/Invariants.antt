-- What is found from here on is what is found of all.
use Prim.Native.Nat.{◌-◌}
use Rattle.table_book.specs.Book.{part}
use Rattle.table_entries.proofs.Looks.{Looking}
use Rattle.table_entries.proofs.find.Given as goal

abbrev pub invariant-loop-e : goal.invariant-loop-e
invariant-loop-e l = Looking l.t l.book l.es l.from l.end (part l.s l.at l.n) l.e

abbrev pub decreases-loop-e : goal.decreases-loop-e
decreases-loop-e l = l.end - l.e
