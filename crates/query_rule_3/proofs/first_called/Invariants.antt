-- Along the rows of kind k: the first of the name from here on is the first of all.
use Prim.Native.Nat.{◌-◌}
use Rattle.table_book.specs.Book.{part}
use Rattle.query_rule_3.proofs.CalledLaws.{Calling}
use Rattle.query_rule_3.proofs.first_called.Given as goal

abbrev pub invariant-loop-j : goal.invariant-loop-j
invariant-loop-j l = Calling l.s l.rows l.n l.k (part l.t l.at l.l) l.j

abbrev pub decreases-loop-j : goal.decreases-loop-j
decreases-loop-j l = l.n - l.j
