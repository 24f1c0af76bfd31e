-- From the last entry to the first: those from j on are linked.
use Rattle.table_book.proofs.Linking.{Linking}
use Rattle.table_book.proofs.link_by.Given as goal

abbrev pub invariant-loop-j : goal.invariant-loop-j
invariant-loop-j l = Linking l.t l.initial.book l.book l.j
