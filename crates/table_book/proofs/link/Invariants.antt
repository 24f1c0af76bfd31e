-- However often it is linked, it is linked.
use Prim.Native.Nat.{◌<◌}
use Rattle.table_book.specs.Book.{Linked}
use Rattle.table_book.proofs.link.Given as goal

abbrev pub invariant-loop : goal.invariant-loop
invariant-loop l = Linked l.t l.initial.book l.book × (l.seed < 256)
