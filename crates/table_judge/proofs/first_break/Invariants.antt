-- A walk over the definitions.
use mathlib.Core.Path.{◌≡◌}
use lib.ListN.{length}
use Rattle.paper_table.specs.Types.{table_of}
use Rattle.table_book.specs.Book.{book_size}
use Rattle.table_judge.proofs.BreakLaws.{InOrder}
use Rattle.table_judge.proofs.first_break.Given as goal

abbrev pub invariant-loop-i : goal.invariant-loop-i
invariant-loop-i l = InOrder (table_of l.t) l.i × (length l.listed ≡ book_size)
