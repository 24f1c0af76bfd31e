-- Two stores.
use native.Mathlib.Omega.{arith}
use Prim.Native.Nat.{◌+◌}
use lib.ListN.{get_or, length-set}
use Rattle.table_book.specs.Book.{cell_next, cell_head}
use Rattle.table_book.proofs.put_first.Goals as goal

pub bounds-book-h-2 : goal.bounds-book-h-2
bounds-book-h-2 c = omega (arith, c.requires.0, length-set c.args.book.now (cell_next + c.args.j) (get_or c.args.book.now (cell_head + c.args.h) 0))
