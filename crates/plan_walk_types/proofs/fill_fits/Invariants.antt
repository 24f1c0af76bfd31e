-- Byte by byte.
use Prim.Native.Nat.{◌≤◌}
use Rattle.paper_table.specs.Types.{table_of}
use Rattle.table_book.specs.Book.{room}
use Rattle.plan_walk_types.specs.Fits.{FitsTo}
use Rattle.plan_walk_types.proofs.fill_fits.Given as goal

abbrev pub invariant-loop-k : goal.invariant-loop-k
invariant-loop-k l = FitsTo (table_of l.t) l.o l.fits l.k × (l.k ≤ room)
