-- Byte by byte: what is left of the name, hashed from here, gives the whole.
use mathlib.Core.Path.{◌≡◌}
use Prim.Native.Nat.{◌<◌}
use lib.ListN.{drop}
use Rattle.table_book.specs.Book.{part, hash_limit, hash_from}
use Rattle.table_book.proofs.mixed.Given as goal

abbrev pub invariant-loop-b : goal.invariant-loop-b
invariant-loop-b l = (hash_from l.m l.h (drop l.b-index l.b-items) ≡ hash_from l.m 0 (part l.s l.at l.n)) × (l.h < hash_limit)
