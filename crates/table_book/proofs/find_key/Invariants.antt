-- Along the chain of the name's bucket: the first from here on is the first of all.
use Prim.Native.Nat.{◌-◌, ◌≤◌}
use Rattle.table_book.specs.Book.{part, keys_of, count_in, seed_in, hash_of}
use Rattle.table_book.proofs.Chained.{Sought}
use Rattle.table_book.proofs.find_key.Given as goal

abbrev pub invariant-loop-k : goal.invariant-loop-k
invariant-loop-k l = Sought (hash_of (seed_in l.book)) (keys_of l.t l.book) l.low l.high (part l.s l.at l.n) l.h l.k × (l.k ≤ count_in l.book)

abbrev pub decreases-loop-k : goal.decreases-loop-k
decreases-loop-k l = count_in l.book - l.k
