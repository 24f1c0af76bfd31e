-- Child by child.
use mathlib.Core.Path.{◌≡◌}
use Prim.Native.Nat.{◌-◌, ◌+◌}
use Rattle.table_book.specs.Book.{part}
use Rattle.query_rows.specs.Rowed.{doc_of}
use Rattle.value_entries.specs.Entered.{entry_at}
use Rattle.value_entries.proofs.ChildLaws.{Stands}
use Rattle.value_entries.proofs.find_entry.Given as goal

abbrev pub invariant-loop-c : goal.invariant-loop-c
invariant-loop-c l = Stands (doc_of l.s l.rows l.n) l.h l.n l.c × (entry_at (doc_of l.s l.rows l.n) l.kind l.h (part l.t l.at l.l) (l.n - (l.h + 1)) (l.h + 1) ≡ entry_at (doc_of l.s l.rows l.n) l.kind l.h (part l.t l.at l.l) (l.n - l.c) l.c)

abbrev pub decreases-loop-c : goal.decreases-loop-c
decreases-loop-c l = l.n - l.c
