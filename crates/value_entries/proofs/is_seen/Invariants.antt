-- Child by child, up to row c.
use mathlib.Core.Path.{◌≡◌}
use mathlib.Core.Bool.{false}
use Prim.Native.Nat.{◌-◌, ◌+◌}
use Rattle.paper.specs.Tokens.{same}
use Rattle.paper_table.specs.Lists.{any_of}
use Rattle.paper_query.specs.Constructs.{name_of}
use Rattle.query_rows.specs.Rowed.{doc_of}
use Rattle.value_entries.specs.Entered.{names_before}
use Rattle.value_entries.proofs.ChildLaws.{Stands}
use Rattle.value_entries.proofs.is_seen.Given as goal

abbrev pub invariant-loop-j : goal.invariant-loop-j
invariant-loop-j l = Stands (doc_of l.s l.rows l.n) l.h l.n l.j × (any_of (same (name_of (doc_of l.s l.rows l.n) l.c)) (names_before (doc_of l.s l.rows l.n) l.kind l.h (l.j - (l.h + 1))) ≡ false)

abbrev pub decreases-loop-j : goal.decreases-loop-j
decreases-loop-j l = l.n - l.j
