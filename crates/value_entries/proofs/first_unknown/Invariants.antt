-- Child by child.
use mathlib.Core.Path.{◌≡◌}
use Prim.Native.Nat.{ℕ, ◌-◌, ◌+◌}
use Rattle.query_rows.specs.Rowed.{doc_of}
use Rattle.paper_values.specs.Values.{Value}
use Rattle.paper_values.specs.Coercion.{heads, unknown_entry}
use Rattle.paper_values.specs.RowValues.{entries_from}
use Rattle.value_entries.specs.Entered.{dues_by}
use Rattle.value_entries.proofs.ChildLaws.{Stands}
use Rattle.value_entries.proofs.first_unknown.Given as goal

abbrev pub invariant-loop-c : goal.invariant-loop-c
invariant-loop-c l = Stands (doc_of l.s l.rows l.n) l.h l.n l.c × ((text : ℕ) (read : ℕ → Value) → unknown_entry (dues_by l.kind l.t l.start l.end) (heads (entries_from text (doc_of l.s l.rows l.n) read l.kind l.h (l.n - (l.h + 1)) (l.h + 1))) ≡ unknown_entry (dues_by l.kind l.t l.start l.end) (heads (entries_from text (doc_of l.s l.rows l.n) read l.kind l.h (l.n - l.c) l.c)))

abbrev pub decreases-loop-c : goal.decreases-loop-c
decreases-loop-c l = l.n - l.c
