-- What it is to keep to the sizes.
use mathlib.Core.Path.{◌≡◌, subst}
use Prim.Native.Nat.{ℕ, ◌≤◌}
use Rattle.std.specs.Prelude.{Result, Ok}
use Rattle.paper.specs.Numbers.{rows_size, most_text}
use Rattle.paper.specs.declared.Refusal.{Refusal}
use Rattle.paper_table.specs.TableNumbers.{most_table}
use Rattle.call_buffers.specs.Buffers.{Sized}

pub sizes_kept : {rows document table : ℕ} {s : Result (Unit {0}) Refusal} {u : Unit {0}} → Sized rows document table s → s ≡ Ok u → (rows_size ≤ rows) × (document ≤ most_text) × (table ≤ most_table)
sizes_kept {rows} {document} {table} a q = subst (Sized rows document table) q a
