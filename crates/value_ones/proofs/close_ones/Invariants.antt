-- `value_ones::close_ones` meets its contract: before each turn the heads from number j on are put.
use mathlib.Core.Path.{◌≡◌}
use mathlib.Core.List.{List}
use Prim.Native.Nat.{ℕ, ◌+◌, ◌-◌, ◌*◌, ◌≤◌}
use lib.ListN.{length}
use Rattle.paper_values.specs.Values.{Tree, Out}
use Rattle.value_writing.specs.Writing.{place_of}
use Rattle.value_kinds.specs.Dues.{Told}
use Rattle.std.proofs.Common.{Ok}
use Rattle.value_ones.specs.Ones.{ones}
use Rattle.value_ones.proofs.close_ones.Given as goal

abbrev pub invariant-loop-j : goal.invariant-loop-j
invariant-loop-j l = (l.j ≤ l.m) × (l.e ≤ l.limit + 1) × (l.e ≤ l.limit → l.from + 3 * l.j ≤ l.e) × (length l.out ≡ l.limit) ×
    ((text : ℕ) (o : Out Tree) (p : List ℕ) → Told text l.limit o (place_of l.limit (l.from + 3 * l.m)) p l.initial.out (Ok l.at) → Told text l.limit (ones (l.m - l.j) o) (place_of l.limit (l.from + 3 * l.j)) p l.out (Ok l.e))
