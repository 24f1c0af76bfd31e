-- `value_numbers::value_up_to` meets its contract: the value so far, gone on with the value_numbers left, is the value of all.
-- Assumes nothing.
use mathlib.Core.Path.{◌≡◌}
use Prim.Native.Nat.{◌≤◌}
use lib.ListN.{drop}
use Rattle.paper_values.specs.NumberTokens.{value_from, value_of}
use Rattle.value_numbers.proofs.value_up_to.Given as goal

abbrev pub invariant-loop-i : goal.invariant-loop-i
invariant-loop-i l = (value_from l.v (drop l.i l.s) ≡ value_of (drop l.from l.s)) × (l.v ≤ l.limit)
