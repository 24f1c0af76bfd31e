-- `vectors_plan::fill_wanted` ends and is safe: each turn takes the next number.
use mathlib.Core.Path.{◌≡◌}
use Prim.Native.Nat.{◌*◌, ◌-◌, ◌≤◌}
use lib.ListN.{length}
use Rattle.vectors_plan.proofs.fill_wanted.Given as goal

abbrev pub invariant-loop-i : goal.invariant-loop-i
invariant-loop-i l = (length l.wanted ≡ length l.initial.wanted) × (4 * l.i-end ≤ length l.entries)

abbrev pub decreases-loop-i : goal.decreases-loop-i
decreases-loop-i l = l.i-end - l.i
