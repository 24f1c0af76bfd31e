-- `string_end`: at each turn whole characters and escapes lie behind, and the text holds them.
use Prim.Native.Nat.{◌≤◌, ◌-◌}
use lib.ListN.{length}
use Rattle.text_scan.specs.Parts.{Runs, part_size}
use Rattle.text_scan.proofs.string_end.Given as goal

abbrev pub invariant-loop-i : goal.invariant-loop-i
invariant-loop-i l = Runs part_size l.s l.from l.i × (l.i ≤ length l.s)

abbrev pub decreases-loop-i : goal.decreases-loop-i
decreases-loop-i l = length l.s - l.i
