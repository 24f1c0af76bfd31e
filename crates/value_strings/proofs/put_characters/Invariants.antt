-- `value_strings::put_characters` meets its contract: before place i the characters before it are written.
use Prim.Native.Nat.{◌-◌}
use lib.ListN.{length}
use Rattle.value_strings.proofs.SpellingTurn.{Going}
use Rattle.value_strings.proofs.put_characters.Given as goal

abbrev pub invariant-loop-i : goal.invariant-loop-i
invariant-loop-i l = Going l.limit l.from l.s l.initial.out l.out l.at l.i

abbrev pub decreases-loop-i : goal.decreases-loop-i
decreases-loop-i l = length l.s - l.i
