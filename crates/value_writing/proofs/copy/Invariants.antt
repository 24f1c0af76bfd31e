-- `value_writing::copy` meets its contract: after j turns, j bytes are copied.
use mathlib.Core.Path.{◌≡◌}
use lib.ListN.{length, take}
use lib.Seq.{sets}
use Rattle.value_writing.proofs.copy.Given as goal

abbrev pub invariant-loop-j : goal.invariant-loop-j
invariant-loop-j l = (l.out ≡ sets l.initial.out l.from (take l.j l.s)) × (length l.out ≡ length l.initial.out)
