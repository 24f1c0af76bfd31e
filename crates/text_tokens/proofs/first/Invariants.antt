-- `text_tokens::first` meets its contract: what the loop has passed over changes nothing, and what stands behind it is told by its first byte.
use mathlib.Core.Path.{◌≡◌}
use Prim.Native.Nat.{◌-◌, ◌≤◌}
use lib.ListN.{length}
use Rattle.paper.proofs.Lexing.{from as tokens_from}
use Rattle.text_tokens.proofs.first.Given as goal

abbrev pub invariant-loop-i : goal.invariant-loop-i
invariant-loop-i l = (l.i ≤ length l.s) × (tokens_from l.s l.from ≡ tokens_from l.s l.i)

abbrev pub decreases-loop-i : goal.decreases-loop-i
decreases-loop-i l = length l.s - l.i
