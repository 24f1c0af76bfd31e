-- From row to row below row v, each over its own subtree.
use Prim.Native.Nat.{◌-◌}
use Rattle.value_definitions.specs.Definitions.{is_declared}
use Rattle.value_definitions.proofs.SeekLaws.{Seeks}
use Rattle.value_definitions.proofs.first_declared.Given as goal

abbrev pub invariant-loop-j : goal.invariant-loop-j
invariant-loop-j l = Seeks (is_declared l.v) l.v l.rows l.n l.j

abbrev pub decreases-loop-j : goal.decreases-loop-j
decreases-loop-j l = l.n - l.j
