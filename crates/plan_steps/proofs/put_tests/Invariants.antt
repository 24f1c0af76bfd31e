-- After j turns, j tests are written.
use mathlib.Core.Path.{◌≡◌}
use Prim.Native.Nat.{◌+◌, ◌*◌, ◌≤◌}
use lib.ListN.{length}
use lib.Seq.{sets}
use Rattle.plan_steps.specs.Table.{flat_raw, raw_tests}
use Rattle.plan_steps.proofs.put_tests.Given as goal

abbrev pub invariant-loop-j : goal.invariant-loop-j
invariant-loop-j l = (l.p ≡ sets l.initial.p (2050 + 3 * l.at) (flat_raw (raw_tests l.t l.from l.j l.end))) × (l.j ≤ l.m) × (length l.p ≡ length l.initial.p)
