-- The highest bits of the hash.
use mathlib.Core.Path.{ap}
use Prim.Native.Nat.{ℕ, ◌/◌}
use native.Mathlib.Omega.{arith}
use Rattle.plan_keys.proofs.hash.Goals as goal

pub returns : goal.returns
returns c = (ap (λ (x : ℕ). x / 1048576) c.mixed.ensures.0, omega (arith, c.mixed.ensures.1))
