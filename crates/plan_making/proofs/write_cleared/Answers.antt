use mathlib.Core.Path.{◌≡◌, ap, ◌∙◌}
use Prim.Native.Nat.{ℕ, ◌-◌}
use native.Mathlib.Omega.{arith}
use lib.ListN.{length, replicate}
use Rattle.paper_plan.specs.PlanNumbers.{plan_size}
use Rattle.plan_making.proofs.write_cleared.Goals as goal

pub clear-requires : goal.clear-requires
clear-requires c = omega arith

pub write_plan-requires : goal.write_plan-requires
write_plan-requires c = let z : length c.args.plan.now - 0 ≡ plan_size = omega (arith, c.requires.2) in (c.requires.0, c.requires.1, c.clear.ensures ∙ ap (λ (k : ℕ). replicate k 0) z, c.requires.3, c.requires.4)

pub returns : goal.returns
returns c = c.write_plan.ensures
