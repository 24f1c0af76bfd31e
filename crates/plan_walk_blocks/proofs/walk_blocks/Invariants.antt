use mathlib.Core.Path.{◌≡◌}
use Prim.Native.Nat.{◌≤◌}
use lib.ListN.{length}
use Rattle.plan_walk_blocks.proofs.BlocksLaws.{Going}
use Rattle.plan_walk_blocks.proofs.walk_blocks.Given as goal

abbrev pub invariant-loop-j : goal.invariant-loop-j
invariant-loop-j l = (l.j ≤ length l.blocks) × Going l.p l.blocks l.vars l.fits l.met l.out l.j l.n × (length l.met ≡ length l.initial.met) × (length l.out ≡ length l.initial.out)
