-- `run::walk_block` meets its contract: what is left of the walk, from the state that the buffers hold, gives what the whole gives.
--
use Prim.Native.Nat.{◌-◌}
use Rattle.plan_walk_steps.proofs.Laws.{Going}
use Rattle.plan_walk_steps.proofs.walk_block.Given as goal

abbrev pub invariant-loop-i : goal.invariant-loop-i
invariant-loop-i l = Going l.p l.from l.end l.vars l.fits l.initial.met l.initial.out l.start l.met l.out l.i l.n

abbrev pub decreases-loop-i : goal.decreases-loop-i
decreases-loop-i l = l.end - l.i
