use Rattle.plan_walk_blocks.proofs.GroupLaws.{Emits}
use Rattle.plan_walk_blocks.proofs.emit.Given as goal

abbrev pub invariant-loop-j : goal.invariant-loop-j
invariant-loop-j l = Emits l.found l.i l.n l.key l.initial.out l.m l.out l.k l.j
