use Rattle.plan_walk_blocks.proofs.GroupLaws.{Groups}
use Rattle.plan_walk_blocks.proofs.group.Given as goal

abbrev pub invariant-loop-i : goal.invariant-loop-i
invariant-loop-i l = Groups l.found l.n l.initial.out l.out l.m l.i
