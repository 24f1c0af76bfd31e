use mathlib.Core.Path.{◌≡◌}
use mathlib.Core.List.{◌∷◌}
use lib.ListN.{length, take}
use Rattle.plan_writing.specs.Writing.{Going}
use Rattle.plan_writing.proofs.write_blocks.Given as goal

abbrev pub invariant-loop-b : goal.invariant-loop-b
invariant-loop-b l = Going l.cells l.n (l.o ∷ take l.m l.out) l.plan l.at l.b × (length l.opened ≡ length l.initial.opened) × (length l.begun ≡ length l.initial.begun)
