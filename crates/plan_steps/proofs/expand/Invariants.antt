-- The planner's second pass: each row gives its steps, or opens the level behind it; the chain leads to the next row below the holder, and where it ends
-- the tests of the row that was open are written.
use mathlib.Core.Path.{◌≡◌}
use lib.ListN.{length}
use Rattle.plan_steps.proofs.Levels.{Going}
use Rattle.plan_steps.proofs.Turns.{turns}
use Rattle.plan_steps.proofs.expand.Given as goal

abbrev pub invariant-loop-c : goal.invariant-loop-c
invariant-loop-c l = Going l.t l.n l.holder l.k l.from l.initial.p l.rows l.steps l.p l.d l.h l.at l.c × (length l.rows ≡ length l.initial.rows) × (length l.steps ≡ length l.initial.steps)

abbrev pub decreases-loop-c : goal.decreases-loop-c
decreases-loop-c l = turns l.n l.k l.rows l.d l.c
