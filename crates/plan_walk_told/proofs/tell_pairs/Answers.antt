-- `tell_pairs` meets its contract.
use native.Mathlib.Omega.{arith}
use Rattle.plan_walk_told.proofs.ListedLaws.{told_many, told_few}
use Rattle.plan_walk_told.proofs.tell_pairs.Goals as goal

pub returns-then-n-gt-MOST_PAIRS : goal.returns-then-n-gt-MOST_PAIRS
returns-then-n-gt-MOST_PAIRS c = told_many _ _ _ c.if-n-gt-MOST_PAIRS.true c.tell.ensures

pub returns : goal.returns
returns c = told_few _ _ _ (omega (arith, c.if-n-gt-MOST_PAIRS.false)) c.tell-2.ensures
