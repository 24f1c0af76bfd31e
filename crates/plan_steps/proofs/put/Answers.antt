-- `run::put` meets its contract.
use native.Mathlib.Omega.{arith}
use lib.ListN.{length-set}
use Rattle.plan_steps.proofs.Writes.{put_is}
use Rattle.plan_steps.proofs.put.Goals as goal

pub bounds-p-at-2 : goal.bounds-p-at-2
bounds-p-at-2 c = simp length-set (omega arith)

pub bounds-p-at-3 : goal.bounds-p-at-3
bounds-p-at-3 c = simp length-set (omega arith)

pub returns : goal.returns
returns c = put_is c.args.p.now c.args.at c.args.kind c.args.first c.args.second
