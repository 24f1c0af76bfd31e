use native.Mathlib.Omega.{arith}
use lib.ListN.{length-set}
use Rattle.plan_tests.proofs.RowLaws.{test_is}
use Rattle.plan_tests.proofs.put_test.Goals as goal

pub bounds-row-m-2 : goal.bounds-row-m-2
bounds-row-m-2 c = simp length-set (omega arith)

pub returns : goal.returns
returns c = test_is c.args.row.now c.args.m c.args.kind c.args.number
