use Rattle.plan_endings.proofs.EndLaws.{sized_short, sized_rest}
use Rattle.plan_endings.proofs.sizes_met.Goals as goal

pub returns-then-plan-lt-PLAN_SIZE : goal.returns-then-plan-lt-PLAN_SIZE
returns-then-plan-lt-PLAN_SIZE c = sized_short c.args.plan c.args.document c.args.table c.if-plan-lt-PLAN_SIZE.true

pub returns : goal.returns
returns c = sized_rest c.args.plan c.args.document c.args.table c.sizes_met.result c.if-plan-lt-PLAN_SIZE.false c.sizes_met.ensures
