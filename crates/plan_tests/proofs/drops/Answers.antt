use mathlib.Core.Path.{sym, ◌∙◌}
use Rattle.plan_tests.proofs.RightLaws.{drops_first, drops_second}
use Rattle.plan_tests.proofs.drops.Goals as goal

pub returns-then-skip_drops : goal.returns-then-skip_drops
returns-then-skip_drops c = drops_first c.args.skip c.args.include (sym c.skip_drops.ensures ∙ c.if-skip_drops.true)

pub returns : goal.returns
returns c = drops_second c.args.skip c.args.include _ (sym c.skip_drops.ensures ∙ c.if-skip_drops.false) c.include_drops.ensures
