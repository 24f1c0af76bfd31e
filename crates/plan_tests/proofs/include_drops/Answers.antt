use mathlib.Core.Path.{sym, ap, ◌∙◌}
use Rattle.std.specs.Prelude.{Some}
use Rattle.plan_tests.specs.Right.{include_drops_by}
use Rattle.plan_tests.proofs.include_drops.Goals as goal

pub returns-in_default : goal.returns-in_default
returns-in_default c = sym (ap include_drops_by c.in_default.is)

pub returns-in-Literal : goal.returns-in-Literal
returns-in-Literal c = sym (ap include_drops_by (c.in-Some.is ∙ ap Some c.in-Literal.is))

pub returns-in-Variable : goal.returns-in-Variable
returns-in-Variable c = sym (ap include_drops_by (c.in-Some.is ∙ ap Some c.in-Variable.is))
