use mathlib.Core.Path.{ap, ◌∙◌}
use native.Mathlib.Omega.{arith}
use Rattle.std.specs.Prelude.{Some}
use Rattle.plan_tests.proofs.RightLaws.{small_variable, put_absent, put_literal, put_variable}
use Rattle.plan_tests.proofs.put_if.Goals as goal

pub overflow_cast-v : goal.overflow_cast-v
overflow_cast-v c = let h = small_variable c.args.given _ c.requires.2 (c.in-Some.is ∙ ap Some c.in-Variable.is) in omega (arith, h)

pub put_test-requires : goal.put_test-requires
put_test-requires c = (c.requires.0, c.requires.1, small_variable c.args.given _ c.requires.2 (c.in-Some.is ∙ ap Some c.in-Variable.is))

pub returns-in_default : goal.returns-in_default
returns-in_default c = put_absent _ _ _ _ c.in_default.is

pub returns-in-Literal : goal.returns-in-Literal
returns-in-Literal c = put_literal _ _ _ _ _ (c.in-Some.is ∙ ap Some c.in-Literal.is)

pub returns-in-Variable : goal.returns-in-Variable
returns-in-Variable c = put_variable _ _ _ _ _ _ (c.in-Some.is ∙ ap Some c.in-Variable.is) c.put_test.ensures
