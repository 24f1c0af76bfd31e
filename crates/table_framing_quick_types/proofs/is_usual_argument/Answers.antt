-- A name and a type, and nothing behind them.
use mathlib.Core.Bool.{false≢true}
use borrow.Author.Tests.{eqb-true}
use Rattle.table_framing_quick_types.proofs.FineLaws.{begun, argument_fine}
use Rattle.table_framing_quick_types.proofs.is_usual_argument.Goals as goal

pub returns-in_default : goal.returns-in_default
returns-in_default c = λ z. absurd (false≢true z)

pub returns : goal.returns
returns c = λ z. argument_fine c.args.t.now c.args.at c.args.end _ c.requires.within (begun _ _ _ _ _ c.in-Some.is c.typed_end.ensures) (eqb-true _ _ z)
