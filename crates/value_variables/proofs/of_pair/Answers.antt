-- `value_variables::of_pair` meets its contract.
use mathlib.Core.Path.{ap, sym}
use Rattle.value_variables.specs.Variables.{told}
use Rattle.value_variables.proofs.of_pair.Goals as goal

pub returns-in-Ok : goal.returns-in-Ok
returns-in-Ok c = ap (told _ _) (sym c.in-Ok.is)

pub returns-in-Err : goal.returns-in-Err
returns-in-Err c = ap (told _ _) (sym c.in-Err.is)
