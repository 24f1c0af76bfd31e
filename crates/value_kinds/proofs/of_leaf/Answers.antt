-- By the leaf's answer.
use mathlib.Core.Path.{sym, ap}
use Rattle.value_kinds.specs.Dues.{told}
use Rattle.value_kinds.proofs.of_leaf.Goals as goal

pub returns-in-Ok : goal.returns-in-Ok
returns-in-Ok c = sym (ap (told c.args.i) c.in-Ok.is)

pub returns-in-Err : goal.returns-in-Err
returns-in-Err c = sym (ap (told c.args.i) c.in-Err.is)
