-- `value_answers::ended` meets its contract, by what came of the task.
use mathlib.Core.Path.{sym, ap}
use Rattle.value_answers.specs.Answers.{ended_of}
use Rattle.value_answers.proofs.ended.Goals as goal

pub returns-in-Ok : goal.returns-in-Ok
returns-in-Ok c = sym (ap ended_of c.in-Ok.is)

pub returns-in-Err : goal.returns-in-Err
returns-in-Err c = sym (ap ended_of c.in-Err.is)
