-- `value_answers::tell_call` meets its contract: what the call ends with is told.
use mathlib.Core.Path.{◌∙◌}
use Rattle.value_answers.proofs.tell_call.Goals as goal

pub returns : goal.returns
returns c = record { ending = _; ends_so = c.end_call-e.ensures; before = _; size = c.end_call-e.auto.out ∙ c.requires.2; leaves = c.tell.ensures }
