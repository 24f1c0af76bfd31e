-- Reason 3, or nothing.
use Rattle.value_held.proofs.LackLaws.{lack_refused, lack_nothing}
use Rattle.value_held.proofs.lacking.Goals as goal

pub returns-then-wrappers-eq-WRAP_NON_NULL : goal.returns-then-wrappers-eq-WRAP_NON_NULL
returns-then-wrappers-eq-WRAP_NON_NULL c = let a = c.args in λ text what p e. lack_refused text a.limit a.from a.h a.wrappers what p e c.if-wrappers-eq-WRAP_NON_NULL.true

pub returns : goal.returns
returns c = let a = c.args in λ text what p e. lack_nothing text a.limit a.from a.h a.wrappers what p e c.if-wrappers-eq-WRAP_NON_NULL.false c.requires
