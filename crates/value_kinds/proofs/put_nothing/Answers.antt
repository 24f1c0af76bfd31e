-- Null, or reason 4.
use Rattle.value_kinds.proofs.KindLaws.{null_refused, null_put}
use Rattle.value_kinds.proofs.put_nothing.Goals as goal

pub returns-then-wrappers-eq-WRAP_NON_NULL : goal.returns-then-wrappers-eq-WRAP_NON_NULL
returns-then-wrappers-eq-WRAP_NON_NULL c = let a = c.args in λ text r p. null_refused text a.limit a.i a.wrappers a.from a.out.now a.out.now r p c.if-wrappers-eq-WRAP_NON_NULL.true

pub returns : goal.returns
returns c = let a = c.args in λ text r p. null_put text a.limit a.i a.wrappers a.from a.out.now _ r p _ c.if-wrappers-eq-WRAP_NON_NULL.false c.put_null.ensures
