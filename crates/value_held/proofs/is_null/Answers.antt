-- By the kind.
use mathlib.Core.Path.{sym, ◌∙◌}
use mathlib.Core.Logic.{inl}
use Rattle.value_held.proofs.LackLaws.{null_decides}
use Rattle.value_held.proofs.is_null.Goals as goal

pub returns-then-kind-eq-KIND_NULL : goal.returns-then-kind-eq-KIND_NULL
returns-then-kind-eq-KIND_NULL c = inl (sym c.kind_of-kind.ensures ∙ c.if-kind-eq-KIND_NULL.true)

pub returns : goal.returns
returns c = null_decides _ _ c.kind_of-kind.ensures c.if-kind-eq-KIND_NULL.false
