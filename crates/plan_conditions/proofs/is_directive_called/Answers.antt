use mathlib.Core.Path.{sym, ◌∙◌}
use borrow.Author.Tests.{eq-eqb, ne_eqb}
use Rattle.plan_conditions.proofs.is_directive_called.Goals as goal

pub returns-then-kind_of-ne-KIND_DIRECTIVE : goal.returns-then-kind_of-ne-KIND_DIRECTIVE
returns-then-kind_of-ne-KIND_DIRECTIVE c = rw (ne_eqb _ _ (λ q. c.if-kind_of-ne-KIND_DIRECTIVE.true (c.kind_of.ensures ∙ q)))

pub returns : goal.returns
returns c = rw (eq-eqb _ _ (sym c.kind_of.ensures ∙ c.if-kind_of-ne-KIND_DIRECTIVE.false)) c.is_called.ensures
