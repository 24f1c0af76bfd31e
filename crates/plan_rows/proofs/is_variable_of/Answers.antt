use mathlib.Core.Path.{sym, ◌∙◌}
use borrow.Author.Tests.{eq-eqb, ne_eqb}
use Rattle.plan_rows.proofs.is_variable_of.Goals as goal

pub returns-then-kind_of-ne-KIND_VARIABLE_DEFINITION : goal.returns-then-kind_of-ne-KIND_VARIABLE_DEFINITION
returns-then-kind_of-ne-KIND_VARIABLE_DEFINITION c = rw (ne_eqb _ _ (λ q. c.if-kind_of-ne-KIND_VARIABLE_DEFINITION.true (c.kind_of.ensures ∙ q)))

pub returns : goal.returns
returns c = rw (eq-eqb _ _ (sym c.kind_of.ensures ∙ c.if-kind_of-ne-KIND_VARIABLE_DEFINITION.false), ← c.parent_of.ensures)
