-- `value_variables::is_definition` meets its contract.
use mathlib.Core.Path.{refl, sym, ◌∙◌}
use borrow.Author.Tests.{eq-eqb, ne_eqb}
use Rattle.value_variables.proofs.is_definition.Goals as goal

pub returns-then-kind_of-ne-KIND_VARIABLE_DEFINITION : goal.returns-then-kind_of-ne-KIND_VARIABLE_DEFINITION
returns-then-kind_of-ne-KIND_VARIABLE_DEFINITION c = rw (ne_eqb _ _ (λ e. c.if-kind_of-ne-KIND_VARIABLE_DEFINITION.true (c.kind_of.ensures ∙ e))) refl

pub returns : goal.returns
returns c = rw (eq-eqb _ _ (sym c.kind_of.ensures ∙ c.if-kind_of-ne-KIND_VARIABLE_DEFINITION.false), ← c.parent_of.ensures) refl
