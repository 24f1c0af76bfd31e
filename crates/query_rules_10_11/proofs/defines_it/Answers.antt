-- By its kind, then its name.
use mathlib.Core.Path.{sym, ◌∙◌}
use borrow.Author.Tests.{eq-eqb, ne_eqb}
use Rattle.paper.specs.Numbers.{kind_variable_definition}
use Rattle.query_rows.specs.Rowed.{row_in}
use Rattle.query_rows.proofs.RowsIn.{rowed_sized}
use Rattle.query_rules_10_11.proofs.defines_it.Goals as goal

pub kind_of-requires : goal.kind_of-requires
kind_of-requires c = rowed_sized c.requires

pub returns-then-kind_of-ne-KIND_VARIABLE_DEFINITION : goal.returns-then-kind_of-ne-KIND_VARIABLE_DEFINITION
returns-then-kind_of-ne-KIND_VARIABLE_DEFINITION c = rw (ne_eqb (row_in c.args.rows.now c.args.n c.args.j).kind kind_variable_definition (λ z. c.if-kind_of-ne-KIND_VARIABLE_DEFINITION.true (c.kind_of.ensures ∙ z)))

pub same_names-requires : goal.same_names-requires
same_names-requires c = c.requires

pub returns : goal.returns
returns c = rw (eq-eqb (row_in c.args.rows.now c.args.n c.args.j).kind kind_variable_definition (sym c.kind_of.ensures ∙ c.if-kind_of-ne-KIND_VARIABLE_DEFINITION.false)) c.same_names.ensures
