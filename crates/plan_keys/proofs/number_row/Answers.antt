-- A field or no field.
use mathlib.Core.Path.{sym, ◌∙◌}
use native.Mathlib.Omega.{arith}
use borrow.Author.Tests.{eq-eqb, ne_eqb}
use Rattle.paper.specs.Numbers.{kind_field}
use Rattle.query_rows.specs.Rowed.{doc_of}
use Rattle.query_rows.proofs.RowsIn.{rows_count}
use Rattle.plan_keys.proofs.Filing.{filed_other}
use Rattle.plan_keys.proofs.number_row.Goals as goal

pub returns-then-kind_of-ne-KIND_FIELD : goal.returns-then-kind_of-ne-KIND_FIELD
returns-then-kind_of-ne-KIND_FIELD c = let a = c.args in let p = c.requires in
    filed_other (doc_of a.s.now a.rows.now a.n) a.seed _ _ _ a.i p.1 (omega (arith, p.2, rows_count a.rows.now a.n)) (ne_eqb _ kind_field (λ e. c.if-kind_of-ne-KIND_FIELD.true (c.kind_of.ensures ∙ e)))

pub number_field-requires : goal.number_field-requires
number_field-requires c = let p = c.requires in
    (p.0, p.1, p.2, eq-eqb _ kind_field (sym c.kind_of.ensures ∙ c.if-kind_of-ne-KIND_FIELD.false))
