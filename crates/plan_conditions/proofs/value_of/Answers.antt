use mathlib.Core.Path.{sym, ◌∙◌}
use native.Mathlib.Omega.{arith}
use Rattle.query_rows.proofs.RowsIn.{name_within}
use Rattle.plan_conditions.proofs.ConditionLaws.{value_literal, value_variable}
use Rattle.plan_conditions.proofs.value_of.Goals as goal

pub returns-then-kind_of-eq-KIND_BOOLEAN : goal.returns-then-kind_of-eq-KIND_BOOLEAN
returns-then-kind_of-eq-KIND_BOOLEAN c = let a = c.args in
    value_literal a.s.now a.rows.now a.n a.o a.v _ (sym c.kind_of.ensures ∙ c.if-kind_of-eq-KIND_BOOLEAN.true) c.extra_of.ensures

pub variable_number-requires : goal.variable_number-requires
variable_number-requires c = let a = c.args in
    let p = c.requires in
    (p.0, p.1, p.2, omega (arith, c.name_of-at.ensures, c.size_of-l.ensures, name_within a.s.now a.rows.now a.n p.0 a.v))

pub returns : goal.returns
returns c = let a = c.args in
    value_variable a.s.now a.rows.now a.n a.o a.v _ _ _ (λ q. c.if-kind_of-eq-KIND_BOOLEAN.false (c.kind_of.ensures ∙ q)) c.name_of-at.ensures c.size_of-l.ensures c.variable_number.ensures
