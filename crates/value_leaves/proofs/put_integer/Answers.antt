-- `value_leaves::put_integer` meets its contract, by the kind of type.
use mathlib.Core.Path.{◌∙◌}
use Rattle.value_leaves.proofs.LeafLaws.{number_told, integer_int, integer_float, integer_id, integer_own, integer_other}
use Rattle.value_leaves.proofs.put_integer.Goals as goal

pub returns-then-sort-eq-SORT_INT : goal.returns-then-sort-eq-SORT_INT
returns-then-sort-eq-SORT_INT c = let a = c.args in λ k i z. integer_int a.limit a.from a.out.now _ a.s.now a.sort k i z c.put_int_token.result c.ok_or.result c.if-sort-eq-SORT_INT.true (c.ok_or.ensures.value ∙ number_told c.put_int_token.result) c.put_int_token.ensures

pub returns-then-sort-eq-SORT_FLOAT : goal.returns-then-sort-eq-SORT_FLOAT
returns-then-sort-eq-SORT_FLOAT c = let a = c.args in λ k i z. integer_float a.limit a.from a.out.now _ a.s.now a.sort k i z c.put_float.result c.ok_or-then-sort-eq-SORT_FLOAT.result c.if-sort-eq-SORT_FLOAT.true (c.ok_or-then-sort-eq-SORT_FLOAT.ensures.value ∙ number_told c.put_float.result) c.put_float.ensures

pub returns-then-sort-eq-SORT_ID : goal.returns-then-sort-eq-SORT_ID
returns-then-sort-eq-SORT_ID c = let a = c.args in λ k i z. integer_id a.limit a.from a.out.now _ a.s.now a.sort k i z _ c.if-sort-eq-SORT_ID.true c.put_field.ensures

pub returns-then-sort-eq-SORT_OWN : goal.returns-then-sort-eq-SORT_OWN
returns-then-sort-eq-SORT_OWN c = let a = c.args in λ k i z. integer_own a.limit a.from a.out.now _ a.s.now a.sort k i z _ c.if-sort-eq-SORT_OWN.true c.put_field-then-sort-eq-SORT_OWN.ensures

pub returns : goal.returns
returns c = let a = c.args in λ k i z. integer_other a.limit a.from a.out.now a.out.now a.s.now a.sort k i z c.if-sort-eq-SORT_INT.false c.if-sort-eq-SORT_FLOAT.false c.if-sort-eq-SORT_ID.false c.if-sort-eq-SORT_OWN.false
