-- `value_leaves::put_decimal` meets its contract, by the kind of type.
use mathlib.Core.Path.{◌∙◌}
use Rattle.value_leaves.proofs.LeafLaws.{number_told, float_float, float_own, float_other}
use Rattle.value_leaves.proofs.put_decimal.Goals as goal

pub returns-then-sort-eq-SORT_FLOAT : goal.returns-then-sort-eq-SORT_FLOAT
returns-then-sort-eq-SORT_FLOAT c = let a = c.args in λ k i z. float_float a.limit a.from a.out.now _ a.s.now a.sort k i z c.put_float.result c.ok_or.result c.if-sort-eq-SORT_FLOAT.true (c.ok_or.ensures.value ∙ number_told c.put_float.result) c.put_float.ensures

pub returns-then-sort-eq-SORT_OWN : goal.returns-then-sort-eq-SORT_OWN
returns-then-sort-eq-SORT_OWN c = let a = c.args in λ k i z. float_own a.limit a.from a.out.now _ a.s.now a.sort k i z _ c.if-sort-eq-SORT_OWN.true c.put_field.ensures

pub returns : goal.returns
returns c = let a = c.args in λ k i z. float_other a.limit a.from a.out.now a.out.now a.s.now a.sort k i z c.if-sort-eq-SORT_FLOAT.false c.if-sort-eq-SORT_OWN.false
