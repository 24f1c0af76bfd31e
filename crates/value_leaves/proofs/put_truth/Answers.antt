-- `value_leaves::put_truth` meets its contract, by the kind of type.
use mathlib.Core.Bool.{true, false}
use Rattle.value_leaves.proofs.LeafLaws.{truth_boolean, truth_own, truth_other}
use Rattle.value_leaves.proofs.put_truth.Goals as goal

pub returns-then-sort-eq-SORT_BOOLEAN : goal.returns-then-sort-eq-SORT_BOOLEAN
returns-then-sort-eq-SORT_BOOLEAN c = let a = c.args in λ k i z. truth_boolean a.limit a.from a.out.now _ a.b a.sort k i z _ c.if-sort-eq-SORT_BOOLEAN.true c.put_boolean.ensures

pub returns-then-b : goal.returns-then-b
returns-then-b c = let a = c.args in λ k i z. truth_own a.limit a.from a.out.now _ a.b a.sort k i z true _ c.if-b.true c.if-sort-eq-SORT_OWN.true c.put_field.ensures

pub returns-then-sort-eq-SORT_OWN : goal.returns-then-sort-eq-SORT_OWN
returns-then-sort-eq-SORT_OWN c = let a = c.args in λ k i z. truth_own a.limit a.from a.out.now _ a.b a.sort k i z false _ c.if-b.false c.if-sort-eq-SORT_OWN.true c.put_field-then-sort-eq-SORT_OWN.ensures

pub returns : goal.returns
returns c = let a = c.args in λ k i z. truth_other a.limit a.from a.out.now a.out.now a.b a.sort k i z c.if-sort-eq-SORT_BOOLEAN.false c.if-sort-eq-SORT_OWN.false
