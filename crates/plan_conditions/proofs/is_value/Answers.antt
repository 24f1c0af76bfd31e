use mathlib.Core.Path.{ap}
use Prim.Native.Nat.{ℕ}
use native.Mathlib.Omega.{arith}
use lib.Dec.{leb}
use Rattle.paper.specs.Numbers.{kind_object}
use Rattle.query_rows.specs.Rowed.{row_in}
use Rattle.plan_conditions.proofs.ConditionLaws.{value_low, value_high}
use Rattle.plan_conditions.proofs.is_value.Goals as goal

pub returns-then-k-lt-KIND_VARIABLE : goal.returns-then-k-lt-KIND_VARIABLE
returns-then-k-lt-KIND_VARIABLE c = let a = c.args in
    value_low (row_in a.rows.now a.n a.j) (omega (arith, c.if-k-lt-KIND_VARIABLE.true, c.kind_of-k.ensures))

pub returns : goal.returns
returns c = let a = c.args in
    let e = c.kind_of-k.ensures in
    value_high (row_in a.rows.now a.n a.j) _ (omega (arith, c.if-k-lt-KIND_VARIABLE.false, e)) (ap (λ (x : ℕ). leb x kind_object) e)
