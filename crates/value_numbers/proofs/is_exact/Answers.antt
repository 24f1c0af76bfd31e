-- `value_numbers::is_exact` meets its contract, by the sign.
use Rattle.value_numbers.proofs.ValueLaws.{exact_none, exact_minus, exact_plain}
use native.Mathlib.Omega.{arith}
use Rattle.value_numbers.proofs.is_exact.Goals as goal

pub returns-then-s-eq0 : goal.returns-then-s-eq0
returns-then-s-eq0 c = exact_none c.args.s.now c.if-s-eq0.true

pub returns-then-s-eq45 : goal.returns-then-s-eq45
returns-then-s-eq45 c = exact_minus _ c.value_up_to.result c.args.s.now c.if-s-eq0.false c.if-s-eq45.true c.value_up_to.ensures (omega arith)

pub returns : goal.returns
returns c = exact_plain _ c.value_up_to-2.result c.args.s.now c.if-s-eq0.false c.if-s-eq45.false c.value_up_to-2.ensures (omega arith)
