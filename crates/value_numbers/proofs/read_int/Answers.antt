-- `value_numbers::read_int` meets its contract. Assumes nothing.
use Rattle.value_numbers.proofs.ValueLaws.{int_none, minus_over, minus_zero, minus_within, plain_over, plain_within}
use native.Mathlib.Omega.{arith}
use Rattle.value_numbers.proofs.read_int.Goals as goal

pub returns-then-s-eq0 : goal.returns-then-s-eq0
returns-then-s-eq0 c = int_none c.args.s.now c.if-s-eq0.true

pub returns-then-m-gt2147483648 : goal.returns-then-m-gt2147483648
returns-then-m-gt2147483648 c = minus_over _ c.args.s.now c.if-s-eq0.false c.if-s-eq45.true c.value_up_to-m.ensures c.if-m-gt2147483648.true (omega arith)

pub returns-then-m-eq0 : goal.returns-then-m-eq0
returns-then-m-eq0 c = minus_zero _ c.args.s.now c.if-s-eq0.false c.if-s-eq45.true c.value_up_to-m.ensures c.if-m-gt2147483648.false c.if-m-eq0.true

pub returns-then-s-eq45 : goal.returns-then-s-eq45
returns-then-s-eq45 c = minus_within _ c.args.s.now c.if-s-eq0.false c.if-s-eq45.true c.value_up_to-m.ensures c.if-m-gt2147483648.false c.if-m-eq0.false (omega arith)

pub returns-then-v-gt2147483647 : goal.returns-then-v-gt2147483647
returns-then-v-gt2147483647 c = plain_over _ c.args.s.now c.if-s-eq0.false c.if-s-eq45.false c.value_up_to-v.ensures c.if-v-gt2147483647.true (omega arith)

pub returns : goal.returns
returns c = plain_within _ c.args.s.now c.if-s-eq0.false c.if-s-eq45.false c.value_up_to-v.ensures c.if-v-gt2147483647.false (omega arith)
