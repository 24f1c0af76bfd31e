use native.Mathlib.Omega.{arith}
use Rattle.query_rows.proofs.RowsIn.{rows_count}
use Rattle.query_first_break.proofs.JudgedLaws.{none_first, none_more, judged_fits, judged_breaks}
use Rattle.query_first_break.proofs.judge_rows.Goals as goal

pub loop-i-init : goal.loop-i-init
loop-i-init c = none_first _ _

pub rule_at-rule-requires : goal.rule_at-rule-requires
rule_at-rule-requires c = (c.requires, c.loop-i-test.true)

pub overflow_cast-result : goal.overflow_cast-result
overflow_cast-result c = omega (arith, c.requires.asked.rowed.few)

pub returns-then-rule-ne0 : goal.returns-then-rule-ne0
returns-then-rule-ne0 c = judged_breaks _ c.loop-i.invariant c.rule_at-rule.ensures c.if-rule-ne0.true

pub loop-i-preserved : goal.loop-i-preserved
loop-i-preserved c = none_more _ c.loop-i.invariant c.rule_at-rule.ensures c.if-rule-ne0.false

pub returns : goal.returns
returns c = let a = c.args in
    judged_fits _ (omega (arith, rows_count a.rows.now a.n)) c.loop-i.invariant
