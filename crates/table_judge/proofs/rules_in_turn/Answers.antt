-- A walk over the rules.
use mathlib.Core.Path.{◌∙◌}
use native.Mathlib.Omega.{arith}
use Rattle.paper_table.specs.Types.{table_of}
use Rattle.table_types.specs.Booked.{definition_on}
use Rattle.table_judge.proofs.BreakLaws.{turn_start, turn_end, turn_here, turn_on, turn_next, turn_less}
use Rattle.table_judge.proofs.rules_in_turn.Goals as goal

pub loop-rule-init : goal.loop-rule-init
loop-rule-init c = let a = c.args in
    turn_start (table_of a.t.now) a.i (definition_on a.t.now a.i)

pub rule_place-requires : goal.rule_place-requires
rule_place-requires c = let p = c.requires in
    (p.0, p.1, p.2, p.3)

pub shown-requires : goal.shown-requires
shown-requires c = omega (arith, c.requires.2, c.requires.0.indexed.held.most)

pub returns-in-Err : goal.returns-in-Err
returns-in-Err c = let a = c.args in
    c.shown.ensures ∙ turn_here (table_of a.t.now) a.i (definition_on a.t.now a.i) c.loop-rule.rule c.loop-rule.invariant c.loop-rule-test.true c.rule_place.result c.rule_place.ensures _ c.in-Err.is

pub next_rule-rule-requires : goal.next_rule-rule-requires
next_rule-rule-requires c = c.loop-rule-test.true

pub loop-rule-smaller : goal.loop-rule-smaller
loop-rule-smaller c = let a = c.args in
    turn_less a.clean a.promising _ _ c.loop-rule-test.true c.next_rule-rule.ensures

pub loop-rule-preserved : goal.loop-rule-preserved
loop-rule-preserved c = let a = c.args in
    turn_next (table_of a.t.now) a.i (definition_on a.t.now a.i) a.clean a.promising c.loop-rule.rule _ (turn_on (table_of a.t.now) a.i (definition_on a.t.now a.i) c.loop-rule.rule c.loop-rule.invariant c.loop-rule-test.true c.rule_place.result c.rule_place.ensures c.in_default.is) c.requires.4 c.requires.3.keeps c.next_rule-rule.ensures

pub returns : goal.returns
returns c = let a = c.args in
    turn_end (table_of a.t.now) a.i (definition_on a.t.now a.i) c.loop-rule.rule c.loop-rule.invariant c.loop-rule-test.false
