-- By the rule's number.
use mathlib.Core.Path.{refl}
use mathlib.Core.Logic.{inl, inr}
use Rattle.table_judge.proofs.next_rule.Goals as goal

pub returns-then-clean : goal.returns-then-clean
returns-then-clean c = inr (inl (c.if-rule-eq-RULE_NO_MEMBERS.true, c.if-clean.true, refl))

pub returns-then-rule-eq-RULE_NO_MEMBERS : goal.returns-then-rule-eq-RULE_NO_MEMBERS
returns-then-rule-eq-RULE_NO_MEMBERS c = inl refl

pub returns-then-promising : goal.returns-then-promising
returns-then-promising c = inl refl

pub returns-then-rule-eq-RULE_IMPLEMENTED_TWICE : goal.returns-then-rule-eq-RULE_IMPLEMENTED_TWICE
returns-then-rule-eq-RULE_IMPLEMENTED_TWICE c = inr (inr (c.if-rule-eq-RULE_IMPLEMENTED_TWICE.true, c.if-promising.false, refl))

pub returns : goal.returns
returns c = inl refl
