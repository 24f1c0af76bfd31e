-- Rules 9 to 16, by number.
use mathlib.Core.Path.{sym, ap, ◌∙◌}
use mathlib.Core.List.{List, head?}
use Rattle.paper_table.specs.Types.{table_of}
use Rattle.paper_table.specs.Places.{Place, Rule}
use Rattle.table_places.specs.Placed.{placed}
use Rattle.table_types.specs.Booked.{definition_on}
use Rattle.table_judge.proofs.NumberLaws.{late_9, late_10, late_16, late_other, promise_kept}
use Rattle.table_judge.proofs.late_place.Goals as goal

pub not_object_or_interface-requires : goal.not_object_or_interface-requires
not_object_or_interface-requires c = (c.requires.0, c.requires.2)

pub returns-then-rule-eq-RULE_NOT_OBJECT_OR_INTERFACE : goal.returns-then-rule-eq-RULE_NOT_OBJECT_OR_INTERFACE
returns-then-rule-eq-RULE_NOT_OBJECT_OR_INTERFACE c = c.not_object_or_interface.ensures ∙ sym (ap (λ (q : Rule). placed (head? (q (table_of c.args.t.now) c.args.i (definition_on c.args.t.now c.args.i)))) (late_9 c.args.rule c.if-rule-eq-RULE_NOT_OBJECT_OR_INTERFACE.true))

pub implemented_twice-requires : goal.implemented_twice-requires
implemented_twice-requires c = (c.requires.0, c.requires.2)

pub returns-then-rule-eq-RULE_IMPLEMENTED_TWICE : goal.returns-then-rule-eq-RULE_IMPLEMENTED_TWICE
returns-then-rule-eq-RULE_IMPLEMENTED_TWICE c = c.implemented_twice.ensures ∙ sym (ap (λ (q : Rule). placed (head? (q (table_of c.args.t.now) c.args.i (definition_on c.args.t.now c.args.i)))) (late_10 c.args.rule c.if-rule-eq-RULE_NOT_OBJECT_OR_INTERFACE.false c.if-rule-eq-RULE_IMPLEMENTED_TWICE.true))

pub root_not_object-requires : goal.root_not_object-requires
root_not_object-requires c = (c.requires.0, c.requires.2)

pub returns-then-rule-eq-RULE_ROOT : goal.returns-then-rule-eq-RULE_ROOT
returns-then-rule-eq-RULE_ROOT c = c.root_not_object.ensures ∙ sym (ap (λ (q : Rule). placed (head? (q (table_of c.args.t.now) c.args.i (definition_on c.args.t.now c.args.i)))) (late_16 c.args.rule c.if-rule-eq-RULE_NOT_OBJECT_OR_INTERFACE.false c.if-rule-eq-RULE_IMPLEMENTED_TWICE.false c.if-rule-eq-RULE_ROOT.true))

pub promise_place-requires : goal.promise_place-requires
promise_place-requires c = (c.requires.0, c.requires.1, c.requires.2, c.requires.3.lists c.if-promising.true)

pub returns-then-promising : goal.returns-then-promising
returns-then-promising c = c.promise_place.ensures ∙ sym (ap (λ (q : Rule). placed (head? (q (table_of c.args.t.now) c.args.i (definition_on c.args.t.now c.args.i)))) (late_other c.args.rule c.if-rule-eq-RULE_NOT_OBJECT_OR_INTERFACE.false c.if-rule-eq-RULE_IMPLEMENTED_TWICE.false c.if-rule-eq-RULE_ROOT.false))

pub returns : goal.returns
returns c = sym (ap (λ (q : Rule). placed (head? (q (table_of c.args.t.now) c.args.i (definition_on c.args.t.now c.args.i)))) (late_other c.args.rule c.if-rule-eq-RULE_NOT_OBJECT_OR_INTERFACE.false c.if-rule-eq-RULE_IMPLEMENTED_TWICE.false c.if-rule-eq-RULE_ROOT.false) ∙ ap (λ (ps : List Place). placed (head? ps)) (promise_kept c.args.rule (table_of c.args.t.now) c.args.i (definition_on c.args.t.now c.args.i) (c.requires.3.keeps c.if-promising.false)))
