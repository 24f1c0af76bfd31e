-- Rules 11 to 15, by number.
use mathlib.Core.Path.{sym, ap, ◌∙◌}
use mathlib.Core.List.{head?}
use Rattle.paper_table.specs.Types.{table_of}
use Rattle.paper_table.specs.Places.{Rule}
use Rattle.table_places.specs.Placed.{placed}
use Rattle.table_types.specs.Booked.{definition_on}
use Rattle.table_judge.proofs.NumberLaws.{promise_11, promise_12, promise_13, promise_14, promise_other}
use Rattle.table_judge.proofs.promise_place.Goals as goal

pub field_missing-requires : goal.field_missing-requires
field_missing-requires c = c.requires

pub returns-then-rule-eq-RULE_FIELD_MISSING : goal.returns-then-rule-eq-RULE_FIELD_MISSING
returns-then-rule-eq-RULE_FIELD_MISSING c = c.field_missing.ensures ∙ sym (ap (λ (q : Rule). placed (head? (q (table_of c.args.t.now) c.args.i (definition_on c.args.t.now c.args.i)))) (promise_11 c.args.rule c.if-rule-eq-RULE_FIELD_MISSING.true))

pub field_type-requires : goal.field_type-requires
field_type-requires c = c.requires

pub returns-then-rule-eq-RULE_FIELD_TYPE : goal.returns-then-rule-eq-RULE_FIELD_TYPE
returns-then-rule-eq-RULE_FIELD_TYPE c = c.field_type.ensures ∙ sym (ap (λ (q : Rule). placed (head? (q (table_of c.args.t.now) c.args.i (definition_on c.args.t.now c.args.i)))) (promise_12 c.args.rule c.if-rule-eq-RULE_FIELD_MISSING.false c.if-rule-eq-RULE_FIELD_TYPE.true))

pub argument_missing-requires : goal.argument_missing-requires
argument_missing-requires c = c.requires

pub returns-then-rule-eq-RULE_ARGUMENT_MISSING : goal.returns-then-rule-eq-RULE_ARGUMENT_MISSING
returns-then-rule-eq-RULE_ARGUMENT_MISSING c = c.argument_missing.ensures ∙ sym (ap (λ (q : Rule). placed (head? (q (table_of c.args.t.now) c.args.i (definition_on c.args.t.now c.args.i)))) (promise_13 c.args.rule c.if-rule-eq-RULE_FIELD_MISSING.false c.if-rule-eq-RULE_FIELD_TYPE.false c.if-rule-eq-RULE_ARGUMENT_MISSING.true))

pub argument_type-requires : goal.argument_type-requires
argument_type-requires c = c.requires

pub returns-then-rule-eq-RULE_ARGUMENT_TYPE : goal.returns-then-rule-eq-RULE_ARGUMENT_TYPE
returns-then-rule-eq-RULE_ARGUMENT_TYPE c = c.argument_type.ensures ∙ sym (ap (λ (q : Rule). placed (head? (q (table_of c.args.t.now) c.args.i (definition_on c.args.t.now c.args.i)))) (promise_14 c.args.rule c.if-rule-eq-RULE_FIELD_MISSING.false c.if-rule-eq-RULE_FIELD_TYPE.false c.if-rule-eq-RULE_ARGUMENT_MISSING.false c.if-rule-eq-RULE_ARGUMENT_TYPE.true))

pub argument_extra-requires : goal.argument_extra-requires
argument_extra-requires c = c.requires

pub returns : goal.returns
returns c = c.argument_extra.ensures ∙ sym (ap (λ (q : Rule). placed (head? (q (table_of c.args.t.now) c.args.i (definition_on c.args.t.now c.args.i)))) (promise_other c.args.rule c.if-rule-eq-RULE_FIELD_MISSING.false c.if-rule-eq-RULE_FIELD_TYPE.false c.if-rule-eq-RULE_ARGUMENT_MISSING.false c.if-rule-eq-RULE_ARGUMENT_TYPE.false))
