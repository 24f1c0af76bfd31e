-- Rules 1 to 8, by number.
use mathlib.Core.Path.{sym, ap, ◌∙◌}
use mathlib.Core.List.{head?}
use Rattle.paper_table.specs.Types.{table_of}
use Rattle.paper_table.specs.Places.{Rule}
use Rattle.table_places.specs.Placed.{placed}
use Rattle.table_types.specs.Booked.{definition_on}
use Rattle.table_judge.proofs.NumberLaws.{early_1, early_2, early_3, early_4, early_5, early_6, early_7, early_8}
use Rattle.table_judge.proofs.early_place.Goals as goal

pub returns-then-rule-eq-RULE_RESERVED_NAME : goal.returns-then-rule-eq-RULE_RESERVED_NAME
returns-then-rule-eq-RULE_RESERVED_NAME c = c.reserved_name.ensures ∙ sym (ap (λ (q : Rule). placed (head? (q (table_of c.args.t.now) c.args.i (definition_on c.args.t.now c.args.i)))) (early_1 c.args.rule c.if-rule-eq-RULE_RESERVED_NAME.true))

pub returns-then-rule-eq-RULE_NAME_KNOWN : goal.returns-then-rule-eq-RULE_NAME_KNOWN
returns-then-rule-eq-RULE_NAME_KNOWN c = c.name_known.ensures ∙ sym (ap (λ (q : Rule). placed (head? (q (table_of c.args.t.now) c.args.i (definition_on c.args.t.now c.args.i)))) (early_2 c.args.rule c.if-rule-eq-RULE_RESERVED_NAME.false c.if-rule-eq-RULE_NAME_KNOWN.true))

pub returns-then-rule-eq-RULE_NO_MEMBERS : goal.returns-then-rule-eq-RULE_NO_MEMBERS
returns-then-rule-eq-RULE_NO_MEMBERS c = c.no_members.ensures ∙ sym (ap (λ (q : Rule). placed (head? (q (table_of c.args.t.now) c.args.i (definition_on c.args.t.now c.args.i)))) (early_3 c.args.rule c.if-rule-eq-RULE_RESERVED_NAME.false c.if-rule-eq-RULE_NAME_KNOWN.false c.if-rule-eq-RULE_NO_MEMBERS.true))

pub returns-then-rule-eq-RULE_NAME_REPEATED : goal.returns-then-rule-eq-RULE_NAME_REPEATED
returns-then-rule-eq-RULE_NAME_REPEATED c = c.name_repeated.ensures ∙ sym (ap (λ (q : Rule). placed (head? (q (table_of c.args.t.now) c.args.i (definition_on c.args.t.now c.args.i)))) (early_4 c.args.rule c.if-rule-eq-RULE_RESERVED_NAME.false c.if-rule-eq-RULE_NAME_KNOWN.false c.if-rule-eq-RULE_NO_MEMBERS.false c.if-rule-eq-RULE_NAME_REPEATED.true))

pub returns-then-rule-eq-RULE_RESERVED_MEMBER : goal.returns-then-rule-eq-RULE_RESERVED_MEMBER
returns-then-rule-eq-RULE_RESERVED_MEMBER c = c.reserved_member.ensures ∙ sym (ap (λ (q : Rule). placed (head? (q (table_of c.args.t.now) c.args.i (definition_on c.args.t.now c.args.i)))) (early_5 c.args.rule c.if-rule-eq-RULE_RESERVED_NAME.false c.if-rule-eq-RULE_NAME_KNOWN.false c.if-rule-eq-RULE_NO_MEMBERS.false c.if-rule-eq-RULE_NAME_REPEATED.false c.if-rule-eq-RULE_RESERVED_MEMBER.true))

pub returns-then-rule-eq-RULE_ENUM_VALUE : goal.returns-then-rule-eq-RULE_ENUM_VALUE
returns-then-rule-eq-RULE_ENUM_VALUE c = c.enum_value.ensures ∙ sym (ap (λ (q : Rule). placed (head? (q (table_of c.args.t.now) c.args.i (definition_on c.args.t.now c.args.i)))) (early_6 c.args.rule c.if-rule-eq-RULE_RESERVED_NAME.false c.if-rule-eq-RULE_NAME_KNOWN.false c.if-rule-eq-RULE_NO_MEMBERS.false c.if-rule-eq-RULE_NAME_REPEATED.false c.if-rule-eq-RULE_RESERVED_MEMBER.false c.if-rule-eq-RULE_ENUM_VALUE.true))

pub returns-then-rule-eq-RULE_NO_TYPE : goal.returns-then-rule-eq-RULE_NO_TYPE
returns-then-rule-eq-RULE_NO_TYPE c = c.no_type.ensures ∙ sym (ap (λ (q : Rule). placed (head? (q (table_of c.args.t.now) c.args.i (definition_on c.args.t.now c.args.i)))) (early_7 c.args.rule c.if-rule-eq-RULE_RESERVED_NAME.false c.if-rule-eq-RULE_NAME_KNOWN.false c.if-rule-eq-RULE_NO_MEMBERS.false c.if-rule-eq-RULE_NAME_REPEATED.false c.if-rule-eq-RULE_RESERVED_MEMBER.false c.if-rule-eq-RULE_ENUM_VALUE.false c.if-rule-eq-RULE_NO_TYPE.true))

pub returns : goal.returns
returns c = c.wrong_base.ensures ∙ sym (ap (λ (q : Rule). placed (head? (q (table_of c.args.t.now) c.args.i (definition_on c.args.t.now c.args.i)))) (early_8 c.args.rule c.if-rule-eq-RULE_RESERVED_NAME.false c.if-rule-eq-RULE_NAME_KNOWN.false c.if-rule-eq-RULE_NO_MEMBERS.false c.if-rule-eq-RULE_NAME_REPEATED.false c.if-rule-eq-RULE_RESERVED_MEMBER.false c.if-rule-eq-RULE_ENUM_VALUE.false c.if-rule-eq-RULE_NO_TYPE.false))
