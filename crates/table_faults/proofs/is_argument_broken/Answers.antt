-- The test that the rule asks of an argument.
use mathlib.Core.Path.{ap, ◌∙◌}
use mathlib.Core.List.{List}
use Prim.Native.Nat.{ℕ}
use lib.Dec.{eqb}
use lib.ListN.{take}
use Rattle.paper_table.specs.Lists.{any_of}
use Rattle.paper_table.specs.Types.{table_of, is_reserved, argument_named}
use Rattle.table_members.specs.Members.{arguments_in, argument_from}
use Rattle.table_types.specs.Booked.{is_composite_tag}
use Rattle.table_faults.proofs.FailLaws.{argument_seven, argument_eight, argument_four, argument_five, argument_other}
use Rattle.table_faults.proofs.is_argument_broken.Goals as goal

pub returns-then-rule-eq-RULE_NO_TYPE : goal.returns-then-rule-eq-RULE_NO_TYPE
returns-then-rule-eq-RULE_NO_TYPE c = ap (λ (k : ℕ). eqb k 0) c.base_tag.ensures ∙ argument_seven c.args.rule (table_of c.args.t.now) (arguments_in c.args.t.now c.args.from c.args.end) c.args.a (argument_from c.args.t.now c.args.start c.args.stop) c.if-rule-eq-RULE_NO_TYPE.true

pub returns-then-rule-eq-RULE_BASE : goal.returns-then-rule-eq-RULE_BASE
returns-then-rule-eq-RULE_BASE c = c.is_composite.ensures ∙ ap is_composite_tag c.base_tag-then-rule-eq-RULE_BASE.ensures ∙ argument_eight c.args.rule (table_of c.args.t.now) (arguments_in c.args.t.now c.args.from c.args.end) c.args.a (argument_from c.args.t.now c.args.start c.args.stop) c.if-rule-eq-RULE_NO_TYPE.false c.if-rule-eq-RULE_BASE.true

pub returns-then-rule-eq-RULE_NAME_REPEATED : goal.returns-then-rule-eq-RULE_NAME_REPEATED
returns-then-rule-eq-RULE_NAME_REPEATED c = c.is_argument_before.ensures ∙ ap (λ (x : List ℕ). any_of (argument_named x) (take c.args.a (arguments_in c.args.t.now c.args.from c.args.end))) c.name_in-name.ensures.is ∙ argument_four c.args.rule (table_of c.args.t.now) (arguments_in c.args.t.now c.args.from c.args.end) c.args.a (argument_from c.args.t.now c.args.start c.args.stop) c.if-rule-eq-RULE_NO_TYPE.false c.if-rule-eq-RULE_BASE.false c.if-rule-eq-RULE_NAME_REPEATED.true

pub returns-then-rule-eq-RULE_RESERVED_MEMBER : goal.returns-then-rule-eq-RULE_RESERVED_MEMBER
returns-then-rule-eq-RULE_RESERVED_MEMBER c = c.is_reserved.ensures ∙ ap is_reserved c.name_in-name.ensures.is ∙ argument_five c.args.rule (table_of c.args.t.now) (arguments_in c.args.t.now c.args.from c.args.end) c.args.a (argument_from c.args.t.now c.args.start c.args.stop) c.if-rule-eq-RULE_NO_TYPE.false c.if-rule-eq-RULE_BASE.false c.if-rule-eq-RULE_NAME_REPEATED.false c.if-rule-eq-RULE_RESERVED_MEMBER.true

pub returns : goal.returns
returns c = argument_other c.args.rule (table_of c.args.t.now) (arguments_in c.args.t.now c.args.from c.args.end) c.args.a (argument_from c.args.t.now c.args.start c.args.stop) c.if-rule-eq-RULE_NO_TYPE.false c.if-rule-eq-RULE_BASE.false c.if-rule-eq-RULE_NAME_REPEATED.false c.if-rule-eq-RULE_RESERVED_MEMBER.false
