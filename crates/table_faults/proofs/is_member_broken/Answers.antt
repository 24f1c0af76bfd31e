-- The test that the rule asks of a member.
use mathlib.Core.Path.{ap, ◌∙◌}
use mathlib.Core.Bool.{not}
use mathlib.Core.List.{List}
use Prim.Native.Nat.{ℕ}
use lib.Dec.{eqb}
use lib.ListN.{take}
use Rattle.paper.specs.Tokens.{same}
use Rattle.paper_table.specs.Lists.{any_of}
use Rattle.paper_table.specs.Types.{table_of, meant, is_reserved, member_named}
use Rattle.paper_table.specs.Rule6EnumValue.{no_enum_values}
use Rattle.table_members.specs.Members.{members_in, member_from}
use Rattle.table_faults.proofs.FailLaws.{member_seven, member_eight, member_four, member_five, member_six, member_other}
use Rattle.table_faults.proofs.is_member_broken.Goals as goal

pub returns-then-rule-eq-RULE_NO_TYPE : goal.returns-then-rule-eq-RULE_NO_TYPE
returns-then-rule-eq-RULE_NO_TYPE c = c.is_member_unknown.ensures ∙ member_seven c.args.rule (table_of c.args.t.now) (members_in c.args.t.now c.args.from c.args.end) c.args.m (member_from c.args.t.now c.args.tag c.args.start c.args.stop) c.if-rule-eq-RULE_NO_TYPE.true

pub returns-then-rule-eq-RULE_BASE : goal.returns-then-rule-eq-RULE_BASE
returns-then-rule-eq-RULE_BASE c = c.is_member_base_wrong.ensures ∙ member_eight c.args.rule (table_of c.args.t.now) (members_in c.args.t.now c.args.from c.args.end) c.args.m (member_from c.args.t.now c.args.tag c.args.start c.args.stop) c.if-rule-eq-RULE_NO_TYPE.false c.if-rule-eq-RULE_BASE.true

pub returns-then-rule-eq-RULE_NAME_REPEATED : goal.returns-then-rule-eq-RULE_NAME_REPEATED
returns-then-rule-eq-RULE_NAME_REPEATED c = c.is_member_before.ensures ∙ ap (λ (x : List ℕ). any_of (member_named x) (take c.args.m (members_in c.args.t.now c.args.from c.args.end))) c.member_name-name.ensures.is ∙ member_four c.args.rule (table_of c.args.t.now) (members_in c.args.t.now c.args.from c.args.end) c.args.m (member_from c.args.t.now c.args.tag c.args.start c.args.stop) c.if-rule-eq-RULE_NO_TYPE.false c.if-rule-eq-RULE_BASE.false c.if-rule-eq-RULE_NAME_REPEATED.true

pub returns-then-rule-eq-RULE_RESERVED_MEMBER : goal.returns-then-rule-eq-RULE_RESERVED_MEMBER
returns-then-rule-eq-RULE_RESERVED_MEMBER c = c.is_reserved.ensures ∙ ap is_reserved c.member_name-name.ensures.is ∙ member_five c.args.rule (table_of c.args.t.now) (members_in c.args.t.now c.args.from c.args.end) c.args.m (member_from c.args.t.now c.args.tag c.args.start c.args.stop) c.if-rule-eq-RULE_NO_TYPE.false c.if-rule-eq-RULE_BASE.false c.if-rule-eq-RULE_NAME_REPEATED.false c.if-rule-eq-RULE_RESERVED_MEMBER.true

pub returns-then-rule-eq-RULE_ENUM_VALUE : goal.returns-then-rule-eq-RULE_ENUM_VALUE
returns-then-rule-eq-RULE_ENUM_VALUE c = c.is_no_enum_value.ensures ∙ ap (λ (x : List ℕ). any_of (same x) no_enum_values) c.member_name-name.ensures.is ∙ member_six c.args.rule (table_of c.args.t.now) (members_in c.args.t.now c.args.from c.args.end) c.args.m (member_from c.args.t.now c.args.tag c.args.start c.args.stop) c.if-rule-eq-RULE_NO_TYPE.false c.if-rule-eq-RULE_BASE.false c.if-rule-eq-RULE_NAME_REPEATED.false c.if-rule-eq-RULE_RESERVED_MEMBER.false c.if-rule-eq-RULE_ENUM_VALUE.true

pub returns : goal.returns
returns c = ap (λ (k : ℕ). not (eqb k 2)) (c.tag_meant.ensures ∙ ap (λ (x : List ℕ). (meant (table_of c.args.t.now) x).tag) c.member_name-name.ensures.is) ∙ member_other c.args.rule (table_of c.args.t.now) (members_in c.args.t.now c.args.from c.args.end) c.args.m (member_from c.args.t.now c.args.tag c.args.start c.args.stop) c.if-rule-eq-RULE_NO_TYPE.false c.if-rule-eq-RULE_BASE.false c.if-rule-eq-RULE_NAME_REPEATED.false c.if-rule-eq-RULE_RESERVED_MEMBER.false c.if-rule-eq-RULE_ENUM_VALUE.false
