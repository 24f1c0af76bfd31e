use Rattle.paper_table.specs.Types.{table_of}
use Rattle.table_members.specs.Members.{member_from, arguments_in}
use Rattle.table_members.proofs.PartLaws.{from_bounds}
use Rattle.table_rules_11_15_field.proofs.OwnLaws.{from_slim, asked_by, own_missing, own_extra, own_other}
use Rattle.table_rules_11_15_field.proofs.own_place.Goals as goal

pub returns-then-rule-eq-RULE_FIELD_MISSING : goal.returns-then-rule-eq-RULE_FIELD_MISSING
returns-then-rule-eq-RULE_FIELD_MISSING c = let a = c.args in
    own_missing a.rule (table_of a.t.now) a.member a.part (member_from a.t.now a.tag a.start a.end) (member_from a.t.now a.own_tag a.from a.stop) c.if-rule-eq-RULE_FIELD_MISSING.true

pub returns-then-rule-eq-RULE_FIELD_TYPE : goal.returns-then-rule-eq-RULE_FIELD_TYPE
returns-then-rule-eq-RULE_FIELD_TYPE c = rw c.if-rule-eq-RULE_FIELD_TYPE.true c.type_place.ensures

pub arguments_from-a-requires : goal.arguments_from-a-requires
arguments_from-a-requires c = c.requires.1

pub arguments_from-b-requires : goal.arguments_from-b-requires
arguments_from-b-requires c = c.requires.2

pub first_wrong-requires : goal.first_wrong-requires
first_wrong-requires c = let p = c.requires in
    let f = c.arguments_from-a.ensures in
    let g = c.arguments_from-b.ensures in
    (from_bounds g p.2, from_bounds f p.1, from_slim g p.4, from_slim f p.3)

pub returns-then-rule-eq-RULE_ARGUMENT_EXTRA : goal.returns-then-rule-eq-RULE_ARGUMENT_EXTRA
returns-then-rule-eq-RULE_ARGUMENT_EXTRA c = let a = c.args in
    asked_by a.rule a.member a.part (arguments_in a.t.now c.arguments_from-b.result a.stop) (arguments_in a.t.now c.arguments_from-a.result a.end)
    c.first_wrong.ensures c.arguments_from-b.ensures.are c.arguments_from-a.ensures.are
    (own_extra a.rule (table_of a.t.now) a.member a.part (member_from a.t.now a.tag a.start a.end) (member_from a.t.now a.own_tag a.from a.stop) c.if-rule-eq-RULE_FIELD_MISSING.false c.if-rule-eq-RULE_FIELD_TYPE.false c.if-rule-eq-RULE_ARGUMENT_EXTRA.true)

pub first_wrong-requires-2 : goal.first_wrong-requires-2
first_wrong-requires-2 c = let p = c.requires in
    let f = c.arguments_from-a.ensures in
    let g = c.arguments_from-b.ensures in
    (from_bounds f p.1, from_bounds g p.2, from_slim f p.3, from_slim g p.4)

pub returns : goal.returns
returns c = let a = c.args in
    asked_by a.rule a.member a.part (arguments_in a.t.now c.arguments_from-a.result a.end) (arguments_in a.t.now c.arguments_from-b.result a.stop)
    c.first_wrong-2.ensures c.arguments_from-a.ensures.are c.arguments_from-b.ensures.are
    (own_other a.rule (table_of a.t.now) a.member a.part (member_from a.t.now a.tag a.start a.end) (member_from a.t.now a.own_tag a.from a.stop) c.if-rule-eq-RULE_FIELD_MISSING.false c.if-rule-eq-RULE_FIELD_TYPE.false c.if-rule-eq-RULE_ARGUMENT_EXTRA.false)
