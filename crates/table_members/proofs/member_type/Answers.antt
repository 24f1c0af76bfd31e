use Rattle.table_members.proofs.PartLaws.{type_of_name}
use Rattle.table_members.proofs.MemberLaws.{field_is, input_is}
use Rattle.table_members.proofs.member_type.Goals as goal

pub returns-then-tag-eq-TAG_FIELD : goal.returns-then-tag-eq-TAG_FIELD
returns-then-tag-eq-TAG_FIELD c = let a = c.args in rw (field_is a.t.now a.tag a.start a.end c.if-tag-eq-TAG_FIELD.true) c.type_in.ensures

pub returns-then-tag-eq-TAG_ARGUMENT : goal.returns-then-tag-eq-TAG_ARGUMENT
returns-then-tag-eq-TAG_ARGUMENT c = let a = c.args in rw (input_is a.t.now a.tag a.start a.end c.if-tag-eq-TAG_ARGUMENT.true) c.type_in-then-tag-eq-TAG_ARGUMENT.ensures

pub returns : goal.returns
returns c = let a = c.args in type_of_name a.t.now a.tag a.start a.end c.requires.order c.requires.within c.if-tag-eq-TAG_FIELD.false c.if-tag-eq-TAG_ARGUMENT.false
