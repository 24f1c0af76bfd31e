-- By what the tag holds.
use native.Mathlib.Omega.{arith}
use Rattle.table_members.proofs.MemberLaws.{field_is, input_is, name_is}
use Rattle.table_members.proofs.TagLaws.{part_slice}
use Rattle.table_members.proofs.member_name.Goals as goal

pub returns-then-tag-eq-TAG_FIELD : goal.returns-then-tag-eq-TAG_FIELD
returns-then-tag-eq-TAG_FIELD c = let a = c.args in
    rw (field_is a.t.now a.tag a.start a.end c.if-tag-eq-TAG_FIELD.true) c.name_in.ensures

pub returns-then-tag-eq-TAG_ARGUMENT : goal.returns-then-tag-eq-TAG_ARGUMENT
returns-then-tag-eq-TAG_ARGUMENT c = let a = c.args in
    rw (input_is a.t.now a.tag a.start a.end c.if-tag-eq-TAG_ARGUMENT.true) c.name_in-then-tag-eq-TAG_ARGUMENT.ensures

pub returns : goal.returns
returns c = let a = c.args in
    rw (name_is a.t.now a.tag a.start a.end c.if-tag-eq-TAG_FIELD.false c.if-tag-eq-TAG_ARGUMENT.false) (record { is = part_slice a.t.now a.start a.end; within = omega (arith, c.requires.order, c.requires.within) })
