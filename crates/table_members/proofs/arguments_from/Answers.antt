use Rattle.table_members.proofs.PartLaws.{arguments_field, arguments_none}
use Rattle.table_members.proofs.arguments_from.Goals as goal

pub returns-then-tag-ne-TAG_FIELD : goal.returns-then-tag-ne-TAG_FIELD
returns-then-tag-ne-TAG_FIELD c = let a = c.args in arguments_none a.t.now a.tag a.start a.end c.requires.order c.requires.within c.if-tag-ne-TAG_FIELD.true

pub returns : goal.returns
returns c = let a = c.args in arguments_field a.t.now a.tag a.start a.end c.requires.order c.requires.within c.if-tag-ne-TAG_FIELD.false
