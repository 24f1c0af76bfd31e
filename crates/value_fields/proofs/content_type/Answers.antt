-- By where it begins.
use Rattle.value_fields.proofs.ContentLaws.{leaf_type, member_type}
use Rattle.value_fields.proofs.content_type.Goals as goal

pub returns-then-start-eq0 : goal.returns-then-start-eq0
returns-then-start-eq0 c = leaf_type c.args.t.now c.args.start c.args.end c.if-start-eq0.true

pub returns : goal.returns
returns c = member_type c.args.t.now c.args.start c.args.end c.composite.result c.if-start-eq0.false _ _ _ c.type_in-m.ensures c.composite.ensures
