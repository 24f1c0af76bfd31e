-- By the wrapper under the outermost Non-Null.
use Rattle.query_place_types.proofs.ShapeLaws.{items_none, items_some}
use Rattle.query_place_types.proofs.item_of.Goals as goal

pub returns-then-w-ne-WRAP_LIST : goal.returns-then-w-ne-WRAP_LIST
returns-then-w-ne-WRAP_LIST c = items_none c.args.p c.nullable_at-w.result c.nullable_at-w.ensures.0 c.if-w-ne-WRAP_LIST.true c.unknown.result c.unknown.ensures

pub returns : goal.returns
returns c = items_some c.args.p c.nullable_at-w.result c.nullable_at-w.ensures.0 c.if-w-ne-WRAP_LIST.false
