-- Not nothing, not an output type.
use Rattle.query_place_types.proofs.ShapeLaws.{input_nothing, input_type}
use Rattle.query_place_types.proofs.is_input.Goals as goal

pub returns-then-tag-eq-TAG_NOTHING : goal.returns-then-tag-eq-TAG_NOTHING
returns-then-tag-eq-TAG_NOTHING c = input_nothing c.args.tag c.if-tag-eq-TAG_NOTHING.true

pub returns : goal.returns
returns c = input_type c.args.tag c.if-tag-eq-TAG_NOTHING.false c.is_composite.ensures
