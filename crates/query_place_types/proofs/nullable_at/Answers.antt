-- Those of the place, wider.
use Rattle.query_place_types.proofs.nullable_at.Goals as goal

pub returns : goal.returns
returns c = rw (← c.wide.ensures) c.nullable_of.ensures
