-- The text `__typename`.
use Rattle.paper_query.specs.Enclosing.{is_typename}
use Rattle.query_fields.proofs.is_typename.Goals as goal

pub returns : goal.returns
unfolding is_typename
returns c = c.is_text.ensures
