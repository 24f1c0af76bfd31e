-- `is_object` meets its contract: the record's kind stands in the book.
use Rattle.plan_walk_asked.proofs.AskedLaws.{object_is}
use Rattle.plan_walk_asked.proofs.is_object.Goals as goal

pub returns : goal.returns
returns c = object_is _ _ c.requires _ _ c.kind_in.ensures
