-- The fields of the tag are the implemented names.
use Rattle.table_members.proofs.TagLaws.{next_implemented}
use Rattle.table_members.proofs.next_implemented.Goals as goal

pub returns : goal.returns
returns c = next_implemented c.args.t.now c.args.at c.args.end c.next_tag.result c.next_tag.ensures
