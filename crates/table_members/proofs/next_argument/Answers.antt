-- The fields of the tag are the arguments.
use Rattle.table_members.proofs.TagLaws.{next_argument}
use Rattle.table_members.proofs.next_argument.Goals as goal

pub returns : goal.returns
returns c = next_argument c.args.t.now c.args.at c.args.end c.next_tag.result c.next_tag.ensures
