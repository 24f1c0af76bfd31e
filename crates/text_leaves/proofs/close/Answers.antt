-- close: what it writes and answers is put_end and past.
use Rattle.text_leaves.proofs.MovedLaws.{ready_lies}
use Rattle.text_leaves.proofs.close.Goals as goal

pub past-requires : goal.past-requires
past-requires c = (c.requires.0.short, (ready_lies _ _ _ _ c.requires.0).2)

pub returns : goal.returns
returns c = record { ended = c.put_end.ensures; moved = c.past.ensures }
