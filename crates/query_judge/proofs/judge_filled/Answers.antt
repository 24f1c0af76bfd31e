-- The room is enough for the entries of a table of right framing.
use Rattle.paper_table.proofs.JudgingLaws.{judge_accepted}
use Rattle.table_entries.proofs.Most.{framed_few}
use Rattle.query_judge.proofs.judge_filled.Goals as goal

pub fill_entries-requires : goal.fill_entries-requires
fill_entries-requires c = let p = c.requires in
    record { booked = p.2; few = framed_few _ _ ((judge_accepted _).0 p.1).0 p.0 p.3 }

pub judge_entered-requires : goal.judge_entered-requires
judge_entered-requires c = let p = c.requires in
    let a = (judge_accepted _).0 p.1 in
    (p.0, record { framed = a.0; counted = a.1 }, p.2, c.fill_entries.ensures, p.4)
