use Rattle.query_judge.proofs.judge_placed.Goals as goal

pub targets-requires : goal.targets-requires
targets-requires c = let p = c.requires in
    (p.1.rowed, p.2, p.4)

pub flags-requires : goal.flags-requires
flags-requires c = let p = c.requires in
    (p.1.rowed, p.1.family, p.2, p.3, c.targets.ensures, p.5)

pub judge_rows-requires : goal.judge_rows-requires
judge_rows-requires c = let p = c.requires in
    record { short = p.0; asked = p.1; kinds = p.2; placed = p.3; targeted = c.targets.ensures; flagged = c.flags.ensures }

pub returns : goal.returns
returns c = c.judge_rows.ensures
