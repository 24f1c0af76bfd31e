use Rattle.table_answer.proofs.TablesLaws.{framing_right, framing_wrong}
use Rattle.table_answer.proofs.judge_with.Goals as goal

pub framing_unless-requires : goal.framing_unless-requires
framing_unless-requires c = (c.requires.0, λ e. (c.is_usual-usual.ensures e).0)

pub judge_framed-requires : goal.judge_framed-requires
judge_framed-requires c = (c.requires.0, framing_right _ _ c.framing_unless.ensures c.in-Ok.is, c.requires.1, λ e. (c.is_usual-usual.ensures e).1)

pub returns-in-Err : goal.returns-in-Err
returns-in-Err c = framing_wrong _ _ _ _ c.framing_unless.ensures c.in-Err.is
