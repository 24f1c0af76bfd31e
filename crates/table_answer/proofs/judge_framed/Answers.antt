use mathlib.Core.Path.{refl}
use Rattle.table_answer.proofs.TablesLaws.{counts_within, counts_over, blank}
use Rattle.table_answer.proofs.judge_framed.Goals as goal

pub over_unless-requires : goal.over_unless-requires
over_unless-requires c = (c.requires.0, c.requires.3)

pub judge_rules-requires : goal.judge_rules-requires
judge_rules-requires c = (c.requires.0, c.requires.1, counts_within _ _ c.over_unless.ensures c.in_default.is, c.requires.2, blank, refl)

pub returns-in-Err : goal.returns-in-Err
returns-in-Err c = counts_over _ _ _ _ c.requires.1 c.over_unless.ensures c.in-Err.is
