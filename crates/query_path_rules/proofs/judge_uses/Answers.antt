-- Those that are like others are set apart, and settled at the end.
use mathlib.Core.Path.{sym, ◌∙◌}
use Rattle.query_rows.proofs.RowsIn.{rowed_sized}
use Rattle.query_alike.proofs.LikenLaws.{unlinked}
use Rattle.query_path_rules.proofs.judge_uses.Goals as goal

pub liken-requires : goal.liken-requires
liken-requires c = (unlinked c.requires.0, c.requires.1, c.requires.4, c.requires.5)

pub judge_operations-requires : goal.judge_operations-requires
judge_operations-requires c = (c.requires.0, c.requires.1, c.requires.2, c.requires.3, c.liken.auto.stack ∙ c.requires.4, c.liken.ensures)

pub settle-requires : goal.settle-requires
settle-requires c = (rowed_sized c.requires.0.rowed, c.requires.1, c.judge_operations.ensures)

pub shape_of-mark : goal.shape_of-mark
shape_of-mark c = c.judge_operations.auto.mark

pub shape_of-stack : goal.shape_of-stack
shape_of-stack c = c.judge_operations.auto.stack ∙ c.liken.auto.stack

pub shape_of-flag : goal.shape_of-flag
shape_of-flag c = c.settle.ensures.size ∙ sym c.requires.5.size

pub returns : goal.returns
returns c = c.settle.ensures
