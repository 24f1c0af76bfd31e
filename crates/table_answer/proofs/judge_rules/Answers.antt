-- The book and the bits, then the rules.
use mathlib.Core.Path.{◌∙◌}
use Rattle.table_answer.proofs.TablesLaws.{bookable, checkable, rules_judge}
use Rattle.table_answer.proofs.judge_rules.Goals as goal

pub fill-requires : goal.fill-requires
fill-requires c = bookable _ _ c.requires.0 c.requires.1 c.requires.2 c.requires.3

pub fill-requires-2 : goal.fill-requires-2
fill-requires-2 c = (c.fill.ensures, c.requires.4)

pub first_break-requires : goal.first_break-requires
first_break-requires c = (checkable _ _ c.requires.1 c.requires.2 c.fill.ensures, c.fill-2.ensures, c.requires.5)

pub returns : goal.returns
returns c = record { is = c.first_break.ensures ∙ rules_judge _ c.requires.0 c.requires.1 c.requires.2; booked = λ e. c.fill.ensures }
