use mathlib.Core.Path.{sym, ◌∙◌}
use Rattle.query_judge.proofs.judge_linked.Goals as goal

pub enclose-requires : goal.enclose-requires
enclose-requires c = (c.requires.2, c.requires.3, c.requires.5, c.requires.6)

pub places-requires : goal.places-requires
places-requires c = (c.requires.1, c.requires.2.booked, c.requires.3, c.requires.2.rowed, c.enclose.ensures)

pub judge_placed-requires : goal.judge_placed-requires
judge_placed-requires c = (c.requires.0, c.requires.2, c.requires.4, c.places.ensures, c.requires.7, c.requires.8)

pub shape_of-inside : goal.shape_of-inside
shape_of-inside c = c.places.ensures.all.enclosed.inners ∙ sym c.requires.5

pub shape_of-at : goal.shape_of-at
shape_of-at c = c.places.ensures.all.enclosed.ats ∙ sym c.requires.6

pub returns : goal.returns
returns c = c.judge_placed.ensures
