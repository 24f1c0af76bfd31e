use mathlib.Core.Path.{refl}
use Rattle.table_book.specs.Book.{book_size}
use Rattle.plan_answer.proofs.plan_sized.Goals as goal

pub slice_bounds-plan_with-end : goal.slice_bounds-plan_with-end
slice_bounds-plan_with-end c = refl

pub plan_with-requires : goal.plan_with-requires
plan_with-requires c = (c.requires.0, c.requires.1, c.requires.2, refl {a = book_size})

pub shape_of-plan : goal.shape_of-plan
shape_of-plan c = c.plan-1.given

pub shape_of-report : goal.shape_of-report
shape_of-report c = c.report-1.given

pub returns : goal.returns
returns c = c.plan_with.ensures
