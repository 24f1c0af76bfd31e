-- However often it is linked, it is linked.
use mathlib.Core.Path.{refl, ◌∙◌}
use native.Mathlib.Omega.{arith}
use Rattle.table_book.proofs.Linking.{linked_on}
use Rattle.table_book.proofs.link.Goals as goal

pub bounds-book-1793 : goal.bounds-book-1793
bounds-book-1793 c = omega (arith, c.requires.cells)

pub loop-init : goal.loop-init
loop-init c = (record { kept = record { cells = refl; entries = λ k l. refl }; indexed = c.link_by-crowded.ensures.indexed }, omega arith)

pub shape_of-book-then-not-crowded : goal.shape_of-book-then-not-crowded
shape_of-book-then-not-crowded c = c.loop.invariant.0.kept.cells ∙ c.link_by-crowded.ensures.kept.cells

pub returns-then-not-crowded : goal.returns-then-not-crowded
returns-then-not-crowded c = linked_on c.link_by-crowded.ensures.kept c.loop.invariant.0

pub link_by-crowded-requires-in-loop : goal.link_by-crowded-requires-in-loop
link_by-crowded-requires-in-loop c = c.loop.invariant.0.indexed.held

pub loop-preserved : goal.loop-preserved
loop-preserved c = (linked_on c.loop.invariant.0.kept c.link_by-crowded-in-loop.ensures, omega arith)

pub shape_of-book : goal.shape_of-book
shape_of-book c = c.loop.invariant.0.kept.cells ∙ c.link_by-crowded.ensures.kept.cells

pub returns : goal.returns
returns c = linked_on c.link_by-crowded.ensures.kept c.loop.invariant.0
