-- The first entry of the kinds is the first type.
use mathlib.Core.Path.{◌∙◌}
use Rattle.table_book.specs.Book.{part}
use Rattle.table_types.proofs.Meanings.{type_first}
use Rattle.table_types.proofs.first_type.Goals as goal

pub returns : goal.returns
returns c = c.find_key.ensures ∙ type_first c.args.t.now c.args.book.now c.requires.0 (part c.args.s.now c.args.at c.args.n)
