-- The first entry of the kind is the first directive.
use mathlib.Core.Path.{◌∙◌}
use Rattle.table_book.specs.Book.{part}
use Rattle.table_types.proofs.Meanings.{directive_first}
use Rattle.table_types.proofs.first_directive.Goals as goal

pub returns : goal.returns
returns c = c.find_key.ensures ∙ directive_first c.args.t.now c.args.book.now c.requires.0 (part c.args.s.now c.args.at c.args.n)
