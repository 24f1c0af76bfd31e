-- A built-in scalar, or the number found.
use mathlib.Core.Path.{sym, ◌∙◌}
use Rattle.table_book.specs.Book.{part}
use Rattle.table_types.proofs.Meanings.{number_built_in, number_first}
use Rattle.table_types.proofs.number_meant.Goals as goal

pub returns-then-is_built_in : goal.returns-then-is_built_in
returns-then-is_built_in c = number_built_in c.args.t.now c.args.book.now c.requires.0 (part c.args.s.now c.args.at c.args.n) (sym c.is_built_in.ensures ∙ c.if-is_built_in.true) c.count_of.ensures

pub returns : goal.returns
returns c = number_first c.args.t.now c.args.book.now c.requires.0 (part c.args.s.now c.args.at c.args.n) (sym c.is_built_in.ensures ∙ c.if-is_built_in.false) c.first_type.ensures
