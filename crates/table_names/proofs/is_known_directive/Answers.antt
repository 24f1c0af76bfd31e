-- The two words, one after the other.
use mathlib.Core.Path.{sym, ◌∙◌}
use Rattle.paper.specs.Tokens.{same}
use Rattle.paper_table.specs.Lists.{bytes}
use Rattle.paper_table.specs.Types.{built_in_directives}
use Rattle.table_book.specs.Book.{part}
use Rattle.table_names.proofs.NameLaws.{word_here, word_later, word_last}
use Rattle.table_names.proofs.is_known_directive.Goals as goal

pub returns-then-is_text : goal.returns-then-is_text
unfolding built_in_directives
returns-then-is_text c = word_here (same (part c.args.t.now c.args.at c.args.n)) _ _ (sym c.is_text.ensures ∙ c.if-is_text.true)

pub returns : goal.returns
unfolding built_in_directives
returns c = word_later (same (part c.args.t.now c.args.at c.args.n)) _ _ (sym c.is_text.ensures ∙ c.if-is_text.false) (word_last (same (part c.args.t.now c.args.at c.args.n)) (bytes "include") c.is_text-2.ensures)
