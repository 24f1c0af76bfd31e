-- The three words, one after the other.
use mathlib.Core.Path.{sym, ◌∙◌}
use Rattle.paper.specs.Tokens.{same}
use Rattle.paper_table.specs.Lists.{bytes}
use Rattle.paper_table.specs.Rule6EnumValue.{no_enum_values}
use Rattle.table_book.specs.Book.{part}
use Rattle.table_names.proofs.NameLaws.{word_here, word_later, word_last}
use Rattle.table_names.proofs.is_no_enum_value.Goals as goal

pub returns-then-is_text : goal.returns-then-is_text
unfolding no_enum_values
returns-then-is_text c = word_here (same (part c.args.t.now c.args.at c.args.n)) _ _ (sym c.is_text.ensures ∙ c.if-is_text.true)

pub returns-then-is_text-2 : goal.returns-then-is_text-2
unfolding no_enum_values
returns-then-is_text-2 c = word_later (same (part c.args.t.now c.args.at c.args.n)) _ _ (sym c.is_text.ensures ∙ c.if-is_text.false) (word_here (same (part c.args.t.now c.args.at c.args.n)) _ _ (sym c.is_text-2.ensures ∙ c.if-is_text-2.true))

pub returns : goal.returns
unfolding no_enum_values
returns c = word_later (same (part c.args.t.now c.args.at c.args.n)) _ _ (sym c.is_text.ensures ∙ c.if-is_text.false) (word_later (same (part c.args.t.now c.args.at c.args.n)) _ _ (sym c.is_text-2.ensures ∙ c.if-is_text-2.false) (word_last (same (part c.args.t.now c.args.at c.args.n)) (bytes "null") c.is_text-3.ensures))
