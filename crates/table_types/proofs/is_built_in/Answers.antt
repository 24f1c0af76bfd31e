-- Name by name.
use mathlib.Core.Path.{sym, ◌∙◌}
use Rattle.table_book.specs.Book.{part}
use Rattle.table_types.proofs.BuiltIns.{built_1, built_2, built_3, built_4, built_5}
use Rattle.table_types.proofs.is_built_in.Goals as goal

pub returns-then-is_text : goal.returns-then-is_text
returns-then-is_text c = built_1 (part c.args.s.now c.args.at c.args.n) (sym c.is_text.ensures ∙ c.if-is_text.true)

pub returns-then-is_text-2 : goal.returns-then-is_text-2
returns-then-is_text-2 c = built_2 (part c.args.s.now c.args.at c.args.n) (sym c.is_text.ensures ∙ c.if-is_text.false) (sym c.is_text-2.ensures ∙ c.if-is_text-2.true)

pub returns-then-is_text-3 : goal.returns-then-is_text-3
returns-then-is_text-3 c = built_3 (part c.args.s.now c.args.at c.args.n) (sym c.is_text.ensures ∙ c.if-is_text.false) (sym c.is_text-2.ensures ∙ c.if-is_text-2.false) (sym c.is_text-3.ensures ∙ c.if-is_text-3.true)

pub returns-then-is_text-4 : goal.returns-then-is_text-4
returns-then-is_text-4 c = built_4 (part c.args.s.now c.args.at c.args.n) (sym c.is_text.ensures ∙ c.if-is_text.false) (sym c.is_text-2.ensures ∙ c.if-is_text-2.false) (sym c.is_text-3.ensures ∙ c.if-is_text-3.false) (sym c.is_text-4.ensures ∙ c.if-is_text-4.true)

pub returns : goal.returns
returns c = built_5 (part c.args.s.now c.args.at c.args.n) (sym c.is_text.ensures ∙ c.if-is_text.false) (sym c.is_text-2.ensures ∙ c.if-is_text-2.false) (sym c.is_text-3.ensures ∙ c.if-is_text-3.false) (sym c.is_text-4.ensures ∙ c.if-is_text-4.false) c.is_text-5.ensures
