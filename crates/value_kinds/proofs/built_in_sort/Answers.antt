-- Name by name.
use mathlib.Core.Path.{sym, ◌∙◌}
use Rattle.table_book.specs.Book.{part}
use Rattle.value_kinds.proofs.KindLaws.{built_1, built_2, built_3, built_4, built_5}
use Rattle.value_kinds.proofs.built_in_sort.Goals as goal

pub returns-then-is_text : goal.returns-then-is_text
returns-then-is_text c = let a = c.args in built_1 (part a.s.now a.at a.n) (sym c.is_text.ensures ∙ c.if-is_text.true)

pub returns-then-is_text-2 : goal.returns-then-is_text-2
returns-then-is_text-2 c = let a = c.args in built_2 (part a.s.now a.at a.n) (sym c.is_text.ensures ∙ c.if-is_text.false) (sym c.is_text-2.ensures ∙ c.if-is_text-2.true)

pub returns-then-is_text-3 : goal.returns-then-is_text-3
returns-then-is_text-3 c = let a = c.args in built_3 (part a.s.now a.at a.n) (sym c.is_text.ensures ∙ c.if-is_text.false) (sym c.is_text-2.ensures ∙ c.if-is_text-2.false) (sym c.is_text-3.ensures ∙ c.if-is_text-3.true)

pub returns-then-is_text-4 : goal.returns-then-is_text-4
returns-then-is_text-4 c = let a = c.args in built_4 (part a.s.now a.at a.n) (sym c.is_text.ensures ∙ c.if-is_text.false) (sym c.is_text-2.ensures ∙ c.if-is_text-2.false) (sym c.is_text-3.ensures ∙ c.if-is_text-3.false) (sym c.is_text-4.ensures ∙ c.if-is_text-4.true)

pub returns : goal.returns
returns c = let a = c.args in built_5 (part a.s.now a.at a.n) (sym c.is_text.ensures ∙ c.if-is_text.false) (sym c.is_text-2.ensures ∙ c.if-is_text-2.false) (sym c.is_text-3.ensures ∙ c.if-is_text-3.false) (sym c.is_text-4.ensures ∙ c.if-is_text-4.false)
