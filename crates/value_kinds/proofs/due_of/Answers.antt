-- A built-in scalar, or the definition that is found.
use mathlib.Core.Path.{refl, sym, ap, ◌∙◌}
use Rattle.table_book.specs.Book.{part}
use Rattle.value_kinds.specs.Dues.{sort_of_tag}
use Rattle.value_kinds.proofs.KindLaws.{sorted_built_in, sorted_meant}
use Rattle.value_kinds.proofs.due_of.Goals as goal

pub returns-then-is_built_in : goal.returns-then-is_built_in
returns-then-is_built_in c = let a = c.args in (sorted_built_in a.t.now a.book.now c.requires.0 (part a.s.now a.at a.n) _ 0 (sym c.is_built_in.ensures ∙ c.if-is_built_in.true) c.built_in_sort.ensures, refl)

pub returns : goal.returns
returns c = let a = c.args in (sorted_meant a.t.now a.book.now c.requires.0 (part a.s.now a.at a.n) _ _ (sym c.is_built_in.ensures ∙ c.if-is_built_in.false) c.first_type-k.ensures (c.tag_sort.ensures ∙ ap sort_of_tag c.kind_in.ensures), refl)
