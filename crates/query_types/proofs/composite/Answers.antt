-- By what the name means.
use mathlib.Core.Path.{refl, sym, ◌∙◌}
use Rattle.paper_table.specs.Types.{built_in, no_meaning, definition}
use Rattle.table_book.specs.Book.{part}
use Rattle.query_types.proofs.CompositeLaws.{composite_by}
use Rattle.query_types.proofs.composite.Goals as goal

pub returns-in-Definition : goal.returns-in-Definition
returns-in-Definition c = let a = c.args in
    composite_by a.t.now (part a.s.now a.at a.n) (definition _) (sym c.in-Definition.is ∙ c.meaning_of-m.ensures) c.if_composite.ensures

pub returns-in-BuiltIn : goal.returns-in-BuiltIn
returns-in-BuiltIn c = let a = c.args in
    composite_by a.t.now (part a.s.now a.at a.n) built_in (sym c.in-BuiltIn.is ∙ c.meaning_of-m.ensures) refl

pub returns-in-Nothing : goal.returns-in-Nothing
returns-in-Nothing c = let a = c.args in
    composite_by a.t.now (part a.s.now a.at a.n) no_meaning (sym c.in-Nothing.is ∙ c.meaning_of-m.ensures) refl
