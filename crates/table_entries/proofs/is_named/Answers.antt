-- Names of other keys are others.
use mathlib.Core.Path.{sym, ◌∙◌}
use Rattle.table_book.specs.Book.{part}
use Rattle.table_entries.specs.Entries.{name_at}
use Rattle.table_entries.proofs.Keys.{other_key}
use Rattle.table_entries.proofs.is_named.Goals as goal

pub returns-then-cell_of-key : goal.returns-then-cell_of-key
returns-then-cell_of-key c = let a = c.args in sym (other_key (name_at a.t.now a.es.now a.e) (part a.s.now a.at a.n) (λ z. c.if-cell_of-key.true (c.cell_of.ensures ∙ c.requires.0.key_is ∙ z ∙ sym c.requires.2)))

pub returns : goal.returns
returns c = c.is_text.ensures ∙ rw (c.cell_of-2.ensures, c.cell_of-3.ensures)
