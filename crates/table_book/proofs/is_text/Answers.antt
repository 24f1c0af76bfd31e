-- Texts of two lengths are not the same.
use mathlib.Core.Path.{sym, ◌∙◌}
use Rattle.table_book.specs.Book.{part}
use Rattle.table_book.proofs.Texts.{same_lengths, length_part}
use Rattle.table_book.proofs.is_text.Goals as goal

pub returns-then-l-n : goal.returns-then-l-n
returns-then-l-n c = let a = c.args in
    same_lengths (part a.t.now a.a a.l) (part a.s.now a.at a.n) (λ q. c.if-l-n.true (sym (length_part a.t.now a.a a.l c.requires.0) ∙ q ∙ length_part a.s.now a.at a.n c.requires.1))

pub returns : goal.returns
returns c = rw c.if-l-n.false c.same_text.ensures
