-- The cell has the mark, or it is set.
use Rattle.table_book.specs.Book.{part}
use Rattle.table_rules_4_8_quick.proofs.SoundLaws.{noted_old, noted_new}
use Rattle.table_rules_4_8_quick.proofs.note.Goals as goal

pub returns-then-seen-k : goal.returns-then-seen-k
returns-then-seen-k c = let a = c.args in
    noted_old a.seen.now a.mark (part a.t.now a.at a.n) c.cell_of-k.result c.cell_of-k.ensures.0 c.requires.2 c.if-seen-k.true

pub returns : goal.returns
returns c = let a = c.args in
    noted_new a.seen.now a.mark (part a.t.now a.at a.n) c.cell_of-k.result c.cell_of-k.ensures.0 c.requires.2 c.cell_of-k.ensures.1 c.if-seen-k.false
