-- The entry's three cells.
use Rattle.table_entries.proofs.type_of.Goals as goal

pub returns : goal.returns
returns c = λ t book name type x. rw (c.cell_of.ensures, c.cell_of-2.ensures, c.wide_half.ensures) x.typed
