-- The entry's cell.
use Rattle.table_entries.proofs.meant_by.Goals as goal

pub returns : goal.returns
returns c = λ t book name type x. rw c.cell_of.ensures x.means.number
