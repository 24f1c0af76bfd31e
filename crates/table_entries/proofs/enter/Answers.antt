-- The header read, entered.
use Rattle.table_entries.proofs.enter.Goals as goal

pub returns : goal.returns
returns c = c.enter_header.ensures _ _ c.read_header-h.ensures.named c.read_header-h.ensures.typed
