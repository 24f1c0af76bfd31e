-- The code's answers on counts.
-- Assumes nothing.
use Rattle.std.specs.Prelude.{cond, List, [], ℕ}
use Rattle.paper.specs.Numbers.{most_wrappers}
use Rattle.paper_table.specs.TableNumbers.{tag_scalar, tag_roots}
use Rattle.paper_table.specs.TableSizes.{wrappers_over}
use Rattle.table_framing.specs.declared.Holding.{Holding}
use Rattle.table_framing.specs.declared.Holding.TheVariants.{Name, Reference, Fields, Nothing}
use Rattle.table_rooms.specs.Rooms.{between}

-- the offsets over a size in a content that is no fields
abbrev pub leaf_overs : Holding → ℕ → List ℕ → List ℕ
leaf_overs Name start s = []
leaf_overs Reference start s = wrappers_over most_wrappers start s
leaf_overs (Fields first second from to) start s = []
leaf_overs Nothing start s = []

-- the records that a field of a table is
abbrev pub record_by : ℕ → ℕ
record_by k = cond (between tag_scalar tag_roots k) 1 0
