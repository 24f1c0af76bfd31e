-- The first row of a kind and a name.
-- Assumes nothing.
use Rattle.std.specs.Prelude.{List, ℕ}
use Rattle.paper_table.specs.Lists.{first_at}
use Rattle.paper_query.specs.Constructs.{Doc}
use Rattle.query_siblings.specs.Alike.{kind_called}

-- the count of rows if there is none
abbrev pub first_called : Doc → ℕ → List ℕ → ℕ
first_called d k m = first_at (kind_called d k m) d.rows
