-- The least rule that one row breaks.
-- Assumes nothing.
use Rattle.std.specs.Prelude.{ℕ, ◌<◌, ◌≤◌}
use Rattle.paper_table.specs.Types.{Table}
use Rattle.paper_query.specs.Constructs.{Doc}
use Rattle.paper_query.specs.QueryRules.{Broken}

-- `LeastAt t d i r`: r is the least rule that row i breaks, 0 if it breaks none
pub data LeastAt (t : Table) (d : Doc) (i : ℕ) : ℕ → Type 0 where
  none_at : ((k : ℕ) → Broken t d i k → ⊥) → LeastAt t d i 0
  least_at : {r : ℕ} → 0 < r → Broken t d i r → ((k : ℕ) → Broken t d i k → r ≤ k) → LeastAt t d i r
