-- The definition that each row stands in.
-- Assumes nothing.
use Rattle.std.specs.Prelude.{◌≡◌, List, ℕ, ◌<◌, ◌≤◌, length, get_or, T}
use Rattle.paper.specs.Numbers.{most_rows}
use Rattle.paper_query.specs.Constructs.{Doc, count, row_of}
use Rattle.paper_query.specs.Reaching.{is_definition, Within}
use Rattle.query_rows.specs.Rowed.{room_of}

-- the row of an operation or of a fragment definition
abbrev pub Defines : Doc → ℕ → Type 0
Defines d a = T (is_definition (row_of d a))

-- row i stands in the definition of row o and in no other; in none if o is no row
pub record Owner (d : Doc) (i o : ℕ) : Type 0 where
  pub most : o ≤ most_rows
  pub defines : o < count d → Defines d o
  pub stands : o < count d → Within d o i
  pub sole : (a : ℕ) → Defines d a → Within d a i → o ≡ a

-- the owner of each row
pub record Owned (d : Doc) (owner : List ℕ) : Type 0 where
  pub size : length owner ≡ room_of (count d)
  pub owns : (i : ℕ) → i < count d → Owner d i (get_or owner i 0)

-- the same of the rows before row i
pub record OwnedTo (d : Doc) (i : ℕ) (owner : List ℕ) : Type 0 where
  pub size : length owner ≡ room_of (count d)
  pub owns : (j : ℕ) → j < i → Owner d j (get_or owner j 0)
