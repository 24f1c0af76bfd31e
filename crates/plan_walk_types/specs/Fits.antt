-- Which type conditions apply to an object type, a byte for each record.
-- Assumes nothing.
use Rattle.std.specs.Prelude.{◌≡◌, Bool, true, false, ◌&&◌, List, ℕ, ◌<◌, length, get_or, ltb}
use Rattle.paper_table.specs.Types.{Table}
use Rattle.table_book.specs.Book.{room}
use Rattle.paper_plan.specs.Applies.{applies}

abbrev pub bit : Bool → ℕ
bit true = 1
bit false = 0

-- the byte of record k: 1 if there is such a record and its type condition applies to the object o
abbrev pub fit : Table → ℕ → ℕ → ℕ
fit t o k = bit (ltb k (length t) && applies t k o)

-- the first m bytes are right
pub record FitsTo (t : Table) (o : ℕ) (fits : List ℕ) (m : ℕ) : Type 0 where
  pub size : length fits ≡ room
  pub right : (k : ℕ) → k < m → get_or fits k 0 ≡ fit t o k

-- all 256 are
abbrev pub Fits : Table → ℕ → List ℕ → Type 0
Fits t o fits = FitsTo t o fits room
