-- Rows linked by what they have in common: the rows right below one row, the rows of one kind.
-- Assumes nothing.
use Rattle.std.specs.Prelude.{◌≡◌, Bool, List, ℕ, suc, ◌+◌, ◌<◌, ◌≤◌, length, drop, get_or}
use Rattle.paper.specs.Numbers.{most_rows}
use Rattle.paper.specs.Rows.{Row}
use Rattle.paper_table.specs.Lists.{first_at}
use Rattle.paper_query.specs.Constructs.{no_row, is, below}
use Rattle.query_rows.specs.Rowed.{room_of}

-- the number of the first from number i on that passes; the count of all if none does
unfoldable pub next_with : {A : Type 0} → (A → Bool) → List A → ℕ → ℕ
next_with p xs i = i + first_at p (drop i xs)

-- how many numbers a list of firsts has (one for each row, and one for no row), and how many kinds are linked
abbrev pub firsts_size : ℕ
firsts_size = 2049

abbrev pub kinds_size : ℕ
kinds_size = 32

-- of each row the first right below it, and after each row the next beside it
pub record Family (rs : List Row) (first next : List ℕ) : Type 0 where
  pub firsts : length first ≡ firsts_size
  pub nexts : length next ≡ room_of (length rs)
  pub eldest : (p : ℕ) → p ≤ most_rows → get_or first p 0 ≡ next_with (below p) rs 0
  pub younger : (j : ℕ) → j < length rs → get_or next j 0 ≡ next_with (below (get_or rs j no_row).parent) rs (suc j)

-- of each kind the first row, and after each row the next of its kind
pub record Kinds (rs : List Row) (first next : List ℕ) : Type 0 where
  pub firsts : length first ≡ kinds_size
  pub nexts : length next ≡ room_of (length rs)
  pub earliest : (k : ℕ) → k < kinds_size → get_or first k 0 ≡ next_with (is k) rs 0
  pub later : (j : ℕ) → j < length rs → (get_or rs j no_row).kind < kinds_size → get_or next j 0 ≡ next_with (is (get_or rs j no_row).kind) rs (suc j)
