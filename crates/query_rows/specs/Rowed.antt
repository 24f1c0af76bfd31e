-- A document's rows as they lie in the lent numbers, and what every function over them asks.
-- Assumes nothing.
use Rattle.std.specs.Prelude.{◌≡◌, ◌⊎◌, Bool, true, false, cond, List, [], ◌∷◌, ℕ, zero, suc, ◌+◌, ◌*◌, ◌<◌, ◌≤◌, length, get_or, leb}
use Rattle.paper.specs.Numbers.{most_text, most_rows, row_size, rows_size, no_parent}
use Rattle.paper.specs.Rows.{Row}
use Rattle.paper_query.specs.Constructs.{Doc, no_row}

-- number k of row i
abbrev pub cell : List ℕ → ℕ → ℕ → ℕ
cell rows i k = get_or rows (row_size * i + k) 0

abbrev pub row_at : List ℕ → ℕ → Row
row_at rows i =
    record { kind = cell rows i 0; start = cell rows i 1; end = cell rows i 2; parent = cell rows i 3; name_start = cell rows i 4; name_length = cell rows i 5; extra = cell rows i 6 }

-- the n rows from number i on
unfoldable pub rows_from : List ℕ → ℕ → ℕ → List Row
rows_from rows i zero = []
rows_from rows i (suc n) = row_at rows i ∷ rows_from rows (suc i) n

-- the first n rows, and the document that has these and the bytes s
abbrev pub rows_in : List ℕ → ℕ → List Row
rows_in rows n = rows_from rows 0 n

abbrev pub doc_of : List ℕ → List ℕ → ℕ → Doc
doc_of s rows n = record { bytes = s; rows = rows_in rows n }

-- row i of the first n
abbrev pub row_in : List ℕ → ℕ → ℕ → Row
row_in rows n i = get_or (rows_in rows n) i no_row

-- the lent numbers hold n rows, parents before their children, with names in the bytes s; all that is asked of rows, and true of those of a text
pub record Rowed (s rows : List ℕ) (n : ℕ) : Type 0 where
  pub short : length s ≤ most_text
  pub size : length rows ≡ rows_size
  pub few : n ≤ most_rows
  pub parents : (i : ℕ) → i < n → (cell rows i 3 < i) ⊎ (cell rows i 3 ≡ no_parent)
  pub names : (i : ℕ) → i < n → cell rows i 4 + cell rows i 5 ≤ length s

-- the same without the bytes
pub record Sized (rows : List ℕ) (n : ℕ) : Type 0 where
  pub size : length rows ≡ rows_size
  pub few : n ≤ most_rows

-- up to how many rows there are few
abbrev pub few_rows : ℕ
few_rows = 256

-- how many numbers a list has that holds one for each of n rows: few for few rows
unfoldable pub room_of : ℕ → ℕ
room_of n = cond (leb n few_rows) few_rows most_rows

-- an answer that decides a promise
abbrev pub Decides : Bool → Type 0 → Type 0
Decides true P = P
Decides false P = P → ⊥
