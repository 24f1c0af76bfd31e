-- What is asked of lent buffers and inputs before anything is read, and what clearing does.
use Rattle.std.specs.Prelude.{List, ◌++◌, ℕ, ◌-◌, ◌≤◌, ◌<◌, length, take, replicate, Result, Ok, Err}
use Rattle.paper.specs.Numbers.{rows_size, most_text, input_document}
use Rattle.paper.specs.declared.Refusal.{Refusal}
use Rattle.paper.specs.declared.Refusal.TheVariants.{Buffer, OverLength}
use Rattle.paper_table.specs.TableNumbers.{most_table, input_table}

-- zeros from a place on
abbrev pub cleared : ℕ → List ℕ → List ℕ
cleared at rows = take at rows ++ replicate (length rows - at) 0

-- the first refusal that the lengths of the rows and the inputs ask for: 1, then 2 with the least input
pub data Asks (rows document table : ℕ) : Refusal → Type 0 where
  short_rows : rows < rows_size → Asks rows document table Buffer
  long_document : rows_size ≤ rows → most_text < document → Asks rows document table (OverLength input_document)
  long_table : rows_size ≤ rows → document ≤ most_text → most_table < table → Asks rows document table (OverLength input_table)

abbrev pub Sized : ℕ → ℕ → ℕ → Result (Unit {0}) Refusal → Type 0
Sized rows document table (Ok u) = (rows_size ≤ rows) × (document ≤ most_text) × (table ≤ most_table)
Sized rows document table (Err r) = Asks rows document table r
