-- What is made ready before the rows are judged.
-- Assumes nothing.
use Rattle.std.specs.Prelude.{List, ℕ, ◌≤◌, length}
use Rattle.paper_table.specs.TableNumbers.{most_table}
use Rattle.paper_table.specs.Types.{table_of}
use Rattle.query_rows.specs.Rowed.{rows_in, doc_of}
use Rattle.query_links.specs.Links.{Kinds}
use Rattle.query_inside.specs.Enclosed.{Asked}
use Rattle.query_places.specs.Placed.{Placed}
use Rattle.query_spreads.specs.Spreads.{Targeted}
use Rattle.query_alike.specs.Flags.{Flagged}

-- the table's book; the rows' links by parent and by kind; the types inside rows, what each field is, and the types due at other rows; where spreads lead; the rules that speak of paths
pub record Ready (t book s rows : List ℕ) (n : ℕ) (first next firstk nextk inside at es target flags : List ℕ) : Type 0 where
  pub short : length t ≤ most_table
  pub asked : Asked t book s rows n first next
  pub kinds : Kinds (rows_in rows n) firstk nextk
  pub placed : Placed t s rows n at es inside
  pub targeted : Targeted (doc_of s rows n) target
  pub flagged : Flagged (table_of t) (doc_of s rows n) flags
