-- What opening an operation answers and leaves.
-- Assumes nothing.
use Rattle.std.specs.Prelude.{List, [], ◌∷◌, ℕ, Option, Some, None, Result, Ok, Err}
use Rattle.std.proofs.Math.Option.{Option as Maybe, none, some}
use Rattle.paper.specs.Numbers.{accepted}
use Rattle.paper.specs.Language.{Document}
use Rattle.paper.specs.Refusals.{number_of, shown_of}
use Rattle.paper_table.specs.Judging.{table_number, table_shown}
use Rattle.paper_query.specs.QueryNumbers.{refuse_query}
use Rattle.table_types.specs.Booked.{Booked}
use Rattle.query_rows.specs.Rowed.{rows_in}
use Rattle.query_rows.proofs.ReadRows.{Taken}
use Rattle.paper_query.specs.Opening.{refuse_no_operation, AcceptedDocument, stops, opens, Opened}
use Rattle.query_opening.specs.declared.OpenedOperation.{OpenedOperation}
use Rattle.query_opening.specs.declared.NotOpened.{NotOpened}
use Rattle.query_opening.specs.declared.NotOpened.TheVariants.{BadTable, BadText, Broken, NoOperation}

abbrev pub told : Maybe ℕ → Option ℕ
told none = None
told (some i) = Some i

-- an opened operation: the rows' numbers and the book are those of the document and the table
pub record Ready (table document name rows book : List ℕ) (n op : ℕ) : Type 0 where
  pub opened : Opened table document name (opens (rows_in rows n) op)
  pub accepted : AcceptedDocument table document (rows_in rows n)
  pub taken : Taken Document document rows n
  pub booked : Booked table book

-- the number of what stops an opening, and what it shows; an operation that is opened stops nothing
abbrev pub stop_number : Result OpenedOperation NotOpened → ℕ
stop_number (Err (BadTable a)) = table_number a
stop_number (Err (BadText r)) = number_of r
stop_number (Err (Broken i k)) = refuse_query
stop_number (Err NoOperation) = refuse_no_operation
stop_number (Ok o) = accepted

abbrev pub stop_shown : Result OpenedOperation NotOpened → List ℕ
stop_shown (Err (BadTable a)) = table_shown a
stop_shown (Err (BadText r)) = shown_of r
stop_shown (Err (Broken i k)) = i ∷ k ∷ []
stop_shown (Err NoOperation) = []
stop_shown (Ok o) = []

abbrev pub Opens : List ℕ → List ℕ → List ℕ → List ℕ → List ℕ → Result OpenedOperation NotOpened → Type 0
Opens table document name rows book (Err (BadTable a)) = Opened table document name (stops (table_number a) (table_shown a))
Opens table document name rows book (Err (BadText r)) = Opened table document name (stops (number_of r) (shown_of r))
Opens table document name rows book (Err (Broken i k)) = Opened table document name (stops refuse_query (i ∷ k ∷ []))
Opens table document name rows book (Err NoOperation) = Opened table document name (stops refuse_no_operation [])
Opens table document name rows book (Ok o) = Ready table document name rows book o.n o.row
