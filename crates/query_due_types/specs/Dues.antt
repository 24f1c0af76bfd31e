-- What is asked of a table, and of what is kept of a document's fields.
-- Assumes nothing.
use Rattle.std.specs.Prelude.{◌≡◌, List, ℕ, length, get_or}
use Rattle.std.proofs.Math.Option.{none}
use Rattle.paper.specs.Numbers.{kind_field}
use Rattle.paper_table.specs.House.{framing_offset}
use Rattle.paper_table.specs.TableSizes.{counts_offset}
use Rattle.paper_table.specs.Types.{table_of}
use Rattle.paper_query.specs.Enclosing.{field_at}
use Rattle.query_rows.specs.Rowed.{doc_of, row_in, room_of}
use Rattle.query_fields.specs.Kept.{FieldKept}

-- what is asked of a table: framing and sizes are right
pub record Fitted (t : List ℕ) : Type 0 where
  pub framed : framing_offset t ≡ none
  pub counted : counts_offset t ≡ none

-- what is kept of each field of a document
pub record FieldsKept (t book es s rows : List ℕ) (n : ℕ) (at : List ℕ) : Type 0 where
  pub ats : length at ≡ room_of n
  pub fields : (i : ℕ) → (row_in rows n i).kind ≡ kind_field → FieldKept t book es (field_at (table_of t) (doc_of s rows n) i) (get_or at i 0)
