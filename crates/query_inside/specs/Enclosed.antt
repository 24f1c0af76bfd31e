-- What is kept for a document's rows: the type inside each, and what each field is.
-- Assumes nothing.
use Rattle.std.specs.Prelude.{◌≡◌, Bool, true, ◌||◌, cond, List, ℕ, ◌<◌, length, get_or, eqb}
use Rattle.paper.specs.Numbers.{kind_operation, kind_fragment, kind_field, kind_inline}
use Rattle.paper_table.specs.Types.{table_of}
use Rattle.paper_query.specs.Enclosing.{type_inside, field_at}
use Rattle.table_types.specs.Booked.{Booked}
use Rattle.query_rows.specs.Rowed.{row_in, rows_in, doc_of, Rowed, room_of}
use Rattle.query_links.specs.Links.{Family}
use Rattle.query_types.specs.Coded.{type_coded}
use Rattle.query_fields.specs.Kept.{FieldKept}

-- the kinds of rows that may have a type inside: operations, fragments, fields, inline fragments
abbrev pub encloses : ℕ → Bool
encloses k = eqb k kind_operation || (eqb k kind_fragment || (eqb k kind_field || eqb k kind_inline))

-- the type kept for a row; none for one of another kind, or one that is not there
abbrev pub type_kept : List ℕ → ℕ → List ℕ → ℕ → ℕ
type_kept rows n inner i = cond (encloses (row_in rows n i).kind) (get_or inner i 0) 0

-- what is asked of a table, its book, and a document's bytes, rows and links
pub record Asked (t book s rows : List ℕ) (n : ℕ) (first next : List ℕ) : Type 0 where
  pub booked : Booked t book
  pub rowed : Rowed s rows n
  pub family : Family (rows_in rows n) first next

-- Of the first m rows: of those that may have one the type inside, and of each field what it is. Of rows of other kinds nothing is said.
pub record EnclosedTo (t book es s rows : List ℕ) (n m : ℕ) (inner at : List ℕ) : Type 0 where
  pub inners : length inner ≡ room_of n
  pub ats : length at ≡ room_of n
  pub types : (i : ℕ) → i < m → encloses (row_in rows n i).kind ≡ true → type_inside (table_of t) (doc_of s rows n) i ≡ type_coded (get_or inner i 0)
  pub fields : (i : ℕ) → i < m → (row_in rows n i).kind ≡ kind_field → FieldKept t book es (field_at (table_of t) (doc_of s rows n) i) (get_or at i 0)

-- of all rows, with some book: it is no matter with which
pub record Enclosed (t s rows : List ℕ) (n : ℕ) (inner at es : List ℕ) : Type 0 where
  pub book : List ℕ
  pub all : EnclosedTo t book es s rows n n inner at
