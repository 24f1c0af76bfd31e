-- The types due at a document's rows, as two numbers each.
-- Assumes nothing.
use Rattle.std.specs.Prelude.{not, ◌&&◌, cond, List, ℕ, ◌<◌, get_or, ltb}
use Rattle.paper_table.specs.Types.{table_of}
use Rattle.paper_query.specs.PlaceTypes.{place}
use Rattle.query_rows.specs.Rowed.{doc_of, row_in}
use Rattle.query_inside.specs.Enclosed.{encloses, EnclosedTo}
use Rattle.query_place_types.specs.Shapes.{place_unknown, Keeps}
use Rattle.query_place_types.specs.declared.Place.{Place}

abbrev pub no_place : Place
no_place = record { at = place_unknown; wrappers = 0 }

-- the place that is kept for row i; none is for a row that is not there, or one that has a type inside
unfoldable pub place_in : List ℕ → ℕ → List ℕ → List ℕ → ℕ → Place
place_in rows n at wrappers i = cond (ltb i n && not (encloses (row_in rows n i).kind)) (record { at = get_or at i 0; wrappers = get_or wrappers i 0 }) no_place

-- the places of the rows before k, in the lists that keep the types inside other rows, and what each field is
pub record PlacedTo (t book es s rows : List ℕ) (n : ℕ) (at wrappers : List ℕ) (k : ℕ) : Type 0 where
  pub enclosed : EnclosedTo t book es s rows n n wrappers at
  pub kept : (i : ℕ) → i < k → Keeps t book es (place (table_of t) (doc_of s rows n) i) (place_in rows n at wrappers i)

-- of all rows, with some book: it is no matter with which
pub record Placed (t s rows : List ℕ) (n : ℕ) (at es wrappers : List ℕ) : Type 0 where
  pub book : List ℕ
  pub all : PlacedTo t book es s rows n at wrappers n
