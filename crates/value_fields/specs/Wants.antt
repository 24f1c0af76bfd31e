-- What is asked of a table and a document, and what is answered of one of its rows.
-- States: 01, "Coercion": "Another then coerces one field's arguments, as an input object of their definitions", "a row that is no field the operation reaches is 12".
-- Assumes nothing.
use Rattle.std.specs.Prelude.{◌≡◌, true, List, [], ◌∷◌, ℕ, ◌≤◌, ◌<◌, length, Option as Maybe, Some, None}
use Rattle.paper.specs.Numbers.{kind_operation}
use Rattle.paper_table.specs.TableNumbers.{most_table, tag_field}
use Rattle.paper_table.specs.Lists.{all_of, gather}
use Rattle.paper_table.specs.Types.{Member, table_of}
use Rattle.paper_table.specs.Judging.{judge}
use Rattle.paper_table.specs.declared.TableAnswer.TheVariants.{Accepted}
use Rattle.paper_query.specs.Constructs.{Doc}
use Rattle.paper_query.specs.Enclosing.{FieldIs, member, field_at, selections_type}
use Rattle.table_fields.specs.Fields.{Bounds}
use Rattle.table_members.specs.Members.{arguments_in, member_from}
use Rattle.table_types.specs.Booked.{Booked}
use Rattle.table_types.specs.Sizes.{slim_argument, Slim}
use Rattle.query_rows.specs.Rowed.{row_in, Rowed}
use Rattle.query_types.specs.Coded.{type_coded}
use Rattle.query_fields.specs.Kept.{Fielded}
use Rattle.paper_values.specs.Kinds.{due_argument}
use Rattle.paper_values.specs.DocumentDues.{argument_dues, ReachedField}
use Rattle.value_fields.specs.declared.Span.{Span}

-- what an accepted table's fields have: few wrappers, and right members of objects and interfaces
pub record Known (t : List ℕ) : Type 0 where
  pub short : length t ≤ most_table
  pub slim : Slim (table_of t)
  pub fielded : Fielded (table_of t)

-- the content of this field, which is a member, stands from `start` up to `end`; of one that is none both are 0
pub record Contains (t : List ℕ) (f : FieldIs) (start end : ℕ) : Type 0 where
  pub bounds : Bounds t start end
  pub ends : start ≡ 0 → end ≡ 0
  pub none : start ≡ 0 → (m : Member) → f ≡ member m → ⊥
  pub is : 0 < start → f ≡ member (member_from t tag_field start end)

-- c is the type that the selections of this field are of
abbrev pub ContentTyped : List ℕ → ℕ → ℕ → ℕ → Type 0
ContentTyped t start end c = (f : FieldIs) → Contains t f start end → type_coded c ≡ selections_type (table_of t) f

-- the arguments of this field stand from `start` up to `end`
pub record Holds (t : List ℕ) (f : FieldIs) (start end : ℕ) : Type 0 where
  pub bounds : Bounds t start end
  pub dues : gather (λ a. due_argument a ∷ []) (arguments_in t start end) ≡ argument_dues f
  pub slim : all_of slim_argument (arguments_in t start end) ≡ true

-- an accepted table and its book, a document's rows, and the row of one of its operations
pub record Prepared (t book s rows : List ℕ) (n op : ℕ) : Type 0 where
  pub accepted : judge t ≡ Accepted
  pub booked : Booked t book
  pub rowed : Rowed s rows n
  pub operation : (row_in rows n op).kind ≡ kind_operation

-- the row is a field that the operation reaches, and there are its arguments; or it is none
abbrev pub Wants : List ℕ → Doc → ℕ → ℕ → Maybe Span → Type 0
Wants t d op row (Some c) = ReachedField d op row × Holds t (field_at (table_of t) d row) c.start c.end
Wants t d op row None = ReachedField d op row → ⊥
