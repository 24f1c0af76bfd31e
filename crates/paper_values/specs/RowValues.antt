-- The value that a row of a document, or of a constant object text, writes; and the entries below a row.
-- States: 01, "Reading a document": the kinds 6, 10 and 20 to 28 of rows, their starts, ends, parents, names and extras.
-- Assumes nothing. An entry's value has the next row, since its name has none.
use Rattle.std.specs.Prelude.{cond, ◌&&◌, List, ℕ, zero, suc, ◌+◌, ◌-◌, ◌/◌, ◌%◌, take, drop, eqb}
use Rattle.paper.specs.Numbers.{kind_argument, kind_object_field, kind_variable, kind_integer, kind_float, kind_string, kind_boolean, kind_null, kind_enum, kind_list, extra_true, wrap_list, most_levels, most_wrappers}
use Rattle.paper_table.specs.References.{Ref, named, list_of, non_null}
use Rattle.paper_query.specs.Constructs.{Doc, count, row_of, kind_of, parent_of, extra_of, name_of}
use Rattle.paper_query.specs.PlaceTypes.{Shape}
use Rattle.paper_values.specs.Characters.{characters_of}
use Rattle.paper_values.specs.Values.{At, Value, variable, integer, float, string, boolean, null, enum, list, object, Values, no_values, item, Entries, no_entries, entry}

-- a type reference's row as a type: wrappers from outside in, lowest two bits first; the first number bounds how many
unfoldable pub ref_of_wrappers : ℕ → List ℕ → ℕ → Ref
ref_of_wrappers zero n w = named n
ref_of_wrappers (suc k) n w = cond (eqb w 0) (named n) (cond (eqb (w % 4) wrap_list) (list_of (ref_of_wrappers k n (w / 4))) (non_null (ref_of_wrappers k n (w / 4))))

abbrev pub ref_in : Shape → Ref
ref_in p = ref_of_wrappers most_wrappers p.base p.wrappers

module _ (text : ℕ) (d : Doc) where
  -- a row of this text
  abbrev pub placed : ℕ → At
  placed i = record { text = text; row = i }

  -- the bytes of a row
  abbrev pub token_at : ℕ → List ℕ
  token_at i = take ((row_of d i).end - (row_of d i).start) (drop (row_of d i).start d.bytes)

  -- the values right below row h among the m rows from c on
  unfoldable pub items_from : (ℕ → Value) → ℕ → ℕ → ℕ → Values
  items_from read h zero c = no_values
  items_from read h (suc m) c = cond (eqb (parent_of d c) h) (item (read c) (items_from read h m (c + 1))) (items_from read h m (c + 1))

  -- the entries of this kind (6 arguments, 10 an object's fields) right below row h among the m rows from c on
  unfoldable pub entries_from : (ℕ → Value) → ℕ → ℕ → ℕ → ℕ → Entries
  entries_from read k h zero c = no_entries
  entries_from read k h (suc m) c =
      cond (eqb (parent_of d c) h && eqb (kind_of d c) k) (entry (placed c) (name_of d c) (read (c + 1)) (entries_from read k h m (c + 1))) (entries_from read k h m (c + 1))

  -- what a row is, where its parts are read by `read`
  unfoldable pub value_by : (ℕ → Value) → ℕ → Value
  value_by read i =
      cond (eqb (kind_of d i) kind_variable) (variable (placed i) (name_of d i))
      (cond (eqb (kind_of d i) kind_integer) (integer (placed i) (token_at i))
      (cond (eqb (kind_of d i) kind_float) (float (placed i) (token_at i))
      (cond (eqb (kind_of d i) kind_string) (string (placed i) (token_at i) (characters_of (token_at i)))
      (cond (eqb (kind_of d i) kind_boolean) (boolean (placed i) (eqb (extra_of d i) extra_true))
      (cond (eqb (kind_of d i) kind_null) (null (placed i))
      (cond (eqb (kind_of d i) kind_enum) (enum (placed i) (name_of d i))
      (cond (eqb (kind_of d i) kind_list) (list (placed i) (items_from read i (count d - (i + 1)) (i + 1)))
      (object (placed i) (entries_from read kind_object_field i (count d - (i + 1)) (i + 1))))))))))

  -- the first number bounds how deep values stand in one another; 33 is enough
  unfoldable pub value_at : ℕ → ℕ → Value
  value_at zero i = null (placed i)
  value_at (suc k) i = value_by (value_at k) i

  -- the value of row i, and the arguments of the field at row i
  abbrev pub value_of_row : ℕ → Value
  value_of_row i = value_at (suc most_levels) i

  abbrev pub arguments_at : ℕ → Entries
  arguments_at i = entries_from value_of_row kind_argument i (count d - (i + 1)) (i + 1)
