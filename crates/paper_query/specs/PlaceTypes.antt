-- The type of a value's place, where it is known.
-- States: 01, "Query rules": "a variable whose declared type .. differs from its place's, outermost Non-Null taken off both"; "(its place is Boolean)";
-- "Coercion": "A non-list to a list of one at each depth", so an object in a list's place is read as its item.
-- Assumes nothing.
use Rattle.std.specs.Prelude.{Bool, cond, ◌&&◌, List, ℕ, zero, suc, ◌+◌, ◌*◌, ◌/◌, ◌%◌, eqb}
use Rattle.std.proofs.Math.Option.{Option, none, some}
use Rattle.paper.specs.Numbers.{kind_field, kind_argument, kind_directive, kind_object_field, kind_list, wrap_list, wrap_non_null}
use Rattle.paper.specs.Tokens.{same}
use Rattle.paper.specs.Rows.{Row}
use Rattle.paper_table.specs.Lists.{bytes, find}
use Rattle.paper_table.specs.References.{Ref, named, list_of, non_null, base_of}
use Rattle.paper_table.specs.Types.{Table, meant, is_input_object, member_named}
use Rattle.paper_query.specs.Constructs.{Doc, is, is_value, row_of, parent_of, name_of, spelt}
use Rattle.paper_query.specs.Enclosing.{then, field_at, argument_called}

-- a type reference as a row has it: its base, and its wrappers from outside in, lowest two bits first, 1 list, 2 Non-Null
pub record Shape : Type 0 where
  pub base : List ℕ
  pub wrappers : ℕ

abbrev pub shape : List ℕ → ℕ → Shape
shape n w = record { base = n; wrappers = w }

unfoldable pub wrappers_of : Ref → ℕ
wrappers_of (named n) = 0
wrappers_of (list_of r) = 4 * wrappers_of r + wrap_list
wrappers_of (non_null r) = 4 * wrappers_of r + wrap_non_null

abbrev pub shape_of : Ref → Shape
shape_of r = shape (base_of r) (wrappers_of r)

-- the type reference of a row
abbrev pub shape_in : Doc → Row → Shape
shape_in d r = shape (spelt d r) r.extra

-- the outermost Non-Null taken off
abbrev pub nullable : ℕ → ℕ
nullable w = cond (eqb (w % 4) wrap_non_null) (w / 4) w

-- equal but for the outermost Non-Null
unfoldable pub same_but_non_null : Shape → Shape → Bool
same_but_non_null p q = same p.base q.base && eqb (nullable p.wrappers) (nullable q.wrappers)

-- the items of a list
unfoldable pub item_of : Shape → Option Shape
item_of p = cond (eqb (nullable p.wrappers % 4) wrap_list) (some (shape p.base (nullable p.wrappers / 4))) none

-- the field so named of the input object that is due, itself or as a list's item
unfoldable pub input_field_of : Table → List ℕ → Shape → Option Shape
input_field_of t n p = cond (is_input_object (meant t p.base)) (then (find (member_named n) (meant t p.base).members) (λ e. some (shape_of e.type))) none

-- an argument's place: of a directive Boolean, of a field its definition's
abbrev pub argument_place : Table → Doc → ℕ → Option Shape
argument_place t d i =
    cond (is kind_directive (row_of d (parent_of d i))) (some (shape (bytes "Boolean") 0))
    (cond (is kind_field (row_of d (parent_of d i))) (then (argument_called (field_at t d (parent_of d i)) (name_of d i)) (λ x. some (shape_of x.type))) none)

-- The type due at row i, an argument, an object's field or a value, where that due at its parent is `above`.
unfoldable pub place_from : Table → Doc → ℕ → Option Shape → Option Shape
place_from t d i above =
    cond (is kind_argument (row_of d i)) (argument_place t d i)
    (cond (is kind_object_field (row_of d i)) (then above (input_field_of t (name_of d i)))
    (cond (is_value (row_of d i)) (cond (is kind_list (row_of d (parent_of d i))) (then above item_of) above) none))

-- the first number bounds how far up it is looked; a row's own number and one is enough, since parents stand before
unfoldable pub place_by : Table → Doc → ℕ → ℕ → Option Shape
place_by t d zero i = none
place_by t d (suc f) i = place_from t d i (place_by t d f (parent_of d i))

unfoldable pub place : Table → Doc → ℕ → Option Shape
place t d i = place_by t d (suc i) i
