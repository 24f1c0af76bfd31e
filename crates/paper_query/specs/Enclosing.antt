-- The type that encloses a construct, what a field is in it, and where both are known.
-- States: 01, "Query rules": "field not of the enclosing type; `__typename` is of every one"; "Rules needing a type are judged where it is known".
-- Assumes nothing.
use Rattle.std.specs.Prelude.{Bool, false, cond, List, ℕ, zero, suc, ◌+◌, get_or, eqb}
use Rattle.std.proofs.Math.Option.{Option, none, some}
use Rattle.paper.specs.Numbers.{kind_operation, kind_fragment, kind_field, kind_inline, kind_type_reference}
use Rattle.paper.specs.Tokens.{same}
use Rattle.paper.specs.Rows.{Row}
use Rattle.paper_table.specs.TableNumbers.{tag_query_root}
use Rattle.paper_table.specs.Lists.{bytes, find}
use Rattle.paper_table.specs.References.{base_of}
use Rattle.paper_table.specs.Types.{Argument, Member, Definition, Table, Meaning, built_in, no_meaning, definition, meaning, blank_definition, tag_nothing, is_union, roots_of, member_named, argument_named, is_composite}
use Rattle.paper_query.specs.Constructs.{Doc, is, below, spelt, row_of, parent_of, extra_of, name_of}

abbrev pub then : {A B : Type 0} → Option A → (A → Option B) → Option B
then none f = none
then (some x) f = f x

-- the table's definition of a number
abbrev pub definition_at : Table → ℕ → Definition
definition_at t k = get_or t k (blank_definition tag_nothing)

-- a name of an object, interface or union: its definition's number. No other type has selections
abbrev pub if_composite : Table → Meaning → Option ℕ
if_composite t built_in = none
if_composite t no_meaning = none
if_composite t (definition k) = cond (is_composite (definition_at t k)) (some k) none

unfoldable pub composite_of : Table → List ℕ → Option ℕ
composite_of t n = if_composite t (meaning t n)

-- the root of an operation's kind: 0 query, 1 mutation, 2 subscription
unfoldable pub root_of : Table → ℕ → Option Member
root_of t x = find (λ m. eqb m.tag (tag_query_root + x)) (roots_of t)

-- the first field so named of an object or interface; a union has none
unfoldable pub field_of : Table → ℕ → List ℕ → Option Member
field_of t k n = cond (is_union (definition_at t k)) none (find (member_named n) (definition_at t k).members)

unfoldable pub is_typename : List ℕ → Bool
is_typename n = same n (bytes "__typename")

-- What a field is: `__typename`, a member of the enclosing type, not of that type; or the enclosing type is not known.
pub data FieldIs : Type 0 where
  typename : FieldIs
  member : Member → FieldIs
  missing : FieldIs
  unknown : FieldIs

abbrev pub or_missing : Option Member → FieldIs
or_missing none = missing
or_missing (some e) = member e

abbrev pub field_named : Table → Option ℕ → List ℕ → FieldIs
field_named t none n = unknown
field_named t (some k) n = cond (is_typename n) typename (or_missing (field_of t k n))

-- the type that a field's selections are of
abbrev pub selections_type : Table → FieldIs → Option ℕ
selections_type t typename = none
selections_type t (member e) = composite_of t (base_of e.type)
selections_type t missing = none
selections_type t unknown = none

-- a fragment's type condition
unfoldable pub condition_of : Doc → ℕ → Option Row
condition_of d i = find (λ r. cond (is kind_type_reference r) (below i r) false) d.rows

abbrev pub conditioned : Table → Doc → Option ℕ → Option Row → Option ℕ
conditioned t d above none = above
conditioned t d above (some r) = composite_of t (spelt d r)

-- The type inside row i, where that inside its parent is `above`: an operation's root, a fragment's condition, a field's type.
unfoldable pub type_inside_from : Table → Doc → ℕ → Option ℕ → Option ℕ
type_inside_from t d i above =
    cond (is kind_operation (row_of d i)) (then (root_of t (extra_of d i)) (λ m. composite_of t m.name))
    (cond (is kind_fragment (row_of d i)) (conditioned t d none (condition_of d i))
    (cond (is kind_inline (row_of d i)) (conditioned t d above (condition_of d i))
    (cond (is kind_field (row_of d i)) (selections_type t (field_named t above (name_of d i))) none)))

-- the first number bounds how far up it is looked; a row's own number and one is enough, since parents stand before
unfoldable pub type_inside_by : Table → Doc → ℕ → ℕ → Option ℕ
type_inside_by t d zero i = none
type_inside_by t d (suc f) i = type_inside_from t d i (type_inside_by t d f (parent_of d i))

unfoldable pub type_inside : Table → Doc → ℕ → Option ℕ
type_inside t d i = type_inside_by t d (suc i) i

-- The type that encloses row i: that inside its parent.
abbrev pub enclosing : Table → Doc → ℕ → Option ℕ
enclosing t d i = type_inside t d (parent_of d i)

-- What the field of row i is.
abbrev pub field_at : Table → Doc → ℕ → FieldIs
field_at t d i = field_named t (enclosing t d i) (name_of d i)

-- the first argument so named of a field
abbrev pub argument_called : FieldIs → List ℕ → Option Argument
argument_called typename n = none
argument_called (member e) n = find (argument_named n) e.arguments
argument_called missing n = none
argument_called unknown n = none
