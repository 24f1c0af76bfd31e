-- What a document makes due: the variables that an operation defines, the arguments of a field; and which fields an operation reaches.
-- States: 01, "Coercion": "One call coerces an operation's variables to an object, an entry each in definition order", "Another then coerces one
-- field's arguments, as an input object of their definitions", "a row that is no field the operation reaches is 12"; "An absent variable takes its default".
-- Assumes nothing.
use Rattle.std.specs.Prelude.{◌&&◌, List, [], map, ℕ, ◌-◌, T}
use Rattle.std.proofs.Math.Option.{Option, none, some}
use Rattle.paper.specs.Numbers.{kind_field, kind_variable_definition, kind_object_field, input_document, input_variables}
use Rattle.paper_table.specs.Lists.{first_at}
use Rattle.paper_table.specs.References.{Ref, named}
use Rattle.paper_query.specs.Constructs.{Doc, count, row_of, name_of, is, is_value, below, numbers_where}
use Rattle.paper_query.specs.Enclosing.{FieldIs, typename, member, missing, unknown}
use Rattle.paper_query.specs.PlaceTypes.{Shape}
use Rattle.paper_query.specs.Reaching.{Reaches}
use Rattle.paper_query.specs.Rule11VariableType.{declared}
use Rattle.paper_query.specs.Opening.{if_below}
use Rattle.paper_values.specs.Values.{At, Value, Entries, Due}
use Rattle.paper_values.specs.Kinds.{due_argument}
use Rattle.paper_values.specs.RowValues.{ref_in, placed, value_of_row, entries_from}

-- ---- variables

-- the rows of an operation's variable definitions, in written order
abbrev pub definitions_of : Doc → ℕ → List ℕ
definitions_of d op = numbers_where (λ r. is kind_variable_definition r && below op r) d

-- the type that a definition declares; each has one
abbrev pub ref_or : Option Shape → Ref
ref_or none = named []
ref_or (some p) = ref_in p

abbrev pub declared_ref : Doc → ℕ → Ref
declared_ref d v = ref_or (declared d v)

-- its default: the value right below it, if there is one
abbrev pub default_row : Doc → ℕ → Option ℕ
default_row d v = if_below (count d) (first_at (λ r. is_value r && below v r) d.rows)

abbrev pub value_if : Doc → Option ℕ → Option Value
value_if d none = none
value_if d (some i) = some (value_of_row input_document d i)

abbrev pub due_variable : Doc → ℕ → Due
due_variable d v = record { name = name_of d v; type = declared_ref d v; default = value_if d (default_row d v) }

-- all of them, each with the place of its definition
abbrev pub variable_dues : Doc → ℕ → List (At × Due)
variable_dues d op = map (λ v. (placed input_document d v, due_variable d v)) (definitions_of d op)

-- what the variables text gives: the entries of its one object, row 0
abbrev pub given_in : Doc → Entries
given_in d = entries_from input_variables d (value_of_row input_variables d) kind_object_field 0 (count d - 1) 1

-- ---- arguments

-- those of a field's definition; `__typename` has none
abbrev pub argument_dues : FieldIs → List Due
argument_dues typename = []
argument_dues (member e) = map due_argument e.arguments
argument_dues missing = []
argument_dues unknown = []

-- row i is a field that the operation of row op reaches, dropped or not
pub record ReachedField (d : Doc) (op i : ℕ) : Type 0 where
  pub field : T (is kind_field (row_of d i))
  pub reached : Reaches d op i
