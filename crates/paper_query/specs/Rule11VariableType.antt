-- 11 variable definition whose type isn't an input type; or a variable whose declared type, in an operation that reaches it,
-- differs from its place's, outermost Non-Null taken off both. (Judged where the place's type is known; a declared type that names no type differs.)
use Rattle.std.specs.Prelude.{Bool, false, not, ◌&&◌, cond, List, ℕ, T}
use Rattle.std.proofs.Math.Option.{Option, none, some}
use Rattle.paper.specs.Numbers.{kind_operation, kind_variable, kind_variable_definition, kind_type_reference}
use Rattle.paper_table.specs.Lists.{find, first_at}
use Rattle.paper_table.specs.Types.{Table, Definition, meant, is_unknown, is_composite}
use Rattle.paper_query.specs.Constructs.{Doc, is, below, row_of, name_of}
use Rattle.paper_query.specs.Enclosing.{then}
use Rattle.paper_query.specs.PlaceTypes.{Shape, shape_in, same_but_non_null, place}
use Rattle.paper_query.specs.Reaching.{Reaches}
use Rattle.paper_query.specs.Rule10Undefined.{defines_it, defines}

-- the type that the variable definition of row v declares
unfoldable pub declared : Doc → ℕ → Option Shape
declared d v = then (find (λ r. is kind_type_reference r && below v r) d.rows) (λ r. some (shape_in d r))

-- a scalar, an enum or an input object
abbrev pub is_input : Definition → Bool
is_input x = not (is_unknown x) && not (is_composite x)

abbrev pub of_input : Table → Option Shape → Bool
of_input t none = false
of_input t (some p) = is_input (meant t p.base)

unfoldable pub no_input_type : Table → Doc → ℕ → Bool
no_input_type t d i = is kind_variable_definition (row_of d i) && not (of_input t (declared d i))

-- the variable n as the operation of row o declares it, by the first definition of it
unfoldable pub declared_by : Doc → ℕ → List ℕ → Option Shape
declared_by d o n = cond (defines d o n) (declared d (first_at (defines_it d o n) d.rows)) none

abbrev pub differ : Option Shape → Option Shape → Bool
differ none q = false
differ (some p) none = false
differ (some p) (some q) = not (same_but_non_null p q)

pub record Differs (t : Table) (d : Doc) (i : ℕ) : Type 0 where
  pub variable : T (is kind_variable (row_of d i))
  pub operation : ℕ
  pub is_operation : T (is kind_operation (row_of d operation))
  pub reaches : Reaches d operation i
  pub differs : T (differ (declared_by d operation (name_of d i)) (place t d i))
