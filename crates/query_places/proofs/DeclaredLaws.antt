-- The type reference right below a variable definition, and whether its name is that of an input type.
use mathlib.Core.Path.{◌≡◌, sym, ap, ◌∙◌}
use mathlib.Core.Bool.{Bool, true, false, not}
use mathlib.Core.Option.{Option, none, some}
use Prim.Native.Nat.{ℕ, ◌≤◌, ◌<◌}
use native.Mathlib.Omega.{arith}
use borrow.Author.Tests.{eq-eqb, ne_eqb}
use Rattle.paper.specs.Numbers.{kind_type_reference, kind_variable_definition}
use Rattle.paper.specs.Rows.{Row}
use Rattle.paper_table.specs.Types.{Table, meant}
use Rattle.paper_query.specs.Constructs.{Doc, count, no_row, row_of, kind_of, name_of}
use Rattle.paper_query.specs.Enclosing.{then}
use Rattle.paper_query.specs.PlaceTypes.{shape_in}
use Rattle.paper_query.specs.Rule11VariableType.{declared, no_input_type}
use Rattle.query_links.proofs.Nexts.{find_yes, find_no}
use Rattle.query_siblings.specs.Alike.{is_below, first_below}
use Rattle.query_place_types.specs.Shapes.{input_tag}

module _ (d : Doc) (v r : ℕ) (e : r ≡ first_below d.rows kind_type_reference v) where
  pub declared_some : r < count d → declared d v ≡ some (shape_in d (row_of d r))
  unfolding declared
  declared_some h =
      ap (λ (o : Option Row). then o (λ x. some (shape_in d x))) (find_yes (is_below kind_type_reference v) d.rows no_row 0 (omega arith) ∙ ap (λ (k : ℕ). some (row_of d k)) (sym e))

  pub declared_none : count d ≤ r → declared d v ≡ none
  unfolding declared
  declared_none h = ap (λ (o : Option Row). then o (λ x. some (shape_in d x))) (find_no (is_below kind_type_reference v) d.rows 0 (omega arith))

module _ (t : Table) (d : Doc) (i : ℕ) where
  pub no_definition : (kind_of d i ≡ kind_variable_definition → ⊥) → false ≡ no_input_type t d i
  unfolding no_input_type
  no_definition h = rw (ne_eqb (kind_of d i) kind_variable_definition h)

  module _ (k : kind_of d i ≡ kind_variable_definition) (r : ℕ) (e : r ≡ first_below d.rows kind_type_reference i) where
    pub no_reference : count d ≤ r → true ≡ no_input_type t d i
    unfolding no_input_type
    no_reference h = rw (eq-eqb (kind_of d i) kind_variable_definition k, declared_none d i r e h)

    pub referred : {b : Bool} (tag : ℕ) → r < count d → tag ≡ (meant t (name_of d r)).tag → b ≡ input_tag tag → not b ≡ no_input_type t d i
    unfolding no_input_type
    referred tag h q z = rw (eq-eqb (kind_of d i) kind_variable_definition k, declared_some d i r e h) (ap not (z ∙ ap input_tag q))
