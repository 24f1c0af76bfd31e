-- What one operation says of one variable: by its first definition of it, that definition's type reference, and the variable's place.
use mathlib.Core.Path.{◌≡◌, refl, ap, ◌∙◌}
use mathlib.Core.Bool.{Bool, true, false, not, ◌&&◌}
use mathlib.Core.Option.{Option, some}
use mathlib.Core.List.{List}
use Prim.Native.Nat.{ℕ, ◌-◌, ◌≤◌, ◌<◌}
use native.Mathlib.Omega.{arith}
use lib.Dec.{eqb}
use borrow.Author.Tests.{eq-eqb, ne_eqb, eqb-true, eqb-false, lt-ltb, le-ltb}
use Rattle.paper.proofs.Bools.{and_left, and_right}
use Rattle.paper.specs.Numbers.{kind_type_reference, kind_variable_definition}
use Rattle.paper.specs.Rows.{Row}
use Rattle.paper.specs.Tokens.{same}
use Rattle.paper_table.specs.Lists.{bytes, first_at}
use Rattle.paper_table.specs.Types.{Table}
use Rattle.paper_table.proofs.ListsLaws.{any_first}
use Rattle.paper_query.specs.QueryNumbers.{rule_undefined, rule_variable_type}
use Rattle.paper_query.specs.Constructs.{Doc, count, is, called, below, row_of, name_of}
use Rattle.paper_query.specs.PlaceTypes.{Shape, shape, shape_in, nullable, same_but_non_null, place}
use Rattle.paper_query.specs.Rule10Undefined.{defines_it, defines}
use Rattle.paper_query.specs.Rule11VariableType.{declared, declared_by, differ}
use Rattle.query_links.proofs.Walks.{and_known}
use Rattle.query_siblings.specs.Alike.{first_below}
use Rattle.query_place_types.specs.Shapes.{place_unknown, place_boolean, place_first, base_at, coded}
use Rattle.query_place_types.specs.declared.Place.{Place}
use Rattle.query_place_types.proofs.ShapeLaws.{coded_unknown, coded_boolean, coded_base}
use Rattle.query_places.proofs.DeclaredLaws.{declared_some, declared_none}
use Rattle.query_alike_pair.specs.Alike.{no_rule, verdict_of}

-- two types: wrappers first
module _ (q x : Shape) where
  fits_not : (nullable q.wrappers ≡ nullable x.wrappers → ⊥) → same_but_non_null q x ≡ false
  unfolding same_but_non_null
  fits_not h = rw (ne_eqb (nullable q.wrappers) (nullable x.wrappers) h) (and_false (same q.base x.base))
    where
      and_false : (b : Bool) → b && false ≡ false
      and_false true = refl
      and_false false = refl

  fits_base : nullable q.wrappers ≡ nullable x.wrappers → same_but_non_null q x ≡ same q.base x.base
  unfolding same_but_non_null
  fits_base h = rw (eq-eqb (nullable q.wrappers) (nullable x.wrappers) h) (and_true (same q.base x.base))
    where
      and_true : (b : Bool) → b && true ≡ b
      and_true true = refl
      and_true false = refl

-- a type and that of a place
module _ (t es : List ℕ) (q : Shape) (p : Place) where
  pub differ_unknown : p.at ≡ place_unknown → false ≡ differ (some q) (coded t es p)
  differ_unknown e = rw (coded_unknown t es p e)

  module _ (k : p.at ≡ place_unknown → ⊥) where
    pub differ_wrappers : (nullable q.wrappers ≡ nullable p.wrappers → ⊥) → true ≡ differ (some q) (coded t es p)
    differ_wrappers h = go (eqb p.at place_boolean) refl
      where
        go : (b : Bool) → eqb p.at place_boolean ≡ b → true ≡ differ (some q) (coded t es p)
        go true e = rw (coded_boolean t es p (eqb-true p.at place_boolean e), fits_not q (shape (bytes "Boolean") p.wrappers) h)
        go false e =
            let z : p.at ≡ place_boolean → ⊥ = eqb-false p.at place_boolean e in
            rw (coded_base t es p (omega arith), fits_not q (shape (base_at t es (p.at - place_first)) p.wrappers) h)

    module _ (h : nullable q.wrappers ≡ nullable p.wrappers) where
      pub differ_boolean : {b : Bool} → p.at ≡ place_boolean → b ≡ same q.base (bytes "Boolean") → not b ≡ differ (some q) (coded t es p)
      differ_boolean e f = rw (coded_boolean t es p e, fits_base q (shape (bytes "Boolean") p.wrappers) h) (ap not f)

      pub differ_base : {b : Bool} → (p.at ≡ place_boolean → ⊥) → b ≡ same q.base (base_at t es (p.at - place_first)) → not b ≡ differ (some q) (coded t es p)
      differ_base e f =
          rw (coded_base t es p (omega arith), fits_base q (shape (base_at t es (p.at - place_first)) p.wrappers) h) (ap not f)

-- a definition by row o, among the rows right below it
module _ (d : Doc) (o : ℕ) (n : List ℕ) (r : Row) where
  pub defines_below : defines_it d o n r ≡ true → below o r ≡ true
  defines_below e = and_left (below o r) (called d n r) (and_right (is kind_variable_definition r) (below o r && called d n r) e)

  pub defines_known : below o r ≡ true → defines_it d o n r ≡ is kind_variable_definition r && called d n r
  defines_known h = ap (λ b. is kind_variable_definition r && b) (and_known (below o r) (called d n r) h)

module _ (t : Table) (d : Doc) (o i v : ℕ) (e : v ≡ first_at (defines_it d o (name_of d i)) d.rows) where
  pub says_undefined : count d ≤ v → rule_undefined ≡ verdict_of t d o i
  unfolding verdict_of defines
  says_undefined h =
      rw (any_first (defines_it d o (name_of d i)) d.rows, ← e, le-ltb v (count d) h)

  module _ (h : v < count d) (r : ℕ) (f : r ≡ first_below d.rows kind_type_reference v) where
    is_defined : defines d o (name_of d i) ≡ true
    unfolding defines
    is_defined = any_first (defines_it d o (name_of d i)) d.rows ∙ rw (← e) (lt-ltb v (count d) h)

    declared_as : declared_by d o (name_of d i) ≡ declared d v
    unfolding declared_by
    declared_as = rw (is_defined, ← e)

    pub says_nothing : count d ≤ r → no_rule ≡ verdict_of t d o i
    unfolding verdict_of
    says_nothing l = rw (is_defined, declared_as ∙ declared_none d v r f l)

    module _ (l : r < count d) (x : Option Shape) (k : place t d i ≡ x) where
      pub says_differs : true ≡ differ (some (shape_in d (row_of d r))) x → rule_variable_type ≡ verdict_of t d o i
      unfolding verdict_of
      says_differs z = rw (is_defined, declared_as ∙ declared_some d v r f l, k, ← z)

      pub says_fits : false ≡ differ (some (shape_in d (row_of d r))) x → no_rule ≡ verdict_of t d o i
      unfolding verdict_of
      says_fits z = rw (is_defined, declared_as ∙ declared_some d v r f l, k, ← z)
