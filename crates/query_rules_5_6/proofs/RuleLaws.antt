-- The rules 5 and 6, by what a row is.
use mathlib.Core.Path.{◌≡◌, refl, sym, ap, ◌∙◌}
use mathlib.Core.Bool.{Bool, true, false, not, ◌&&◌, cond}
use mathlib.Core.List.{List}
use Prim.Native.Nat.{ℕ, ◌<◌, ◌≤◌}
use lib.ListN.{drop}
use lib.Dec.{eqb}
use borrow.Author.Tests.{eq-eqb, ne_eqb}
use Rattle.paper.specs.Numbers.{kind_field}
use Rattle.paper.specs.Rows.{Row}
use Rattle.paper_table.specs.Lists.{any_of}
use Rattle.paper_table.specs.References.{found}
use Rattle.paper_table.specs.Types.{Table}
use Rattle.paper_query.specs.Constructs.{Doc, is_selection, below, kind_of}
use Rattle.paper_query.specs.Enclosing.{selections_type, field_at}
use Rattle.paper_query.specs.Rule5Field.{field_not_of_type}
use Rattle.paper_query.specs.Rule6Leaf.{has_selections, leaf_wrong}
use Rattle.query_types.specs.Coded.{type_coded}
use Rattle.query_fields.specs.Kept.{field_missing as numberMissing, field_typename, FieldKept}
use Rattle.query_rules_5_6.proofs.CodedLaws.{kept_misses, leaf_unknown, leaf_known, type_found}

module _ (x : Table) (d : Doc) (i : ℕ) where
  -- of a field by its number
  pub field_other : (kind_of d i ≡ kind_field → ⊥) → false ≡ field_not_of_type x d i
  unfolding field_not_of_type
  field_other k = rw (ne_eqb (kind_of d i) kind_field k)

  pub leaf_other : (kind_of d i ≡ kind_field → ⊥) → false ≡ leaf_wrong x d i
  unfolding leaf_wrong
  leaf_other k = rw (ne_eqb (kind_of d i) kind_field k)

  module _ (k : kind_of d i ≡ kind_field) {t book es : List ℕ} (at : ℕ) (f : FieldKept t book es (field_at x d i) at) where
    pub field_judged : eqb at numberMissing ≡ field_not_of_type x d i
    unfolding field_not_of_type
    field_judged = rw (eq-eqb (kind_of d i) kind_field k) (sym (kept_misses at (field_at x d i) f))

    pub leaf_nowhere : at < field_typename → false ≡ leaf_wrong x d i
    unfolding leaf_wrong
    leaf_nowhere h = rw (eq-eqb (kind_of d i) kind_field k) (sym (leaf_unknown x at (field_at x d i) f (has_selections d i) h))

    module _ (h : field_typename ≤ at) (c : ℕ) (e : selections_type x (field_at x d i) ≡ type_coded c) where
      by_type_is : (b : Bool) → has_selections d i ≡ b → leaf_wrong x d i ≡ cond b (not (not (eqb c 0))) (not (eqb c 0))
      unfolding leaf_wrong
      by_type_is b q =
          rw (eq-eqb (kind_of d i) kind_field k, q)
          (leaf_known x at (field_at x d i) f b h ∙ ap (λ (o : Bool). cond b (not o) o) (ap found e ∙ type_found c))

      pub leaf_selects : true ≡ has_selections d i → eqb c 0 ≡ leaf_wrong x d i
      leaf_selects q = twice (eqb c 0) ∙ sym (by_type_is true (sym q))
        where
          twice : (b : Bool) → b ≡ not (not b)
          twice true = refl
          twice false = refl

      pub leaf_selects_not : false ≡ has_selections d i → not (eqb c 0) ≡ leaf_wrong x d i
      leaf_selects_not q = sym (by_type_is false (sym q))

-- the test of a walk over the rows right below i
abbrev pub selects : ℕ → Row → Bool
selects i r = is_selection r && below i r

pub selects_here : (i : ℕ) (r : Row) (b : Bool) → b ≡ is_selection r → below i r ≡ true → selects i r ≡ b
selects_here i r true e l = rw (← e, l)
selects_here i r false e l = rw (← e)

-- a walk from the start is over all rows
pub selections_are : (d : Doc) (i : ℕ) {b : Bool} → b ≡ any_of (selects i) (drop 0 d.rows) → b ≡ has_selections d i
unfolding has_selections
selections_are d i e = e
