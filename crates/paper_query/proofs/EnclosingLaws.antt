-- The type inside a row, by that inside its parent; and what is inside a row of each kind.
-- Assumes nothing.
use mathlib.Core.Path.{◌≡◌, refl, sym, ap, ◌∙◌}
use mathlib.Core.Bool.{Bool, true, false, cond, true≢false}
use mathlib.Core.Option.{Option, none, some}
use mathlib.Core.List.{List}
use Prim.Native.Nat.{ℕ, zero, suc, ◌≤◌}
use borrow.Author.Tests.{eq-eqb, ne_eqb}
use Rattle.paper.specs.Numbers.{kind_operation, kind_fragment, kind_field, kind_inline}
use Rattle.paper.specs.Rows.{Row}
use Rattle.paper_table.specs.Types.{Member, Table, Meaning, built_in, no_meaning, definition, meaning, definition_by, meant, is_composite}
use Rattle.paper_table.specs.References.{base_of, found}
use Rattle.paper_query.specs.Constructs.{Doc, count, is, spelt, row_of, kind_of, parent_of, extra_of, name_of}
use Rattle.paper_query.specs.Enclosing.{then, definition_at, if_composite, composite_of, root_of, FieldIs, typename, member, missing, unknown, field_named, selections_type, condition_of, conditioned, type_inside_from, type_inside_by, type_inside}
use Rattle.paper_query.proofs.Climbing.{ParentsBefore, row_none, climb, climb_none, climb_step}

module _ (t : Table) (d : Doc) where
  inside_climbs : (f i : ℕ) → type_inside_by t d f i ≡ climb (type_inside_from t d) (parent_of d) f i
  unfolding type_inside_by climb
  inside_climbs zero i = refl
  inside_climbs (suc f) i = ap (type_inside_from t d i) (inside_climbs f (parent_of d i))

  nothing_inside : (i : ℕ) → count d ≤ i → (above : Option ℕ) → type_inside_from t d i above ≡ none
  unfolding type_inside_from
  nothing_inside i h above = rw (row_none d i h)

  module _ (before : ParentsBefore d) where
    pub inside_step : (i : ℕ) → type_inside t d i ≡ type_inside_from t d i (type_inside t d (parent_of d i))
    unfolding type_inside
    inside_step i = inside_climbs (suc i) i ∙ climb_step d (type_inside_from t d) before nothing_inside i ∙ ap (type_inside_from t d i) (sym (inside_climbs (suc (parent_of d i)) (parent_of d i)))

    -- a row that is not there has no type inside
    pub inside_none : (i : ℕ) → count d ≤ i → type_inside t d i ≡ none
    unfolding type_inside
    inside_none i h = inside_climbs (suc i) i ∙ climb_none d (type_inside_from t d) before nothing_inside (suc i) i h

  -- by the row's kind
  module _ (i : ℕ) (above : Option ℕ) where
    pub from_operation : kind_of d i ≡ kind_operation → type_inside_from t d i above ≡ then (root_of t (extra_of d i)) (λ m. composite_of t m.name)
    unfolding type_inside_from
    from_operation k = rw (eq-eqb (kind_of d i) kind_operation k)

    pub from_fragment : kind_of d i ≡ kind_fragment → type_inside_from t d i above ≡ conditioned t d none (condition_of d i)
    unfolding type_inside_from
    from_fragment k = rw (k)

    pub from_inline : kind_of d i ≡ kind_inline → type_inside_from t d i above ≡ conditioned t d above (condition_of d i)
    unfolding type_inside_from
    from_inline k = rw (k)

    pub from_field : kind_of d i ≡ kind_field → type_inside_from t d i above ≡ selections_type t (field_named t above (name_of d i))
    unfolding type_inside_from
    from_field k = rw (k)

    pub from_other : (kind_of d i ≡ kind_operation → ⊥) → (kind_of d i ≡ kind_fragment → ⊥) → (kind_of d i ≡ kind_inline → ⊥) → (kind_of d i ≡ kind_field → ⊥)
        → type_inside_from t d i above ≡ none
    unfolding type_inside_from
    from_other a b c e = rw (ne_eqb (kind_of d i) kind_operation a, ne_eqb (kind_of d i) kind_fragment b, ne_eqb (kind_of d i) kind_inline c, ne_eqb (kind_of d i) kind_field e)

-- a name has a type with selections if and only if it means an object, interface or union
pub composite_found : (t : Table) (n : List ℕ) → found (composite_of t n) ≡ is_composite (meant t n)
unfolding composite_of
composite_found t n = go (meaning t n)
  where
    go : (m : Meaning) → found (if_composite t m) ≡ is_composite (definition_by t m)
    go built_in = refl
    go no_meaning = refl
    go (definition k) = is_found (is_composite (definition_by t (definition k)))
      where
        is_found : (b : Bool) → found (cond b (some k) none) ≡ b
        is_found true = refl
        is_found false = refl

-- the table's definition of this number is an object, interface or union
abbrev pub Composite : Table → ℕ → Type 0
Composite t k = is_composite (definition_at t k) ≡ true

no_type_is : {A : Type 0} (k : ℕ) → none ≡ some k → A
no_type_is k e = let z : ◌≡◌ {A = Option ℕ} none (some k) = e in absurd (true≢false cc)

pub composite_is : (t : Table) (n : List ℕ) (k : ℕ) → composite_of t n ≡ some k → Composite t k
unfolding composite_of
composite_is t n k e = go (meaning t n) e
  where
    chosen : (j : ℕ) (b : Bool) → is_composite (definition_at t j) ≡ b → cond b (some j) none ≡ some k → Composite t k
    chosen j true q e = let z : j ≡ k = cc in rw (sym z) q
    chosen j false q e = no_type_is k e

    go : (m : Meaning) → if_composite t m ≡ some k → Composite t k
    go built_in e = no_type_is k e
    go no_meaning e = no_type_is k e
    go (definition j) e = chosen j (is_composite (definition_at t j)) refl e

-- the type inside a row is an object, interface or union
module _ (t : Table) (d : Doc) where
  root_is : (o : Option Member) (k : ℕ) → then o (λ m. composite_of t m.name) ≡ some k → Composite t k
  root_is none k e = no_type_is k e
  root_is (some m) k e = composite_is t m.name k e

  condition_is : (o : Option Row) (above : Option ℕ) → ((k : ℕ) → above ≡ some k → Composite t k) → (k : ℕ) → conditioned t d above o ≡ some k → Composite t k
  condition_is none above h k e = h k e
  condition_is (some r) above h k e = composite_is t (spelt d r) k e

  type_is : (f : FieldIs) (k : ℕ) → selections_type t f ≡ some k → Composite t k
  type_is typename k e = no_type_is k e
  type_is (member m) k e = composite_is t (base_of m.type) k e
  type_is missing k e = no_type_is k e
  type_is unknown k e = no_type_is k e

  from_is : (i : ℕ) (above : Option ℕ) → ((k : ℕ) → above ≡ some k → Composite t k) → (k : ℕ) → type_inside_from t d i above ≡ some k → Composite t k
  unfolding type_inside_from
  from_is i above h k e = go (is kind_operation (row_of d i)) (is kind_fragment (row_of d i)) (is kind_inline (row_of d i)) (is kind_field (row_of d i)) e
    where
      go : (a b c f : Bool)
          → cond a (then (root_of t (extra_of d i)) (λ m. composite_of t m.name)) (cond b (conditioned t d none (condition_of d i)) (cond c (conditioned t d above (condition_of d i)) (cond f (selections_type t (field_named t above (name_of d i))) none))) ≡ some k
          → Composite t k
      go true b c f e = root_is (root_of t (extra_of d i)) k e
      go false true c f e = condition_is (condition_of d i) none (λ j q. no_type_is j q) k e
      go false false true f e = condition_is (condition_of d i) above h k e
      go false false false true e = type_is (field_named t above (name_of d i)) k e
      go false false false false e = no_type_is k e

  by_is : (f i k : ℕ) → type_inside_by t d f i ≡ some k → Composite t k
  unfolding type_inside_by
  by_is zero i k e = no_type_is k e
  by_is (suc f) i k e = from_is i (type_inside_by t d f (parent_of d i)) (λ j q. by_is f (parent_of d i) j q) k e

  pub inside_is : (i k : ℕ) → type_inside t d i ≡ some k → Composite t k
  unfolding type_inside
  inside_is i k e = by_is (suc i) i k e
