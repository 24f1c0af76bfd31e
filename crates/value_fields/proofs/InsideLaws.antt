-- The type inside a row, by its kind and that inside its parent.
use mathlib.Core.Path.{◌≡◌, sym, ap, ◌∙◌}
use mathlib.Core.Logic.{⊎_elim}
use mathlib.Core.Bool.{false}
use mathlib.Core.Option.{none}
use mathlib.Core.List.{List}
use Prim.Native.Nat.{ℕ, ◌≤◌, ◌<◌}
use native.Mathlib.Omega.{arith}
use Rattle.paper.specs.Numbers.{kind_field}
use Rattle.paper.specs.Rows.{Row}
use Rattle.paper_table.specs.Types.{table_of}
use Rattle.paper_query.specs.Enclosing.{type_inside, type_inside_from, enclosing, field_at}
use Rattle.paper_query.proofs.EnclosingLaws.{inside_step, from_other}
use Rattle.query_rows.specs.Rowed.{row_in, doc_of, Rowed}
use Rattle.query_rows.proofs.RowsIn.{row_none, parent_before}
use Rattle.query_types.specs.Coded.{type_coded}
use Rattle.query_inside.specs.Enclosed.{encloses}
use Rattle.query_inside.proofs.KindLaws.{no_operation, no_fragment, no_field, no_inline}
use Rattle.query_inside.proofs.EnclosedLaws.{rowed_before, field_inside}
use Rattle.value_fields.specs.Wants.{Contains, ContentTyped}

module _ (t s rows : List ℕ) (n : ℕ) (r : Rowed s rows n) where
  step : (i : ℕ) → type_inside (table_of t) (doc_of s rows n) i ≡ type_inside_from (table_of t) (doc_of s rows n) i (enclosing (table_of t) (doc_of s rows n) i)
  step i = inside_step (table_of t) (doc_of s rows n) (rowed_before s rows n r) i

  pub inside_none : (i : ℕ) → encloses (row_in rows n i).kind ≡ false → none ≡ type_inside (table_of t) (doc_of s rows n) i
  inside_none i q =
      let k = (row_in rows n i).kind in
      sym (step i ∙ from_other (table_of t) (doc_of s rows n) i (enclosing (table_of t) (doc_of s rows n) i) (no_operation k q) (no_fragment k q) (no_inline k q) (no_field k q))

  -- a row that stands in none
  pub above_none : (i p : ℕ) → i < n → p ≡ (row_in rows n i).parent → i ≤ p → enclosing (table_of t) (doc_of s rows n) i ≡ none
  above_none i p h q l =
      sym (inside_none (row_in rows n i).parent (ap (λ (x : Row). encloses x.kind) (row_none rows n (row_in rows n i).parent (⊎_elim (λ b. absurd (omega (arith, b))) (λ z. omega (arith, z, r.few)) (parent_before s rows n r i h)))))

  module _ (i above : ℕ) (u : enclosing (table_of t) (doc_of s rows n) i ≡ type_coded above) where
    pub inside_field : (c start end : ℕ) → (row_in rows n i).kind ≡ kind_field → Contains t (field_at (table_of t) (doc_of s rows n) i) start end → ContentTyped t start end c → type_coded c ≡ type_inside (table_of t) (doc_of s rows n) i
    inside_field c start end k f q = q (field_at (table_of t) (doc_of s rows n) i) f ∙ sym (field_inside t s rows n r i k)

    pub inside_other : (c : ℕ) → type_coded c ≡ type_inside_from (table_of t) (doc_of s rows n) i (type_coded above) → type_coded c ≡ type_inside (table_of t) (doc_of s rows n) i
    inside_other c q = q ∙ sym (step i ∙ ap (type_inside_from (table_of t) (doc_of s rows n) i) u)
