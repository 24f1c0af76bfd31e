-- The kinds of rows that may have a type inside.
use mathlib.Core.Path.{◌≡◌, sym, ap, ◌∙◌}
use mathlib.Core.Bool.{Bool, true, false, true≢false}
use mathlib.Core.List.{List}
use Prim.Native.Nat.{ℕ, ◌<◌}
use native.Mathlib.Decide.{dec_lt}
use native.Mathlib.Omega.{arith}
use lib.Dec.{eqb}
use borrow.Author.Tests.{ne_eqb, eqb-true}
use Rattle.paper.specs.Numbers.{kind_operation, kind_fragment, kind_field, kind_inline}
use Rattle.paper.specs.Rows.{Row}
use Rattle.query_rows.specs.Rowed.{row_in}
use Rattle.query_rows.proofs.RowsIn.{row_none}
use Rattle.query_inside.specs.Enclosed.{encloses}

module _ (k : ℕ) where
  pub operation_encloses : k ≡ kind_operation → true ≡ encloses k
  operation_encloses e = rw e

  pub fragment_encloses : k ≡ kind_fragment → true ≡ encloses k
  fragment_encloses e = rw e

  pub field_encloses : k ≡ kind_field → true ≡ encloses k
  field_encloses e = rw e

  inline_encloses : k ≡ kind_inline → true ≡ encloses k
  inline_encloses e = rw e

  rest : (k ≡ kind_operation → ⊥) → (k ≡ kind_fragment → ⊥) → (k ≡ kind_field → ⊥) → encloses k ≡ eqb k kind_inline
  rest a b c = rw (ne_eqb k kind_operation a, ne_eqb k kind_fragment b, ne_eqb k kind_field c)

  pub rest_encloses : {r : Bool} → (k ≡ kind_operation → ⊥) → (k ≡ kind_fragment → ⊥) → (k ≡ kind_field → ⊥) → r ≡ eqb k kind_inline → r ≡ encloses k
  rest_encloses a b c e = e ∙ sym (rest a b c)

  pub rest_inline : encloses k ≡ true → (k ≡ kind_operation → ⊥) → (k ≡ kind_fragment → ⊥) → (k ≡ kind_field → ⊥) → k ≡ kind_inline
  rest_inline e a b c = eqb-true k kind_inline (sym (rest a b c) ∙ e)

  -- a kind that has none is none of the four
  module _ (e : encloses k ≡ false) where
    pub no_operation : k ≡ kind_operation → ⊥
    no_operation z = true≢false (operation_encloses z ∙ e)

    pub no_fragment : k ≡ kind_fragment → ⊥
    no_fragment z = true≢false (fragment_encloses z ∙ e)

    pub no_field : k ≡ kind_field → ⊥
    no_field z = true≢false (field_encloses z ∙ e)

    pub no_inline : k ≡ kind_inline → ⊥
    no_inline z = true≢false (inline_encloses z ∙ e)

-- a row that may have one is there
pub encloses_there : (rows : List ℕ) (n i : ℕ) → encloses (row_in rows n i).kind ≡ true → i < n
encloses_there rows n i e = go (dec_lt i n)
  where
    go : Dec (i < n) → i < n
    go (yes h) = h
    go (no h) = absurd (true≢false (sym e ∙ ap (λ (r : Row). encloses r.kind) (row_none rows n i (omega arith))))
