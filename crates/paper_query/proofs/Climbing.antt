-- What is found by looking up from row to row: how far it may look does not matter, since parents stand before.
-- Assumes nothing.
use mathlib.Core.Path.{◌≡◌, refl, sym, ap, ◌∙◌}
use mathlib.Core.Logic.{◌⊎◌, ⊎_elim}
use mathlib.Core.Bool.{Bool, true, false}
use mathlib.Core.Option.{Option, none}
use Prim.Native.Nat.{ℕ, zero, suc, ◌<◌, ◌≤◌}
use native.Mathlib.Omega.{arith}
use lib.ListN.{get_or-eq_default}
use lib.Dec.{leb}
use borrow.Author.Tests.{leb-true, leb-false}
use Rattle.paper_query.specs.Constructs.{Doc, count, no_row, row_of, parent_of}

-- each row's parent stands before it, or there is none
abbrev pub ParentsBefore : Doc → Type 0
ParentsBefore d = (i : ℕ) → i < count d → (parent_of d i < i) ⊎ (count d ≤ parent_of d i)

-- behind the last row there is none
pub row_none : (d : Doc) (i : ℕ) → count d ≤ i → row_of d i ≡ no_row
row_none d i h = get_or-eq_default d.rows no_row h

-- `from` says what row i has, by what its parent has
unfoldable pub climb : {A : Type 0} → (ℕ → Option A → Option A) → (ℕ → ℕ) → ℕ → ℕ → Option A
climb from up zero i = none
climb from up (suc f) i = from i (climb from up f (up i))

module _ {A : Type 0} (d : Doc) (from : ℕ → Option A → Option A) (before : ParentsBefore d) (absent : (i : ℕ) → count d ≤ i → (above : Option A) → from i above ≡ none) where
  -- a row that is not there has nothing
  pub climb_none : (f i : ℕ) → count d ≤ i → climb from (parent_of d) f i ≡ none
  unfolding climb
  climb_none zero i h = refl
  climb_none (suc f) i h = absent i h (climb from (parent_of d) f (parent_of d i))

  -- looked from a row's parent, with two bounds that both reach it
  parent_far : (f g i : ℕ) → (parent_of d i < i → climb from (parent_of d) f (parent_of d i) ≡ climb from (parent_of d) g (parent_of d i)) → from i (climb from (parent_of d) f (parent_of d i)) ≡ from i (climb from (parent_of d) g (parent_of d i))
  parent_far f g i same = go (leb (count d) i) refl
    where
      go : (b : Bool) → leb (count d) i ≡ b → from i (climb from (parent_of d) f (parent_of d i)) ≡ from i (climb from (parent_of d) g (parent_of d i))
      go true q = absent i (leb-true (count d) i q) (climb from (parent_of d) f (parent_of d i)) ∙ sym (absent i (leb-true (count d) i q) (climb from (parent_of d) g (parent_of d i)))
      go false q =
          ap (from i)
          (⊎_elim same (λ h. climb_none f (parent_of d i) h ∙ sym (climb_none g (parent_of d i) h)) (before i (leb-false (count d) i q)))

  pub climb_far : (f g i : ℕ) → i < f → i < g → climb from (parent_of d) f i ≡ climb from (parent_of d) g i
  unfolding climb
  climb_far zero g i h k = absurd (omega arith)
  climb_far (suc f) zero i h k = absurd (omega arith)
  climb_far (suc f) (suc g) i h k = parent_far f g i (λ l. climb_far f g (parent_of d i) (omega arith) (omega arith))

  -- a row has what `from` says, by what its parent has
  pub climb_step : (i : ℕ) → climb from (parent_of d) (suc i) i ≡ from i (climb from (parent_of d) (suc (parent_of d i)) (parent_of d i))
  unfolding climb
  climb_step i = parent_far i (suc (parent_of d i)) i (λ l. climb_far i (suc (parent_of d i)) (parent_of d i) l (omega arith))
