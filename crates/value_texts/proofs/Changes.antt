-- A row of a list changed: that row and the others.
use mathlib.Core.Path.{◌≡◌, refl, ap}
use mathlib.Core.List.{List, [], ◌∷◌}
use Prim.Native.Nat.{ℕ, zero, suc, ◌<◌, ◌≤◌}
use native.Mathlib.Omega.{arith}
use lib.ListN.{length, get_or}
use Rattle.paper.specs.Rows.{Row, change}
use Rattle.paper_query.specs.Constructs.{no_row}

abbrev pub at : List Row → ℕ → Row
at rs i = get_or rs i no_row

module _ (f : Row → Row) where
  pub change_here : (k : ℕ) (rs : List Row) → k < length rs → at (change f k rs) k ≡ f (at rs k)
  change_here k [] h = absurd (omega arith)
  change_here zero (r ∷ rs) h = refl
  change_here (suc k) (r ∷ rs) h = change_here k rs (omega arith)

  pub change_else : (k i : ℕ) (rs : List Row) → (i ≡ k → ⊥) → at (change f k rs) i ≡ at rs i
  change_else k i [] h = refl
  change_else zero zero (r ∷ rs) h = absurd (h refl)
  change_else zero (suc i) (r ∷ rs) h = refl
  change_else (suc k) zero (r ∷ rs) h = refl
  change_else (suc k) (suc i) (r ∷ rs) h = change_else k i rs (λ e. h (ap suc e))

  pub change_out : (k : ℕ) (rs : List Row) → length rs ≤ k → change f k rs ≡ rs
  change_out k [] h = refl
  change_out zero (r ∷ rs) h = absurd (omega arith)
  change_out (suc k) (r ∷ rs) h = ap (λ (z : List Row). r ∷ z) (change_out k rs (omega arith))
