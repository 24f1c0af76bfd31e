-- Rows as numbers, read back: seven numbers a row.
use mathlib.Core.Path.{◌≡◌, refl, ◌∙◌, subst}
use mathlib.Core.List.{List, [], ◌∷◌, ◌++◌}
use Prim.Native.Nat.{ℕ, zero, suc, ◌+◌, ◌*◌, ◌<◌}
use native.Mathlib.Omega.{arith}
use lib.ListN.{length, take, drop, get_or, take-append-drop}
use lib.Seq.{ext_get_or}
use Rattle.paper.specs.Numbers.{row_size}
use Rattle.paper.specs.Rows.{Row, cells_of, flat}
use Rattle.paper_query.specs.Constructs.{no_row}
use Rattle.query_rows.specs.Rowed.{cell, row_at, rows_in}
use Rattle.query_rows.proofs.RowsIn.{rows_count, row_at_is}

cell_later : (r : Row) (ns : List ℕ) (i k : ℕ) → cell (cells_of r ++ ns) (suc i) k ≡ cell ns i k
cell_later r ns i k = let e : 7 * suc i + k ≡ suc (suc (suc (suc (suc (suc (suc (7 * i + k))))))) = omega arith in rw e

at_flat : (rs : List Row) (ns : List ℕ) (i : ℕ) → i < length rs → row_at (flat rs ++ ns) i ≡ get_or rs i no_row
unfolding flat
at_flat [] ns i h = absurd (omega arith)
at_flat (r ∷ rs) ns zero h = refl
at_flat (r ∷ rs) ns (suc i) h =
    simp (cell_later r (flat rs ++ ns) i) (at_flat rs ns i (omega arith))

module _ (rows : List ℕ) (rs : List Row) (e : take (row_size * length rs) rows ≡ flat rs) where
  pub flat_at : (i : ℕ) → i < length rs → row_at rows i ≡ get_or rs i no_row
  flat_at i h =
      let q : flat rs ++ drop (row_size * length rs) rows ≡ rows = subst (λ (z : List ℕ). z ++ drop (row_size * length rs) rows ≡ rows) e (take-append-drop (row_size * length rs) rows) in
      subst (λ (z : List ℕ). row_at z i ≡ get_or rs i no_row) q (at_flat rs (drop (row_size * length rs) rows) i h)

  pub flat_rows : rows_in rows (length rs) ≡ rs
  flat_rows =
      ext_get_or no_row (rows_in rows (length rs)) rs (rows_count rows (length rs))
      (λ i h. let l : i < length rs = omega (arith, rows_count rows (length rs)) in row_at_is rows (length rs) i l ∙ flat_at i l)
