-- The rows that lie in the lent numbers, one by one.
use mathlib.Core.Path.{◌≡◌, refl, sym, ap, ◌∙◌}
use mathlib.Core.Logic.{◌⊎◌}
use mathlib.Core.List.{List}
use Prim.Native.Nat.{ℕ, zero, suc, ◌+◌, ◌*◌, ◌<◌, ◌≤◌}
use native.Mathlib.Nat.{add-zero}
use native.Mathlib.Decide.{dec_lt}
use native.Mathlib.Omega.{arith}
use lib.ListN.{length, get_or, get_or-eq_default}
use Rattle.paper.specs.Numbers.{row_size, no_parent}
use Rattle.paper_query.specs.Constructs.{no_row}
use Rattle.query_rows.specs.Rowed.{row_at, rows_from, rows_in, row_in, Rowed, Sized}

length_from : (rows : List ℕ) (j n : ℕ) → length (rows_from rows j n) ≡ n
unfolding rows_from
length_from rows j zero = refl
length_from rows j (suc n) = ap suc (length_from rows (suc j) n)

pub rows_count : (rows : List ℕ) (n : ℕ) → length (rows_in rows n) ≡ n
rows_count rows n = length_from rows 0 n

at_from : (rows : List ℕ) (j n i : ℕ) → i < n → get_or (rows_from rows j n) i no_row ≡ row_at rows (j + i)
unfolding rows_from
at_from rows j zero i h = absurd (omega arith)
at_from rows j (suc n) zero h = ap (row_at rows) (sym (add-zero j))
at_from rows j (suc n) (suc i) h =
    let e : suc j + i ≡ j + suc i = omega arith in
    at_from rows (suc j) n i (omega arith) ∙ ap (row_at rows) e

pub row_at_is : (rows : List ℕ) (n i : ℕ) → i < n → row_in rows n i ≡ row_at rows i
row_at_is rows n i h = let e : 0 + i ≡ i = omega arith in at_from rows 0 n i h ∙ ap (row_at rows) e

pub row_none : (rows : List ℕ) (n i : ℕ) → n ≤ i → row_in rows n i ≡ no_row
row_none rows n i h = get_or-eq_default (rows_in rows n) no_row (omega (arith, rows_count rows n))

-- its kind, at its first number
pub kind_at : (rows : List ℕ) (n i : ℕ) → i < n → get_or rows (row_size * i) 0 ≡ (row_in rows n i).kind
kind_at rows n i h = rw (row_at_is rows n i h, add-zero)

pub rowed_sized : {s rows : List ℕ} {n : ℕ} → Rowed s rows n → Sized rows n
rowed_sized r = record { size = r.size; few = r.few }

module _ (s rows : List ℕ) (n : ℕ) (r : Rowed s rows n) where
  -- a name lies in the bytes, also that of a row that is not there
  pub name_within : (i : ℕ) → (row_in rows n i).name_start + (row_in rows n i).name_length ≤ length s
  name_within i = go (dec_lt i n)
    where
      go : Dec (i < n) → (row_in rows n i).name_start + (row_in rows n i).name_length ≤ length s
      go (yes h) = rw (row_at_is rows n i h) (r.names i h)
      go (no h) = rw (row_none rows n i (omega arith)) (omega arith)

  pub parent_before : (i : ℕ) → i < n → ((row_in rows n i).parent < i) ⊎ ((row_in rows n i).parent ≡ no_parent)
  parent_before i h = rw (row_at_is rows n i h) (r.parents i h)
