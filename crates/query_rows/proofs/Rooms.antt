-- How many numbers a list has that holds one for each row.
use mathlib.Core.Path.{◌≡◌, refl, ap}
use mathlib.Core.Bool.{Bool, true, false, cond}
use mathlib.Core.List.{List}
use Prim.Native.Nat.{ℕ, ◌<◌, ◌≤◌}
use native.Mathlib.Omega.{arith}
use lib.ListN.{length}
use lib.Dec.{leb}
use borrow.Author.Tests.{leb-true, le-leb, lt-leb}
use Rattle.paper.specs.Numbers.{most_rows}
use Rattle.query_rows.specs.Rowed.{rows_in, few_rows, room_of}
use Rattle.query_rows.proofs.RowsIn.{rows_count}

pub room_few : (n : ℕ) → n ≤ few_rows → room_of n ≡ few_rows
unfolding room_of
room_few n h = rw (le-leb n few_rows h) refl

pub room_many : (n : ℕ) → few_rows < n → room_of n ≡ most_rows
unfolding room_of
room_many n h = rw (lt-leb n few_rows h) refl

pub room_enough : (n : ℕ) → n ≤ most_rows → n ≤ room_of n
unfolding room_of
room_enough n h = go (leb n few_rows) refl
  where
    go : (b : Bool) → leb n few_rows ≡ b → n ≤ cond b few_rows most_rows
    go true e = leb-true n few_rows e
    go false e = h

pub room_most : (n : ℕ) → room_of n ≤ most_rows
unfolding room_of
room_most n = go (leb n few_rows)
  where
    go : (b : Bool) → cond b few_rows most_rows ≤ most_rows
    go true = omega arith
    go false = omega arith

-- the same, of the rows that lie in the lent numbers
pub room_rows : (rows : List ℕ) (n : ℕ) → room_of (length (rows_in rows n)) ≡ room_of n
room_rows rows n = ap room_of (rows_count rows n)

-- a row's number is in room
pub room_at : (rows : List ℕ) (n i : ℕ) {l : ℕ} → l ≡ room_of (length (rows_in rows n)) → n ≤ most_rows → i < n → i < l
room_at rows n i e h k = omega (arith, room_rows rows n, room_enough n h)
