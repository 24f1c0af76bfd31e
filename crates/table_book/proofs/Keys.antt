-- The entries of a book, one by one; a book that keeps its entries has the same ones.
use mathlib.Core.Path.{◌≡◌, refl, sym, ap, ◌∙◌}
use mathlib.Core.List.{List}
use Prim.Native.Nat.{ℕ, zero, suc, ◌+◌, ◌<◌, ◌≤◌}
use native.Mathlib.Nat.{add-zero}
use native.Mathlib.Omega.{arith}
use lib.ListN.{length, get_or}
use Rattle.table_book.specs.Book.{no_key, room, cell_name, cell_size, cell_count, count_in, key_at, keys_from, keys_of, Held, Kept}

length_from : (t book : List ℕ) (j n : ℕ) → length (keys_from t book j n) ≡ n
unfolding keys_from
length_from t book j zero = refl
length_from t book j (suc n) = ap suc (length_from t book (suc j) n)

pub keys_count : (t book : List ℕ) → length (keys_of t book) ≡ count_in book
keys_count t book = length_from t book 0 (count_in book)

at_from : (t book : List ℕ) (j n i : ℕ) → i < n → get_or (keys_from t book j n) i no_key ≡ key_at t book (j + i)
unfolding keys_from
at_from t book j zero i h = absurd (omega arith)
at_from t book j (suc n) zero h = ap (key_at t book) (sym (add-zero j))
at_from t book j (suc n) (suc i) h =
    let e : suc j + i ≡ j + suc i = omega arith in
    at_from t book (suc j) n i (omega arith) ∙ ap (key_at t book) e

pub keys_at : (t book : List ℕ) (i : ℕ) → i < count_in book → get_or (keys_of t book) i no_key ≡ key_at t book i
keys_at t book i h = let e : 0 + i ≡ i = omega arith in at_from t book 0 (count_in book) i h ∙ ap (key_at t book) e

module _ (t old book : List ℕ) (k : Kept old book) where
  pub key_at_kept : (j : ℕ) → j < room → key_at t book j ≡ key_at t old j
  key_at_kept j h = rw (k.entries j (omega arith), k.entries (cell_name + j) (omega arith), k.entries (cell_size + j) (omega arith))

  from_kept : (j n : ℕ) → j + n ≤ room → keys_from t book j n ≡ keys_from t old j n
  unfolding keys_from
  from_kept j zero h = refl
  from_kept j (suc n) h = rw (key_at_kept j (omega arith), from_kept (suc j) n (omega arith))

  pub count_kept : count_in book ≡ count_in old
  count_kept = k.entries cell_count (omega arith)

  pub keys_kept : count_in old ≤ room → keys_of t book ≡ keys_of t old
  keys_kept m = rw count_kept (from_kept 0 (count_in old) (omega arith))

  pub held_kept : Held t old → Held t book
  held_kept h = record {
    cells = k.cells ∙ h.cells;
    most = omega (arith, count_kept, h.most);
    within = λ j l.
        let m : j < count_in old = omega (arith, count_kept) in
        let r : j < room = omega (arith, h.most) in
        rw (k.entries (cell_name + j) (omega arith), k.entries (cell_size + j) (omega arith)) (h.within j m);
  }
