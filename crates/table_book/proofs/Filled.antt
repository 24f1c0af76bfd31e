-- A list of which a part was filled with one number.
use mathlib.Core.Path.{◌≡◌, ap, ◌∙◌}
use mathlib.Core.List.{List}
use Prim.Native.Nat.{ℕ, ◌+◌, ◌<◌, ◌≤◌}
use native.Mathlib.Omega.{arith}
use borrow.Author.Rules.{rules}
use borrow.Rule.Slice.PartMut.{put_mid}
use lib.ListN.{length, take, drop, get_or, replicate}
use Rattle.std.proofs.lemmas.List.{places}
use Rattle.table_book.specs.Book.{room, cell_head, book_size, count_in, Cleared}

module _ (l : List ℕ) (a n v : ℕ) (h : a + n ≤ length l) where
  filled_length : length (put_mid a n l (replicate n v)) ≡ length l
  filled_length = search (rules, places)

  filled_before : (k : ℕ) → k < a → get_or (put_mid a n l (replicate n v)) k 0 ≡ get_or l k 0
  filled_before k b = search (rules, places)

  filled_inside : (k : ℕ) → k < n → get_or (put_mid a n l (replicate n v)) (a + k) 0 ≡ v
  filled_inside k b = search (rules, places)

  filled_behind : (k : ℕ) → a + n ≤ k → get_or (put_mid a n l (replicate n v)) k 0 ≡ get_or l k 0
  filled_behind k b = search (rules, places)

-- all buckets' first cells are the count; the cells before and behind them are as they were
pub filled_cleared : (book heads : List ℕ) → length book ≡ book_size → heads ≡ replicate (length (take room (drop cell_head book))) (count_in book) → Cleared book (put_mid cell_head room book heads)
filled_cleared book heads b h =
    let w : cell_head + room ≤ length book = omega (arith, b) in
    let n : length (take room (drop cell_head book)) ≡ room = part_length book cell_head room w in
    let e : heads ≡ replicate room (count_in book) = h ∙ ap (λ (k : ℕ). replicate k (count_in book)) n in
    rw e (record {
      kept = record { cells = filled_length book cell_head room _ w; entries = λ k l. filled_before book cell_head room _ w k (omega (arith, l)) };
      seed_is = filled_behind book cell_head room _ w _ (omega arith);
      empty = λ k l. filled_inside book cell_head room _ w k l;
    })
  where
    part_length : (l : List ℕ) (a n : ℕ) → a + n ≤ length l → length (take n (drop a l)) ≡ n
    part_length l a n w = search (rules, places)
