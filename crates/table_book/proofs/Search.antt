-- A search of a book: where it begins, how it goes on, what it ends with.
use mathlib.Core.Path.{◌≡◌, refl, ap, ◌∙◌}
use mathlib.Core.Bool.{true, false}
use mathlib.Core.List.{List}
use Prim.Native.Nat.{ℕ, suc, ◌+◌, ◌<◌, ◌≤◌}
use native.Mathlib.Omega.{arith}
use lib.ListN.{length, get_or}
use Rattle.paper_table.specs.Lists.{first_at}
use Rattle.table_book.specs.Book.{Key, no_key, room, cell_next, cell_head, count_in, key_at, keys_of, keyed, seed_in, hash_of, in_bucket, Indexed}
use Rattle.table_book.proofs.Firsts.{first_most, first_least}
use Rattle.table_book.proofs.Keys.{keys_count, keys_at}
use Rattle.table_book.proofs.Chained.{Sought, sought_from, sought_next, sought_here, sought_end}

module _ (t book : List ℕ) (x : Indexed t book) (low high : ℕ) (n : List ℕ) (h : ℕ) (e : h ≡ hash_of (seed_in book) n) (w : h < room) where
  abbrev keys : List Key
  keys = keys_of t book

  abbrev hash : List ℕ → ℕ
  hash = hash_of (seed_in book)

  abbrev pub At : ℕ → Type 0
  At k = Sought hash keys low high n h k × (k ≤ count_in book)

  pub search_start : {k : ℕ} → k ≡ get_or book (cell_head + h) 0 → At k
  search_start {k = k} q =
      let f = q ∙ x.chains.first h w in
      (sought_from hash keys low high n h e 0 k f refl, omega (arith, f, first_most (in_bucket hash h) keys 0 (omega arith), keys_count t book))

  pub search_less : {k m : ℕ} → k < count_in book → m ≡ get_or book (cell_next + k) 0 → suc k ≤ m
  search_less {k = k} l q =
      omega (arith, q, x.chains.next k (omega arith) (omega (arith, keys_count t book)), first_least (in_bucket hash (hash (get_or keys k no_key).name)) keys (suc k))

  pub search_more : {k m : ℕ} → At k → k < count_in book → keyed low high n (key_at t book k) ≡ false → m ≡ get_or book (cell_next + k) 0 → At m
  search_more {k = k} {m = m} a l f q =
      let v : k < length keys = omega (arith, keys_count t book) in
      let g = q ∙ x.chains.next k (omega arith) v in (
        sought_next hash keys low high n h e k m v a.0 (ap (keyed low high n) (keys_at t book k l) ∙ f) g,
        omega (arith, g, first_most (in_bucket hash (hash (get_or keys k no_key).name)) keys (suc k) (omega arith), keys_count t book),
      )

  pub search_here : {k : ℕ} → At k → k < count_in book → keyed low high n (key_at t book k) ≡ true → k ≡ first_at (keyed low high n) keys
  search_here {k = k} a l f = sought_here hash keys low high n h e k (omega (arith, keys_count t book)) a.0 (ap (keyed low high n) (keys_at t book k l) ∙ f)

  pub search_end : {k : ℕ} → At k → count_in book ≤ k → k ≡ first_at (keyed low high n) keys
  search_end {k = k} a l = sought_end hash keys low high n h e k (omega (arith, keys_count t book)) a.0
