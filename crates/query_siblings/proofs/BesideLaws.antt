-- Walks along the rows beside each other: to the first that is like row i, and to the first of a kind.
use mathlib.Core.Path.{◌≡◌, refl, sym, ◌∙◌}
use mathlib.Core.Bool.{true, false}
use mathlib.Core.Logic.{⊎_elim}
use mathlib.Core.List.{List}
use Prim.Native.Nat.{ℕ, ◌<◌, ◌≤◌}
use native.Mathlib.Decide.{dec_lt}
use native.Mathlib.Omega.{arith}
use lib.ListN.{get_or}
use borrow.Author.Tests.{eqb-true, eq-eqb, ne_eqb}
use Rattle.paper.proofs.Bools.{and_left, and_right}
use Rattle.paper.specs.Numbers.{most_rows}
use Rattle.paper.specs.Rows.{Row}
use Rattle.table_book.specs.Book.{part}
use Rattle.paper_query.specs.Constructs.{no_row, is, called, below, kind_of, parent_of, name_of}
use Rattle.query_rows.specs.Rowed.{rows_in, row_in, doc_of, Rowed}
use Rattle.query_rows.proofs.RowsIn.{rows_count, parent_before}
use Rattle.query_links.specs.Links.{next_with, Family}
use Rattle.query_links.proofs.Nexts.{next_here, next_end, next_passes, next_jump, next_most}
use Rattle.query_links.proofs.Walks.{walk_start, walk_at, end_at, walk_first, end_first}
use Rattle.query_links.proofs.ChainWalks.{RowWalk, family_start, family_next, family_first}
use Rattle.query_siblings.specs.Alike.{kind_called, is_like, first_like, is_below, first_below, next_beside}

-- the chain below row i's parent has a first link
pub parent_most : (s rows : List ℕ) (n i : ℕ) → Rowed s rows n → i < n → (row_in rows n i).parent ≤ most_rows
parent_most s rows n i r h =
    ⊎_elim (λ l. omega (arith, r.few)) (λ e. omega arith) (parent_before s rows n r i h)

-- row i's kind, and its name as a part of the bytes
pub as_called : (s rows : List ℕ) (n i k at l j : ℕ) → k ≡ (row_in rows n i).kind → at ≡ (row_in rows n i).name_start → l ≡ (row_in rows n i).name_length
    → kind_called (doc_of s rows n) (kind_of (doc_of s rows n) i) (name_of (doc_of s rows n) i) (row_in rows n j) ≡ kind_called (doc_of s rows n) k (part s at l) (row_in rows n j)
as_called s rows n i k at l j e f g = rw (e, f, g)

-- to the first that is like row i: at row j
abbrev pub Liking : List ℕ → List ℕ → ℕ → ℕ → ℕ → Type 0
Liking s rows n i j = RowWalk rows n (below (parent_of (doc_of s rows n) i)) (is_like (doc_of s rows n) i) 0 j

module _ (s rows : List ℕ) (n i : ℕ) where
  like_below : (x : Row) → is_like (doc_of s rows n) i x ≡ true → below (parent_of (doc_of s rows n) i) x ≡ true
  like_below x e = and_left (below (parent_of (doc_of s rows n) i) x) (called (doc_of s rows n) (name_of (doc_of s rows n) i) x) (and_right (is (kind_of (doc_of s rows n) i) x) _ e)

  -- right below row i's parent it is like row i if it has its kind and name
  like_called : (x : Row) → below (parent_of (doc_of s rows n) i) x ≡ true → is_like (doc_of s rows n) i x ≡ kind_called (doc_of s rows n) (kind_of (doc_of s rows n) i) (name_of (doc_of s rows n) i) x
  like_called x e = rw e

  pub liking_start : (first next : List ℕ) → Family (rows_in rows n) first next → parent_of (doc_of s rows n) i ≤ most_rows
      → {j : ℕ} → j ≡ get_or first (parent_of (doc_of s rows n) i) 0 → Liking s rows n i j
  liking_start first next f h e = family_start rows n first next f (parent_of (doc_of s rows n) i) (is_like (doc_of s rows n) i) h like_below e

  module _ (j : ℕ) (w : Liking s rows n i j) where
    pub liking_next : (first next : List ℕ) → Family (rows_in rows n) first next → {m : ℕ} → j < n
        → kind_called (doc_of s rows n) (kind_of (doc_of s rows n) i) (name_of (doc_of s rows n) i) (row_in rows n j) ≡ false → m ≡ get_or next j 0 → Liking s rows n i m
    liking_next first next f l q e = family_next rows n first next f (parent_of (doc_of s rows n) i) (is_like (doc_of s rows n) i) 0 j w l (like_called (row_in rows n j) (w.on l) ∙ q) e

    pub liking_here : j < n → kind_called (doc_of s rows n) (kind_of (doc_of s rows n) i) (name_of (doc_of s rows n) i) (row_in rows n j) ≡ true → j ≡ first_like (doc_of s rows n) i
    liking_here l q =
        walk_first no_row (below (parent_of (doc_of s rows n) i)) (is_like (doc_of s rows n) i) (rows_in rows n) n j w l (like_called (row_in rows n j) (w.on l) ∙ q)

    pub liking_end : n ≤ j → j ≡ first_like (doc_of s rows n) i
    liking_end l =
        end_first no_row (below (parent_of (doc_of s rows n) i)) (is_like (doc_of s rows n) i) (rows_in rows n) n j w l

-- from row j on to the first of kind k: at row m
abbrev pub Seeking : List ℕ → ℕ → ℕ → ℕ → ℕ → Type 0
Seeking rows n k j m = RowWalk rows n (below (row_in rows n j).parent) (is_below k (row_in rows n j).parent) j m

module _ (rows : List ℕ) (n k : ℕ) where
  module _ (j : ℕ) where
    -- row j stands right below its parent
    stands : j ≡ next_with (below (row_in rows n j).parent) (rows_in rows n) j
    stands = go (dec_lt j n)
      where
        go : Dec (j < n) → j ≡ next_with (below (row_in rows n j).parent) (rows_in rows n) j
        go (yes h) =
            next_here (below (row_in rows n j).parent) (rows_in rows n) no_row j (omega (arith, rows_count rows n)) (eq-eqb (row_in rows n j).parent (row_in rows n j).parent refl)
        go (no h) =
            next_end (below (row_in rows n j).parent) (rows_in rows n) j (omega (arith, rows_count rows n))

    pub seeking_start : j ≤ n → Seeking rows n k j j
    seeking_start h =
        walk_start no_row (below (row_in rows n j).parent) (is_below k (row_in rows n j).parent) (rows_in rows n) n j j (rows_count rows n) h (λ x. and_right (is k x) (below (row_in rows n j).parent x)) stands

    module _ (m : ℕ) (w : Seeking rows n k j m) where
      pub seeking_next : (first next : List ℕ) → Family (rows_in rows n) first next → {i : ℕ} → m < n → ((row_in rows n m).kind ≡ k → ⊥) → i ≡ get_or next m 0 → Seeking rows n k j i
      seeking_next first next f l q e =
          family_next rows n first next f (row_in rows n j).parent (is_below k (row_in rows n j).parent) j m w l (rw (ne_eqb (row_in rows n m).kind k q)) e

      pub seeking_here : m < n → (row_in rows n m).kind ≡ k → m ≡ next_beside (rows_in rows n) k j
      seeking_here l e =
          walk_at no_row (below (row_in rows n j).parent) (is_below k (row_in rows n j).parent) (rows_in rows n) n j m w l (rw (eq-eqb (row_in rows n m).kind k e) (w.on l))

      pub seeking_end : n ≤ m → m ≡ next_beside (rows_in rows n) k j
      seeking_end l =
          end_at no_row (below (row_in rows n j).parent) (is_below k (row_in rows n j).parent) (rows_in rows n) n j m w l

  -- where row j is the first right below row p from row i on, its first of kind k is that of row p from row i on
  module _ (p i j : ℕ) (e : j ≡ next_with (below p) (rows_in rows n) i) where
    same_first : next_with (is_below k p) (rows_in rows n) j ≡ next_with (is_below k p) (rows_in rows n) i
    same_first = rw e (next_jump (below p) (is_below k p) (λ x. and_right (is k x) (below p x)) (rows_in rows n) i)

    pub beside_below : next_beside (rows_in rows n) k j ≡ next_with (is_below k p) (rows_in rows n) i
    beside_below = go (dec_lt j n)
      where
        go : Dec (j < n) → next_beside (rows_in rows n) k j ≡ next_with (is_below k p) (rows_in rows n) i
        go (yes h) =
            let q : (row_in rows n j).parent ≡ p = eqb-true _ _ (rw (← e) at (next_passes (below p) (rows_in rows n) no_row i (omega (arith, rows_count rows n)))) in
            rw q same_first
        go (no h) =
            sym (next_end (is_below k (row_in rows n j).parent) (rows_in rows n) j (omega (arith, rows_count rows n)))
            ∙ next_end (is_below k p) (rows_in rows n) j (omega (arith, rows_count rows n)) ∙ same_first

-- from the first right below row i on
module _ (rows : List ℕ) (n : ℕ) (first next : List ℕ) (f : Family (rows_in rows n) first next) (k i j : ℕ) (h : i ≤ most_rows) (e : j ≡ get_or first i 0) where
  pub first_within : j ≤ n
  first_within = omega (arith, family_first rows n first next f i h e, rows_count rows n, next_most (below i) (rows_in rows n) 0 (omega arith))

  pub first_below_is : next_beside (rows_in rows n) k j ≡ first_below (rows_in rows n) k i
  first_below_is = beside_below rows n k i 0 j (family_first rows n first next f i h e)
