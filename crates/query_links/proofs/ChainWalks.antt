-- Walks along the links of rows: over the rows right below one, and over the rows of one kind.
-- The loop `let mut j = FIRST; while j < n { if TEST(j) { return YES; } j = NEXT(j); } NO` has the invariant `Walk .. n i j` and the measure n - j.
-- It begins by -start (or, behind row i, by -beside), goes on by -next, and ends by walk-any, end_any and their like (Walks); -less says that it moves on.
use mathlib.Core.Path.{◌≡◌, ap, ◌∙◌}
use mathlib.Core.Bool.{Bool, true, false}
use mathlib.Core.List.{List}
use Prim.Native.Nat.{ℕ, suc, ◌<◌, ◌≤◌}
use native.Mathlib.Omega.{arith}
use lib.ListN.{length, get_or}
use borrow.Author.Tests.{eqb-true}
use Rattle.paper.specs.Numbers.{most_rows}
use Rattle.paper.specs.Rows.{Row}
use Rattle.paper_query.specs.Constructs.{no_row, is, below}
use Rattle.query_rows.specs.Rowed.{rows_in, row_in}
use Rattle.query_rows.proofs.RowsIn.{rows_count}
use Rattle.query_rows.proofs.Rooms.{room_at}
use Rattle.query_links.specs.Links.{next_with, kinds_size, Family, Kinds}
use Rattle.query_links.proofs.Nexts.{next_least}
use Rattle.query_links.proofs.Walks.{Walk, walk_start, walk_next}

-- a walk over the first n rows
abbrev pub RowWalk : List ℕ → ℕ → (Row → Bool) → (Row → Bool) → ℕ → ℕ → Type 0
RowWalk rows n p q i j = Walk no_row p q (rows_in rows n) n i j

module _ (rows : List ℕ) (n : ℕ) where
  row_walk : (p q : Row → Bool) (i j : ℕ) → i ≤ n → ((r : Row) → q r ≡ true → p r ≡ true) → j ≡ next_with p (rows_in rows n) i → RowWalk rows n p q i j
  row_walk p q i j h f z = walk_start no_row p q (rows_in rows n) n i j (rows_count rows n) h f z

  module _ (first next : List ℕ) (f : Family (rows_in rows n) first next) where
    -- the links as `next_with` has them
    pub family_first : (p : ℕ) {j : ℕ} → p ≤ most_rows → j ≡ get_or first p 0 → j ≡ next_with (below p) (rows_in rows n) 0
    family_first p h e = e ∙ f.eldest p h

    pub family_after : (p j : ℕ) {k : ℕ} → j < n → below p (row_in rows n j) ≡ true → k ≡ get_or next j 0 → k ≡ next_with (below p) (rows_in rows n) (suc j)
    family_after p j h b e =
        e ∙ f.younger j (omega (arith, rows_count rows n)) ∙ ap (λ (x : ℕ). next_with (below x) (rows_in rows n) (suc j)) (eqb-true (row_in rows n j).parent p b)

    pub family_less : (j : ℕ) {k : ℕ} → j < n → k ≡ get_or next j 0 → j < k
    family_less j h e =
        omega (arith, f.younger j (omega (arith, rows_count rows n)), next_least (below (row_in rows n j).parent) (rows_in rows n) (suc j))

    pub family_room : (j : ℕ) → j < n → n ≤ most_rows → j < length next
    family_room j h m = room_at rows n j f.nexts m h

    pub family_start : (p : ℕ) (q : Row → Bool) {j : ℕ} → p ≤ most_rows → ((r : Row) → q r ≡ true → below p r ≡ true) → j ≡ get_or first p 0 → RowWalk rows n (below p) q 0 j
    family_start p q {j = j} h w e = row_walk (below p) q 0 j (omega arith) w (family_first p h e)

    pub family_beside : (p : ℕ) (q : Row → Bool) (i : ℕ) {j : ℕ} → i < n → below p (row_in rows n i) ≡ true → ((r : Row) → q r ≡ true → below p r ≡ true) → j ≡ get_or next i 0
        → RowWalk rows n (below p) q (suc i) j
    family_beside p q i {j = j} h b w e = row_walk (below p) q (suc i) j (omega arith) w (family_after p i h b e)

    pub family_next : (p : ℕ) (q : Row → Bool) (i j : ℕ) {k : ℕ} → RowWalk rows n (below p) q i j → j < n → q (row_in rows n j) ≡ false → k ≡ get_or next j 0 → RowWalk rows n (below p) q i k
    family_next p q i j {k = k} w h t e = walk_next no_row (below p) q (rows_in rows n) n i j w k h t (family_after p j h (w.on h) e)

  module _ (first next : List ℕ) (f : Kinds (rows_in rows n) first next) where
    pub kinds_first : (p : ℕ) {j : ℕ} → p < kinds_size → j ≡ get_or first p 0 → j ≡ next_with (is p) (rows_in rows n) 0
    kinds_first p h e = e ∙ f.earliest p h

    pub kinds_after : (p j : ℕ) {k : ℕ} → p < kinds_size → j < n → is p (row_in rows n j) ≡ true → k ≡ get_or next j 0 → k ≡ next_with (is p) (rows_in rows n) (suc j)
    kinds_after p j m h b e =
        let z : (row_in rows n j).kind ≡ p = eqb-true (row_in rows n j).kind p b in
        e ∙ f.later j (omega (arith, rows_count rows n)) (omega arith) ∙ ap (λ (x : ℕ). next_with (is x) (rows_in rows n) (suc j)) z

    pub kinds_less : (p j : ℕ) {k : ℕ} → p < kinds_size → j < n → is p (row_in rows n j) ≡ true → k ≡ get_or next j 0 → j < k
    kinds_less p j m h b e = omega (arith, kinds_after p j m h b e, next_least (is p) (rows_in rows n) (suc j))

    pub kinds_room : (j : ℕ) → j < n → n ≤ most_rows → j < length next
    kinds_room j h m = room_at rows n j f.nexts m h

    pub kinds_start : (p : ℕ) (q : Row → Bool) {j : ℕ} → p < kinds_size → ((r : Row) → q r ≡ true → is p r ≡ true) → j ≡ get_or first p 0 → RowWalk rows n (is p) q 0 j
    kinds_start p q {j = j} h w e = row_walk (is p) q 0 j (omega arith) w (kinds_first p h e)

    pub kinds_beside : (p : ℕ) (q : Row → Bool) (i : ℕ) {j : ℕ} → p < kinds_size → i < n → is p (row_in rows n i) ≡ true → ((r : Row) → q r ≡ true → is p r ≡ true) → j ≡ get_or next i 0
        → RowWalk rows n (is p) q (suc i) j
    kinds_beside p q i {j = j} m h b w e = row_walk (is p) q (suc i) j (omega arith) w (kinds_after p i m h b e)

    pub kinds_next : (p : ℕ) (q : Row → Bool) (i j : ℕ) {k : ℕ} → p < kinds_size → RowWalk rows n (is p) q i j → j < n → q (row_in rows n j) ≡ false → k ≡ get_or next j 0 → RowWalk rows n (is p) q i k
    kinds_next p q i j {k = k} m w h t e = walk_next no_row (is p) q (rows_in rows n) n i j w k h t (kinds_after p j m h (w.on h) e)
