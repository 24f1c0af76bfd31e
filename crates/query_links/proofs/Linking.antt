-- The links of rows, made from the last row to the first.
use mathlib.Core.Path.{◌≡◌, sym, ap, ◌∙◌}
use mathlib.Core.Logic.{◌⊎◌, inl, inr}
use mathlib.Core.List.{List}
use Prim.Native.Nat.{ℕ, ◌-◌, ◌<◌, ◌≤◌}
use native.Mathlib.Omega.{arith}
use lib.ListN.{length, get_or, set, replicate}
use Rattle.paper.specs.Numbers.{most_rows, no_parent}
use Rattle.paper.specs.Rows.{Row}
use Rattle.paper_query.specs.Constructs.{no_row}
use Rattle.query_rows.specs.Rowed.{rows_in, row_in, Rowed, room_of}
use Rattle.query_rows.proofs.RowsIn.{rows_count, parent_before}
use Rattle.query_rows.proofs.Rooms.{room_enough, room_most}
use Rattle.query_links.specs.Links.{firsts_size, kinds_size, Family, Kinds}
use Rattle.query_links.proofs.Chained.{Chains, chains_none, chains_skip, chains_more}

-- the first n rows, from number i on, are linked by their parents, by their kinds, or by another key
abbrev pub RowChains : (Row → ℕ) → ℕ → List ℕ → ℕ → List ℕ → List ℕ → ℕ → Type 0
RowChains key size rows n first next i = Chains no_row key size (rows_in rows n) first next i

abbrev pub parents : Row → ℕ
parents r = r.parent

abbrev pub sorts : Row → ℕ
sorts r = r.kind

module _ (key : Row → ℕ) (size : ℕ) (rows : List ℕ) (n : ℕ) where
  pub linking_start : (first next : List ℕ) (l : ℕ) → n ≤ most_rows → l ≡ size → length next ≡ room_of n → first ≡ replicate l n → RowChains key size rows n first next n
  linking_start first next l m e h q =
      chains_none no_row key size (rows_in rows n) first next n (sym (rows_count rows n)) m h (q ∙ ap (λ (k : ℕ). replicate k n) e)

  module _ (first next : List ℕ) {j : ℕ} (c : RowChains key size rows n first next j) (p : 0 < j) where
    pub linking_row : j - 1 < n
    linking_row = omega (arith, c.least, rows_count rows n)

    pub linking_room : j - 1 < length next
    linking_room = omega (arith, c.least, c.nexts, room_enough (length (rows_in rows n)) c.few)

    pub linking_most : length next ≤ most_rows
    linking_most = omega (arith, c.nexts, room_most (length (rows_in rows n)))

    pub linking_more : {k : ℕ} (first' next' : List ℕ) → k ≡ key (row_in rows n (j - 1)) → k < size → first' ≡ set first k (j - 1) → next' ≡ set next (j - 1) (get_or first k 0) → RowChains key size rows n first' next' (j - 1)
    linking_more {k = k} first' next' e h f g = chains_more no_row key size (rows_in rows n) first next first' next' j (j - 1) k c (omega arith) e h f g

    pub linking_skip : {k : ℕ} → k ≡ key (row_in rows n (j - 1)) → size ≤ k → RowChains key size rows n first next (j - 1)
    linking_skip {k = k} e h = chains_skip no_row key size (rows_in rows n) first next first next j (j - 1) k c (omega arith) e h

-- a parent's place among the firsts
pub parent_place : (s rows : List ℕ) (n : ℕ) → Rowed s rows n → (i : ℕ) → i < n → (row_in rows n i).parent < firsts_size
parent_place s rows n r i h = go (parent_before s rows n r i h)
  where
    go : ((row_in rows n i).parent < i) ⊎ ((row_in rows n i).parent ≡ no_parent) → (row_in rows n i).parent < firsts_size
    go (inl l) = omega (arith, r.few)
    go (inr e) = omega arith

pub families_end : (s rows : List ℕ) (n : ℕ) (first next : List ℕ) (j : ℕ) → Rowed s rows n → RowChains parents firsts_size rows n first next j → j ≤ 0 → Family (rows_in rows n) first next
families_end s rows n first next j r c h = record {
  firsts = c.firsts;
  nexts = c.nexts;
  eldest = λ p l. rw z at (c.head p (omega arith));
  younger = λ i l. c.tail i (omega arith) l (parent_place s rows n r i (omega (arith, rows_count rows n)));
}
  where
    z : j ≡ 0
    z = omega arith

pub kinds_end : (rows : List ℕ) (n : ℕ) (first next : List ℕ) (j : ℕ) → RowChains sorts kinds_size rows n first next j → j ≤ 0 → Kinds (rows_in rows n) first next
kinds_end rows n first next j c h = record {
  firsts = c.firsts;
  nexts = c.nexts;
  earliest = λ k l. rw z at (c.head k l);
  later = λ i l m. c.tail i (omega arith) l m;
}
  where
    z : j ≡ 0
    z = omega arith
