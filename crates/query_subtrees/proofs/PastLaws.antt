-- What lies between a row and the row past its subtree; children, hop by hop.
use mathlib.Core.Path.{◌≡◌, sym, ap, ◌∙◌}
use mathlib.Core.Bool.{true, false, true≢false}
use mathlib.Core.List.{List}
use Prim.Native.Nat.{ℕ, zero, suc, ◌<◌, ◌≤◌}
use native.Mathlib.Decide.{dec_lt}
use native.Mathlib.Omega.{arith}
use lib.ListN.{length, get_or}
use borrow.Author.Tests.{leb-false, lt-leb}
use Rattle.paper.specs.Numbers.{most_rows, no_parent}
use Rattle.paper.specs.Rows.{Row}
use Rattle.paper_query.specs.Constructs.{no_row}
use Rattle.query_links.proofs.Nexts.{next_least, next_most, next_passes, next_skips}
use Rattle.query_subtrees.specs.Past.{parent_in, leaves, past_of, Nested, Parented, Under, itself, deeper}
use Rattle.query_subtrees.proofs.Hops.{leaves_before, leaves_not}

-- what does not leave row i has a parent from i on; what leaves it has not
pub stays_in : (i : ℕ) (r : Row) → leaves i r ≡ false → (i ≤ r.parent) × (r.parent < no_parent)
stays_in i r e = go (dec_lt r.parent i)
  where
    go : Dec (r.parent < i) → (i ≤ r.parent) × (r.parent < no_parent)
    go (yes l) = absurd (true≢false (leaves_before i r l ∙ e))
    go (no l) = let h : i ≤ r.parent = omega arith in (h, leb-false no_parent r.parent (leaves_not i r h ∙ e))

pub leaves_out : (i : ℕ) (r : Row) → leaves i r ≡ true → r.parent < no_parent → r.parent < i
leaves_out i r e h = go (dec_lt r.parent i)
  where
    go : Dec (r.parent < i) → r.parent < i
    go (yes l) = l
    go (no l) = absurd (true≢false (sym e ∙ sym (leaves_not i r (omega arith)) ∙ lt-leb no_parent r.parent h))

module _ (rs : List Row) (i : ℕ) where
  pub past_after : i < past_of rs i
  past_after = next_least (leaves i) rs (suc i)

  pub past_most : i < length rs → past_of rs i ≤ length rs
  past_most h = next_most (leaves i) rs (suc i) h

  -- before it a row has a parent from i on
  pub past_parents : (j : ℕ) → i < j → j < past_of rs i → (i ≤ parent_in rs j) × (parent_in rs j < no_parent)
  past_parents j h l = stays_in i (get_or rs j no_row) (next_skips (leaves i) rs no_row (suc i) j h l)

  -- so all of them stand in row i
  under_by : Parented rs → i < length rs → (f j : ℕ) → j < f → i ≤ j → j < past_of rs i → Under rs i j
  under_by p low zero j u h l = absurd (omega arith)
  under_by p low (suc f) j u h l = on (dec_lt i j) (λ k v w. under_by p low f k v w)
    where
      on : Dec (i < j) → ((k : ℕ) → k < f → i ≤ k → k < past_of rs i → Under rs i k) → Under rs i j
      on (yes k) ih =
          let q = past_parents j k l in
          let b : parent_in rs j < j = p j (omega (arith, past_most low)) q.1 in
          deeper q.1 (ih (parent_in rs j) (omega (arith, b)) q.0 (omega (arith, b)))
      on (no k) ih = let z : j ≡ i = omega arith in rw z itself

  pub past_under : Parented rs → i < length rs → (j : ℕ) → i ≤ j → j < past_of rs i → Under rs i j
  past_under p low j h l = under_by p low (suc j) j (omega arith) h l

  -- in preorder every child lies before it
  pub past_child : Nested rs → length rs ≤ most_rows → (j : ℕ) → j < length rs → i < j → parent_in rs j ≡ i → j < past_of rs i
  past_child n few j h l e = go (dec_lt j (past_of rs i))
    where
      go : Dec (j < past_of rs i) → j < past_of rs i
      go (yes u) = u
      go (no u) = absurd (on (dec_lt (past_of rs i) j))
        where
          k : ℕ
          k = past_of rs i

          out : leaves i (get_or rs k no_row) ≡ true
          out = next_passes (leaves i) rs no_row (suc i) (omega arith)

          on : Dec (k < j) → ⊥
          on (yes v) =
              let q = n j k h (omega arith) (omega (arith, past_after)) v in
              omega (arith, q.0, q.1, leaves_out i (get_or rs k no_row) out (omega (arith, q.1)))
          on (no v) = let z : k ≡ j = omega arith in omega (arith, leaves_out i (get_or rs k no_row) out (omega (arith, ap (parent_in rs) z)), ap (parent_in rs) z)

  -- behind a child stands the next child, or nothing of row i
  pub past_hop : Nested rs → length rs ≤ most_rows → (j : ℕ) → i < length rs → i < j → j < past_of rs i → parent_in rs j ≡ i → past_of rs j < past_of rs i → parent_in rs (past_of rs j) ≡ i
  past_hop n few j low l h e u =
      let most : past_of rs j < length rs = omega (arith, past_most low) in
      let after : j < past_of rs j = next_least (leaves j) rs (suc j) in
      let q = past_parents (past_of rs j) (omega (arith, after)) u in
      let o = leaves_out j (get_or rs (past_of rs j) no_row) (next_passes (leaves j) rs no_row (suc j) most) q.1 in
      let w = n (past_of rs j) j most (omega arith) o after in
      omega (arith, q.0, w.0)

  -- the first row behind row i, if it stands in it, is its child
  pub past_first : Parented rs → i < length rs → suc i < past_of rs i → parent_in rs (suc i) ≡ i
  past_first p low u =
      let q = past_parents (suc i) (omega arith) u in
      omega (arith, q.0, p (suc i) (omega (arith, past_most low)) q.1)
