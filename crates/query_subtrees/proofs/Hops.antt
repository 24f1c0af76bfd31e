-- From a row in a subtree over its own subtree: nothing there leaves the first.
use mathlib.Core.Path.{◌≡◌, sym, ap, ◌∙◌}
use mathlib.Core.Bool.{true, false}
use mathlib.Core.List.{List}
use Prim.Native.Nat.{ℕ, suc, ◌+◌, ◌-◌, ◌<◌, ◌≤◌}
use native.Mathlib.Decide.{dec_lt}
use native.Mathlib.Numerals.{add-one}
use native.Mathlib.Omega.{arith}
use lib.ListN.{length, get_or, set, length-set}
use lib.Seq.{get_or-set_same, get_or-set_other}
use lib.Dec.{leb}
use borrow.Author.Tests.{lt-ltb, le-ltb}
use Rattle.paper.specs.Numbers.{most_rows, no_parent}
use Rattle.paper.specs.Rows.{Row}
use Rattle.paper_query.specs.Constructs.{no_row}
use Rattle.query_rows.specs.Rowed.{rows_in, room_of}
use Rattle.query_rows.proofs.RowsIn.{rows_count}
use Rattle.query_rows.proofs.Rooms.{room_enough, room_rows}
use Rattle.query_links.specs.Links.{next_with}
use Rattle.query_links.proofs.Nexts.{next_here, next_step, next_end, next_least, next_most, next_jump}
use Rattle.query_subtrees.specs.Past.{leaves, past_of, Pasts, PastsFrom}

pub leaves_before : (i : ℕ) (r : Row) → r.parent < i → true ≡ leaves i r
leaves_before i r h = rw (lt-ltb r.parent i h)

pub leaves_not : (i : ℕ) (r : Row) → i ≤ r.parent → leb no_parent r.parent ≡ leaves i r
leaves_not i r h = rw (le-ltb r.parent i h)

-- what leaves row i leaves a later one
leaves_later : (i j : ℕ) → i ≤ j → (r : Row) → leaves i r ≡ true → leaves j r ≡ true
leaves_later i j h r e = go (dec_lt r.parent j)
  where
    go : Dec (r.parent < j) → leaves j r ≡ true
    go (yes l) = sym (leaves_before j r l)
    go (no l) = sym (leaves_not j r (omega arith)) ∙ leaves_not i r (omega arith) ∙ e

-- the search for the row past row i stands at j
pub record Hops (rs : List Row) (n i j : ℕ) : Type 0 where
  pub counted : length rs ≡ n
  pub after : i < j
  pub most : j ≤ n
  pub same : next_with (leaves i) rs j ≡ past_of rs i

module _ (rs : List Row) (n i : ℕ) where
  pub hops_start : length rs ≡ n → i < n → Hops rs n i (i + 1)
  hops_start e h = record { counted = e; after = omega arith; most = omega arith; same = ap (next_with (leaves i) rs) (add-one i) }

  module _ (j : ℕ) (w : Hops rs n i j) where
    pub hops_here : j < n → true ≡ leaves i (get_or rs j no_row) → (j ≡ past_of rs i) × (j ≤ n)
    hops_here h e = (next_here (leaves i) rs no_row j (omega (arith, w.counted)) (sym e) ∙ w.same, omega arith)

    pub hops_next : {k : ℕ} → j < n → false ≡ leaves i (get_or rs j no_row) → k ≡ past_of rs j → Hops rs n i k
    hops_next h e q = record {
      counted = w.counted;
      after = omega (arith, q, next_least (leaves j) rs (suc j), w.after);
      most = omega (arith, q, w.counted, next_most (leaves j) rs (suc j) (omega (arith, w.counted)));
      same =
          ap (next_with (leaves i) rs) q ∙ next_jump (leaves j) (leaves i) (leaves_later i j (omega (arith, w.after))) rs (suc j)
          ∙ next_step (leaves i) rs no_row j (omega (arith, w.counted)) (sym e) ∙ w.same;
    }

    pub hops_less : {k : ℕ} → k ≡ past_of rs j → j < k
    hops_less q = omega (arith, q, next_least (leaves j) rs (suc j))

    pub hops_end : n ≤ j → (j ≡ past_of rs i) × (j ≤ n)
    hops_end h = (next_end (leaves i) rs j (omega (arith, w.counted)) ∙ w.same, w.most)

pub pasts_none : (rows past : List ℕ) (n : ℕ) → length past ≡ room_of n → PastsFrom (rows_in rows n) past n
pasts_none rows past n e = record { size = e ∙ sym (room_rows rows n); most = omega (arith, rows_count rows n); right = λ j h l. absurd (omega (arith, rows_count rows n)) }

module _ (rows past : List ℕ) (n i : ℕ) (few : n ≤ most_rows) (p : 0 < i) (f : PastsFrom (rows_in rows n) past i) where
  pub pasts_low : i - 1 < n
  pasts_low = omega (arith, f.most, rows_count rows n)

  pub pasts_room : i - 1 < length past
  pasts_room = omega (arith, f.size, room_rows rows n, room_enough n few, pasts_low)

  pub pasts_behind : PastsFrom (rows_in rows n) past (i - 1 + 1)
  pasts_behind = let z : i - 1 + 1 ≡ i = omega arith in rw z f

  pub pasts_more : {e : ℕ} (past' : List ℕ) → e ≡ past_of (rows_in rows n) (i - 1) → past' ≡ set past (i - 1) e → PastsFrom (rows_in rows n) past' (i - 1)
  pasts_more {e = e} past' q w = record {
    size = ap length w ∙ length-set past (i - 1) e ∙ f.size;
    most = omega (arith, f.most);
    right = λ j h l. go j h l (dec_lt (i - 1) j);
  }
    where
      go : (j : ℕ) → i - 1 ≤ j → j < length (rows_in rows n) → Dec (i - 1 < j) → get_or past' j 0 ≡ past_of (rows_in rows n) j
      go j h l (yes u) = rw w (get_or-set_other past (i - 1) j e 0 (λ z. absurd (omega arith)) ∙ f.right j (omega arith) l)
      go j h l (no u) = let z : j ≡ i - 1 = omega arith in rw (w, z) (get_or-set_same past (i - 1) e 0 pasts_room ∙ q)

pub pasts_all : (rows past : List ℕ) (n i : ℕ) → PastsFrom (rows_in rows n) past i → i ≤ 0 → Pasts (rows_in rows n) past
pasts_all rows past n i f h = record { size = f.size; right = λ j l. f.right j (omega arith) l }
