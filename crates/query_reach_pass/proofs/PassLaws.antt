-- Over the spreads of one definition, along their links.
use mathlib.Core.Path.{◌≡◌, refl, sym, ◌∙◌}
use mathlib.Core.List.{List}
use Prim.Native.Nat.{ℕ, suc, ◌+◌, ◌<◌, ◌≤◌}
use native.Mathlib.Omega.{arith}
use lib.ListN.{length, get_or}
use Rattle.paper.specs.Numbers.{most_rows}
use Rattle.paper_query.specs.Constructs.{Doc, count}
use Rattle.query_rows.proofs.Rooms.{room_enough, room_most}
use Rattle.query_spreads.specs.Spreads.{SpreadIn, FirstOf, Graph}
use Rattle.query_reach_pass.specs.Marks.{stamp, others, Noted, Room, Search, Passed}
use Rattle.query_spreads.proofs.OwnerLaws.{definition_within}
use Rattle.query_reach_pass.proofs.SearchLaws.{search_defines, search_skip, search_to, search_turn, noted_count}

-- amid the spreads of the definition of row g, at the one of row j or at the end; the pass began with `old` and `top`
pub record Passing (d : Doc) (a : ℕ) (old : List ℕ) (top : ℕ) (mark stack : List ℕ) (height g j : ℕ) : Type 0 where
  pub search : Search d a mark stack height g j
  pub at : j < count d → SpreadIn d g j
  pub counted : height + others (stamp a) mark ≡ top + others (stamp a) old

module _ {d : Doc} {target first next : List ℕ} (h : Graph d target first next) {a : ℕ} {mark stack : List ℕ} {height g : ℕ} where
  -- a search is from a definition, and passes over definitions
  pub start_below : {j : ℕ} → Search d a mark stack height g j → a < most_rows
  start_below x = omega (arith, definition_within d a x.defines, h.few)

  pub passed_below : {j : ℕ} → Search d a mark stack height g j → g < most_rows
  passed_below {j = j} x = omega (arith, definition_within d g (search_defines d a mark stack height g j x), h.few)

  -- it has its first among the firsts
  pub passed_first : {j : ℕ} → Search d a mark stack height g j → g < length first
  passed_first {j = j} x = omega (arith, definition_within d g (search_defines d a mark stack height g j x), h.linked.firsts)

  pub passing_start : {j : ℕ} → Search d a mark stack height g 0 → j ≡ get_or first g 0 → Passing d a mark height mark stack height g j
  passing_start {j = j} x e =
      let n : FirstOf (SpreadIn d g) (count d) 0 j = rw e (h.linked.eldest g (search_defines d a mark stack height g 0 x)) in
      record { search = search_skip d a mark stack height g 0 x j n; at = n.holds; counted = refl }

  module _ {old : List ℕ} {top j n : ℕ} (e : count d ≡ n) (x : Passing d a old top mark stack height g j) where
    held : n ≤ length mark
    held = omega (arith, x.search.stamped.size, room_enough (count d) h.few)

    pub passing_room : Room n (stamp a) mark stack height
    passing_room = record {
      few = held;
      most = omega (arith, x.search.stamped.size, room_most (count d));
      stacked = x.search.stacked ∙ sym x.search.stamped.size;
      room = omega (arith, x.search.room, x.search.stamped.size);
    }

    after : j < n → FirstOf (SpreadIn d g) (count d) (suc j) (get_or next j 0)
    after l = h.linked.younger g j (search_defines d a mark stack height g j x.search) (x.at (omega arith))

    pub passing_less : {k : ℕ} → j < n → k ≡ get_or next j 0 → j < k
    passing_less l q = omega (arith, (after l).from)

    pub passing_more : {f k : ℕ} {mark' stack' : List ℕ} {height' : ℕ} → j < n → f ≡ get_or target j 0 → k ≡ get_or next j 0 → Noted n (stamp a) f mark stack height mark' stack' height'
        → Passing d a old top mark' stack' height' g k
    passing_more {f = f} {k = k} {mark' = mark'} {stack' = stack'} {height' = height'} l p q w =
        let s : SpreadIn d g j = x.at (omega arith) in
        let m : n ≤ most_rows = omega (arith, h.few) in
        let r : FirstOf (SpreadIn d g) (count d) (suc j) k = rw q (after l) in
        record {
          search =
              search_skip d a mark' stack' height' g (suc j)
              (search_turn d a mark stack height g j n f x.search e m s (p ∙ h.targeted.leads j s.spread) w) k r;
          at = r.holds;
          counted = noted_count n (stamp a) f mark stack height held w ∙ x.counted;
        }

    pub passing_end : (stack₀ : List ℕ) → n ≤ j → Passed d a old stack₀ top g mark stack height
    passing_end stack₀ l = record { search = search_to d a mark stack height g j x.search (count d) (omega arith); counted = x.counted }
