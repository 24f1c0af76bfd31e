-- Where each spread leads, spread by spread along the rows of that kind.
use mathlib.Core.Path.{◌≡◌, sym, subst, ◌∙◌}
use mathlib.Core.Bool.{false, not}
use mathlib.Core.List.{List}
use Prim.Native.Nat.{ℕ, suc, ◌<◌, ◌≤◌}
use native.Mathlib.Decide.{dec_lt, ℕ_discrete}
use native.Mathlib.Omega.{arith}
use lib.ListN.{length, get_or, set, length-set}
use lib.Seq.{get_or-set_same, get_or-set_other}
use lib.Dec.{T, leb, ltb}
use borrow.Author.Tests.{eq-eqb, ne_eqb, lt-ltb, le-ltb, le-leb, lt-leb}
use Rattle.paper.specs.Numbers.{most_rows, kind_spread}
use Rattle.paper_table.proofs.ListsLaws.{any_first, first_at_most}
use Rattle.paper_query.specs.Constructs.{Doc, count, no_row, is, kind_of, name_of, fragment_called, fragment_named, has_fragment}
use Rattle.paper_query.specs.Rule7Spread.{spread_of_none}
use Rattle.query_rows.specs.Rowed.{room_of}
use Rattle.query_rows.proofs.Rooms.{room_enough}
use Rattle.query_links.specs.Links.{next_with}
use Rattle.query_links.proofs.Nexts.{next_least, next_most, next_passes, next_skips}
use Rattle.query_spreads.specs.Spreads.{IsSpread, Targeted, FirstOf}
use Rattle.query_spreads.proofs.SpreaderLaws.{spread_is, spread_within}

pub fragment_most : (d : Doc) (n : List ℕ) → fragment_named d n ≤ count d
unfolding fragment_named
fragment_most d n = first_at_most (fragment_called d n) d.rows

-- the next of the kind is the next spread
spread_next : (d : Doc) (i : ℕ) → i ≤ count d → FirstOf (IsSpread d) (count d) i (next_with (is kind_spread) d.rows i)
spread_next d i l = record {
  from = next_least (is kind_spread) d.rows i;
  most = next_most (is kind_spread) d.rows i l;
  holds = λ h. subst T (sym (next_passes (is kind_spread) d.rows no_row i h)) tt;
  skips = λ k h m x. subst T (next_skips (is kind_spread) d.rows no_row i k h m) x;
}

-- the spreads before row i are led, and row i is the next
pub record Targeting (d : Doc) (target : List ℕ) (i : ℕ) : Type 0 where
  pub size : length target ≡ room_of (count d)
  pub at : i < count d → IsSpread d i
  pub leads : (s : ℕ) → s < i → IsSpread d s → get_or target s 0 ≡ fragment_named d (name_of d s)

pub targeting_start : (d : Doc) (target : List ℕ) {i : ℕ} → length target ≡ room_of (count d) → i ≡ next_with (is kind_spread) d.rows 0 → Targeting d target i
targeting_start d target l e =
    let n = spread_next d 0 (omega arith) in
    rw e (record { size = l; at = n.holds; leads = λ s h x. absurd (n.skips s (omega arith) h x) })

pub targeting_more : (d : Doc) (target : List ℕ) (i : ℕ) {f k : ℕ} → Targeting d target i → i < count d → count d ≤ most_rows → f ≡ fragment_named d (name_of d i)
    → k ≡ next_with (is kind_spread) d.rows (suc i) → Targeting d (set target i f) k
targeting_more d target i {f = f} x l m p e =
    let n = spread_next d (suc i) l in
    rw e (record {
      size = length-set target i f ∙ x.size;
      at = n.holds;
      leads = λ s h w. go s h w (ℕ_discrete s i) (dec_lt s i);
    })
  where
    go : (s : ℕ) → s < next_with (is kind_spread) d.rows (suc i) → IsSpread d s → Dec (s ≡ i) → Dec (s < i) → get_or (set target i f) s 0 ≡ fragment_named d (name_of d s)
    go s h w (yes q) v = rw (q, get_or-set_same target i f 0 (omega (arith, x.size, room_enough (count d) m))) p
    go s h w (no q) (yes v) = get_or-set_other target i s f 0 q ∙ x.leads s v w
    go s h w (no q) (no v) = absurd ((spread_next d (suc i) l).skips s (omega arith) h w)

pub targeting_end : {d : Doc} {target : List ℕ} {i : ℕ} → Targeting d target i → count d ≤ i → Targeted d target
targeting_end {d = d} x l = record { size = x.size; leads = λ s h. x.leads s (omega (arith, spread_within d s h)) h }

-- a spread of no fragment leads past the rows
pub lost_not : (d : Doc) (i : ℕ) → (kind_of d i ≡ kind_spread → ⊥) → false ≡ spread_of_none d i
unfolding spread_of_none
lost_not d i n = rw (ne_eqb (kind_of d i) kind_spread n)

pub lost_leads : (d : Doc) (target : List ℕ) (i n : ℕ) → Targeted d target → count d ≡ n → kind_of d i ≡ kind_spread → leb n (get_or target i 0) ≡ spread_of_none d i
unfolding spread_of_none has_fragment fragment_named
lost_leads d target i n x c e =
    rw (x.leads i (spread_is d i e), eq-eqb (kind_of d i) kind_spread e, any_first (fragment_called d (name_of d i)) d.rows, ← c) (turned (fragment_named d (name_of d i)) (count d))
  where
    turned : (f n : ℕ) → leb n f ≡ not (ltb f n)
    turned f n = go (dec_lt f n)
      where
        go : Dec (f < n) → leb n f ≡ not (ltb f n)
        go (yes h) = rw (lt-leb n f h, lt-ltb f n h)
        go (no h) = rw (le-leb n f (omega arith), le-ltb f n (omega arith))
