-- What holds of the rows while a text is read, event by event. Their starts do not fall; each that is closed has a byte and ends with the last token or before;
-- and it ends within its parent, or its parent is open still. A row that ends now ends with the last token, and so behind all that it holds.
use mathlib.Core.Path.{◌≡◌, refl, sym, ap, ◌∙◌, subst}
use mathlib.Core.Bool.{Bool, true, false, not}
use mathlib.Core.List.{List, [], ◌∷◌, ◌++◌}
use mathlib.Core.Logic.{◌⊎◌, inl, inr}
use Prim.Native.Nat.{ℕ, zero, suc, ◌<◌, ◌≤◌}
use native.Mathlib.Decide.{ℕ_discrete, dec_lt}
use native.Mathlib.Omega.{arith}
use lib.Dec.{T}
use lib.ListN.{length, get_or, length-append, get_or-append}
use lib.Seq.{get_or-append_seam}
use Rattle.paper.specs.Numbers.{no_parent}
use Rattle.paper.specs.Rows.{Row, change, top, pop, begun, stopping}
use Rattle.paper_query.specs.Constructs.{no_row}
use Rattle.paper_theory.proofs.RowCells.{change_length}

abbrev pub at : List Row → ℕ → Row
at rs i = get_or rs i no_row

-- A ROW CHANGED: in what is seen of it, itself, and the others
seen_same : (v : Row → ℕ) (g : Row → Row) → ((r : Row) → v (g r) ≡ v r) → (k i : ℕ) (rs : List Row) → v (at (change g k rs) i) ≡ v (at rs i)
seen_same v g q k i [] = refl
seen_same v g q zero zero (r ∷ rs) = q r
seen_same v g q zero (suc i) (r ∷ rs) = refl
seen_same v g q (suc k) zero (r ∷ rs) = refl
seen_same v g q (suc k) (suc i) (r ∷ rs) = seen_same v g q k i rs

change_at : (g : Row → Row) (k : ℕ) (rs : List Row) → k < length rs → at (change g k rs) k ≡ g (at rs k)
change_at g k [] h = absurd (omega arith)
change_at g zero (r ∷ rs) h = refl
change_at g (suc k) (r ∷ rs) h = change_at g k rs (omega arith)

change_off : (g : Row → Row) (k i : ℕ) (rs : List Row) → (i ≡ k → ⊥) → at (change g k rs) i ≡ at rs i
change_off g k i [] n = refl
change_off g zero zero (r ∷ rs) n = absurd (n refl)
change_off g zero (suc i) (r ∷ rs) n = refl
change_off g (suc k) zero (r ∷ rs) n = refl
change_off g (suc k) (suc i) (r ∷ rs) n = change_off g k i rs (λ e. n (ap suc e))

-- OPEN ROWS: each is there, and its parent is the next
abbrev Open : ℕ → List ℕ → Type 0
Open i [] = ⊥
Open i (o ∷ os) = (i ≡ o) ⊎ Open i os

abbrev Chain : List Row → List ℕ → Type 0
Chain rs [] = Unit {0}
Chain rs (o ∷ os) = (o < length rs) × ((at rs o).parent ≡ top os) × Chain rs os

chain_change : (g : Row → Row) → ((r : Row) → (g r).parent ≡ r.parent) → (k : ℕ) (rs : List Row) (os : List ℕ) → Chain rs os → Chain (change g k rs) os
chain_change g q k rs [] c = tt
chain_change g q k rs (o ∷ os) c = (omega (arith, change_length g k rs, c.0), seen_same (λ r. r.parent) g q k o rs ∙ c.1, chain_change g q k rs os c.2)

chain_append : (rs : List Row) (r : Row) (os : List ℕ) → Chain rs os → Chain (rs ++ (r ∷ [])) os
chain_append rs r [] c = tt
chain_append rs r (o ∷ os) c = (omega (arith, length-append rs (r ∷ []), c.0), ap (λ (x : Row). x.parent) (get_or-append rs (r ∷ []) no_row o c.0) ∙ c.1, chain_append rs r os c.2)

-- a start: before the last token's end or, where no token came since, at the next token
abbrev Before : Bool → ℕ → ℕ → ℕ → Type 0
Before f next stop a = (a < stop) ⊎ (T f × (a ≡ next))

-- row i with the parent p and the end e
abbrev Within : List Row → List ℕ → ℕ → ℕ → ℕ → Type 0
Within rs os i p e = (p ≡ no_parent) ⊎ ((p < i) × (Open p os ⊎ (e ≤ (at rs p).end)))

-- d rows are open, f: with no token since the last began; the next token begins at `next`, the last one ended at `stop`
pub record Held (f : Bool) (next d stop : ℕ) (rs : List Row) (os : List ℕ) : Type 0 where
  pub level : length os ≡ d
  pub chain : Chain rs os
  pub ordered : (i j : ℕ) → i < j → j < length rs → (at rs i).start ≤ (at rs j).start
  pub before : (i : ℕ) → i < length rs → Before f next stop (at rs i).start
  pub low : (i : ℕ) → i < length rs → (at rs i).end ≤ stop
  pub shut : (i : ℕ) → i < length rs → Open i os ⊎ ((at rs i).start < (at rs i).end)
  pub within : (i : ℕ) → i < length rs → Within rs os i (at rs i).parent (at rs i).end

pub held_blank : (next : ℕ) → Held false next 0 0 [] []
held_blank next =
    record {
      level = refl;
      chain = tt;
      ordered = λ i j a b. absurd (omega arith);
      before = λ i b. absurd (omega arith);
      low = λ i b. absurd (omega arith);
      shut = λ i b. absurd (omega arith);
      within = λ i b. absurd (omega arith);
    }

-- a token from a to e is taken
pub held_token : (f : Bool) (a e next d stop : ℕ) (rs : List Row) (os : List ℕ) → stop ≤ a → a < e → Held f a d stop rs os → Held false next d e rs os
held_token f a e next d stop rs os l m h = record {
  level = h.level;
  chain = h.chain;
  ordered = h.ordered;
  before = λ i b. go (at rs i).start (h.before i b);
  low = λ i b. let u = h.low i b in omega arith;
  shut = h.shut;
  within = h.within;
}
  where
    go : (x : ℕ) → Before f a stop x → Before false next e x
    go x (inl u) = inl (omega arith)
    go x (inr u) = inl (let q = u.1 in omega arith)

-- a row changes in what is none of its ends and not its parent
pub held_same : (f : Bool) (next d stop : ℕ) (rs : List Row) (os : List ℕ) (g : Row → Row) → ((r : Row) → (g r).start ≡ r.start) → ((r : Row) → (g r).end ≡ r.end) → ((r : Row) → (g r).parent ≡ r.parent) → (k : ℕ)
    → Held f next d stop rs os → Held f next d stop (change g k rs) os
held_same f next d stop rs os g gs ge gp k h = record {
  level = h.level;
  chain = chain_change g gp k rs os h.chain;
  ordered = λ i j a b. rw (starts i, starts j) (h.ordered i j a (there j b));
  before = λ i b. rw (starts i) (h.before i (there i b));
  low = λ i b. rw (stops i) (h.low i (there i b));
  shut = λ i b. rw (starts i, stops i) (h.shut i (there i b));
  within = λ i b. rw (parents i, stops i, stops (at rs i).parent) (h.within i (there i b));
}
  where
    there : (i : ℕ) → i < length (change g k rs) → i < length rs
    there i b = omega (arith, change_length g k rs)

    starts : (i : ℕ) → (at (change g k rs) i).start ≡ (at rs i).start
    starts i = seen_same (λ r. r.start) g gs k i rs

    stops : (i : ℕ) → (at (change g k rs) i).end ≡ (at rs i).end
    stops i = seen_same (λ r. r.end) g ge k i rs

    parents : (i : ℕ) → (at (change g k rs) i).parent ≡ (at rs i).parent
    parents i = seen_same (λ r. r.parent) g gp k i rs

-- A ROW BEGINS at the next token
module _ (f : Bool) (next d stop : ℕ) (rs : List Row) (os : List ℕ) (l : stop ≤ next) (h : Held f next d stop rs os) where
  abbrev new : Row
  new = begun next (top os)

  abbrev more : List Row
  more = rs ++ (new ∷ [])

  old_at : (i : ℕ) → i < length rs → at more i ≡ at rs i
  old_at i b = get_or-append rs (new ∷ []) no_row i b

  -- what holds of the rows so far and of the new one
  each : (Q : ℕ → Row → Type 0) → ((i : ℕ) → i < length rs → Q i (at rs i)) → Q (length rs) new → (i : ℕ) → i < length more → Q i (at more i)
  each Q o n i b = go (dec_lt i (length rs))
    where
      go : Dec (i < length rs) → Q i (at more i)
      go (yes u) = subst (Q i) (sym (old_at i u)) (o i u)
      go (no u) =
          let e : length rs ≡ i = omega (arith, length-append rs (new ∷ [])) in
          subst (λ (j : ℕ). Q j (at more j)) e (subst (Q (length rs)) (sym (get_or-append_seam rs new [] no_row)) n)

  before_next : (a : ℕ) → Before f next stop a → a ≤ next
  before_next a (inl u) = omega arith
  before_next a (inr u) = let q = u.1 in omega arith

  before_more : (a : ℕ) → Before f next stop a → Before true next stop a
  before_more a (inl u) = inl u
  before_more a (inr u) = inr (tt, u.1)

  shut_more : (i : ℕ) (r : Row) → Open i os ⊎ (r.start < r.end) → Open i (length rs ∷ os) ⊎ (r.start < r.end)
  shut_more i r (inl u) = inl (inr u)
  shut_more i r (inr u) = inr u

  within_more : (i p e : ℕ) → i < length rs → Within rs os i p e → Within more (length rs ∷ os) i p e
  within_more i p e b (inl u) = inl u
  within_more i p e b (inr (u, inl w)) = inr (u, inl (inr w))
  within_more i p e b (inr (u, inr w)) = inr (u, inr (rw (old_at p (omega arith)) w))

  within_new : (os : List ℕ) → Chain rs os → Within more (length rs ∷ os) (length rs) (top os) 0
  within_new [] c = inl refl
  within_new (o ∷ os) c = inr (c.0, inl (inr (inl refl)))

  pub held_row : Held true next (suc d) stop more (length rs ∷ os)
  held_row = record {
    level = ap suc h.level;
    chain = (omega (arith, length-append rs (new ∷ [])), ap (λ (x : Row). x.parent) (get_or-append_seam rs new [] no_row), chain_append rs new os h.chain);
    ordered = λ i j a b. each (λ j r. (i : ℕ) → i < j → (at more i).start ≤ r.start)
        (λ j u i a. rw (old_at i (omega arith)) (h.ordered i j a u)) (λ i a. rw (old_at i a) (before_next (at rs i).start (h.before i a))) j b i a;
    before = each (λ i r. Before true next stop r.start) (λ i b. before_more (at rs i).start (h.before i b)) (inr (tt, refl));
    low = each (λ i r. r.end ≤ stop) h.low (omega arith);
    shut = each (λ i r. Open i (length rs ∷ os) ⊎ (r.start < r.end)) (λ i b. shut_more i (at rs i) (h.shut i b)) (inl (inl refl));
    within = each (λ i r. Within more (length rs ∷ os) i r.parent r.end) (λ i b. within_more i (at rs i).parent (at rs i).end b (h.within i b)) (within_new os h.chain);
  }

-- THE INNERMOST ROW ENDS with the last token
module _ (next d stop : ℕ) (rs : List Row) (o : ℕ) (os : List ℕ) (h : Held false next (suc d) stop rs (o ∷ os)) where
  abbrev then' : List Row
  then' = change (stopping stop) o rs

  there : (i : ℕ) → i < length then' → i < length rs
  there i b = omega (arith, change_length (stopping stop) o rs)

  starts : (i : ℕ) → (at then' i).start ≡ (at rs i).start
  starts i = seen_same (λ r. r.start) (stopping stop) (λ r. refl) o i rs

  parents : (i : ℕ) → (at then' i).parent ≡ (at rs i).parent
  parents i = seen_same (λ r. r.parent) (stopping stop) (λ r. refl) o i rs

  stops_now : (at then' o).end ≡ stop
  stops_now = ap (λ (r : Row). r.end) (change_at (stopping stop) o rs h.chain.0)

  stops_else : (i : ℕ) → (i ≡ o → ⊥) → (at then' i).end ≡ (at rs i).end
  stops_else i n = ap (λ (r : Row). r.end) (change_off (stopping stop) o i rs n)

  low_then : (i : ℕ) → i < length rs → (at then' i).end ≤ stop
  low_then i b = go (ℕ_discrete i o)
    where
      go : Dec (i ≡ o) → (at then' i).end ≤ stop
      go (yes e) = subst (λ (j : ℕ). (at then' j).end ≤ stop) (sym e) (omega (arith, stops_now))
      go (no n) = rw (stops_else i n) (h.low i b)

  still_open : (i : ℕ) → (i ≡ o → ⊥) → Open i (o ∷ os) → Open i os
  still_open i n (inl e) = absurd (n e)
  still_open i n (inr u) = u

  shut_then : (i : ℕ) → i < length rs → Open i os ⊎ ((at then' i).start < (at then' i).end)
  shut_then i b = go (ℕ_discrete i o)
    where
      now : Before false next stop (at rs o).start → (at then' o).start < (at then' o).end
      now (inl u) = omega (arith, starts o, stops_now)
      now (inr u) = absurd u.0

      else' : (i ≡ o → ⊥) → Open i (o ∷ os) ⊎ ((at rs i).start < (at rs i).end) → Open i os ⊎ ((at then' i).start < (at then' i).end)
      else' n (inl u) = inl (still_open i n u)
      else' n (inr u) = inr (omega (arith, starts i, stops_else i n))

      go : Dec (i ≡ o) → Open i os ⊎ ((at then' i).start < (at then' i).end)
      go (yes e) = inr (subst (λ (j : ℕ). (at then' j).start < (at then' j).end) (sym e) (now (h.before o h.chain.0)))
      go (no n) = else' n (h.shut i b)

  -- the parent of the row that ends is the next open one
  within_now : (os : List ℕ) (p e : ℕ) → p ≡ top os → Within rs (o ∷ os) o p e → Within then' os o p stop
  within_now os p e q (inl u) = inl u
  within_now [] p e q (inr u) = inl q
  within_now (x ∷ os) p e q (inr u) = inr (u.0, inl (inl q))

  within_else : (i p e : ℕ) → e ≤ stop → Within rs (o ∷ os) i p e → Within then' os i p e
  within_else i p e l (inl u) = inl u
  within_else i p e l (inr (u, w)) = inr (u, go (ℕ_discrete p o) w)
    where
      go : Dec (p ≡ o) → Open p (o ∷ os) ⊎ (e ≤ (at rs p).end) → Open p os ⊎ (e ≤ (at then' p).end)
      go (yes q) x = inr (subst (λ (j : ℕ). e ≤ (at then' j).end) (sym q) (omega (arith, stops_now)))
      go (no n) (inl x) = inl (still_open p n x)
      go (no n) (inr x) = inr (rw (stops_else p n) x)

  within_then : (i : ℕ) → i < length rs → Within then' os i (at rs i).parent (at then' i).end
  within_then i b = go (ℕ_discrete i o)
    where
      go : Dec (i ≡ o) → Within then' os i (at rs i).parent (at then' i).end
      go (yes e) =
          subst (λ (j : ℕ). Within then' os j (at rs j).parent (at then' j).end) (sym e)
          (rw stops_now (within_now os (at rs o).parent (at rs o).end h.chain.1 (h.within o h.chain.0)))
      go (no n) = rw (stops_else i n) (within_else i (at rs i).parent (at rs i).end (h.low i b) (h.within i b))

  held_pop : Held false next d stop then' os
  held_pop = record {
    level = let e = h.level in omega arith;
    chain = chain_change (stopping stop) (λ r. refl) o rs os h.chain.2;
    ordered = λ i j a b. rw (starts i, starts j) (h.ordered i j a (there j b));
    before = λ i b. rw (starts i) (h.before i (there i b));
    low = λ i b. low_then i (there i b);
    shut = λ i b. shut_then i (there i b);
    within = λ i b. rw (parents i) (within_then i (there i b));
  }

pub held_end : (f : Bool) (next d stop : ℕ) (rs : List Row) (os : List ℕ) → T (not f) → Held f next (suc d) stop rs os → Held false next d stop (change (stopping stop) (top os) rs) (pop os)
held_end true next d stop rs os n h = absurd n
held_end false next d stop rs [] n h = let e = h.level in let z : ⊥ = omega arith in absurd z
held_end false next d stop rs (o ∷ os) n h = held_pop next d stop rs o os h
