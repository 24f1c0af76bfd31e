-- Amid the search from a definition: what a turn leaves.
use mathlib.Core.Path.{◌≡◌, refl, sym, ap, subst, ◌∙◌}
use mathlib.Core.Logic.{◌⊎◌, inl, inr, ⊎_elim}
use mathlib.Core.Bool.{Bool, true, false, cond}
use mathlib.Core.List.{List, [], ◌∷◌}
use Prim.Native.Nat.{ℕ, zero, suc, ◌+◌, ◌<◌, ◌≤◌}
use native.Mathlib.Decide.{dec_lt, ℕ_discrete}
use native.Mathlib.Omega.{arith}
use lib.ListN.{length, get_or, set, length-set}
use lib.Seq.{get_or-set_same, get_or-set_other}
use lib.Dec.{eqb}
use borrow.Author.Tests.{eq-eqb, ne_eqb}
use Rattle.paper.specs.Numbers.{most_rows}
use Rattle.paper_query.specs.Constructs.{Doc, count, name_of, fragment_named}
use Rattle.paper_query.specs.Reaching.{Within, Spreads}
use Rattle.query_rows.proofs.Rooms.{room_enough}
use Rattle.query_spreads.specs.Owners.{Defines}
use Rattle.query_spreads.specs.Spreads.{SpreadIn, FirstOf}
use Rattle.query_reach_pass.specs.Marks.{Draws, stamp, others, Noted, Waits, PassedTo, Met, Search}
use Rattle.query_reach_pass.specs.Marks.Noted.{none, old, new}
use Rattle.query_reach_pass.proofs.DrawLaws.{draws_here, draws_on, draws_defines}

-- one less, once a row is marked
others_set : (m : ℕ) (xs : List ℕ) (f : ℕ) → f < length xs → (get_or xs f 0 ≡ m → ⊥) → suc (others m (set xs f m)) ≡ others m xs
unfolding others
others_set m [] f h n = absurd (omega arith)
others_set m (x ∷ xs) zero h n = rw (eq-eqb m m refl, ne_eqb x m n)
others_set m (x ∷ xs) (suc f) h n = go (eqb x m) (others_set m xs f (omega arith) n)
  where
    go : (b : Bool) → suc (others m (set xs f m)) ≡ others m xs → suc (cond b (others m (set xs f m)) (suc (others m (set xs f m)))) ≡ cond b (others m xs) (suc (others m xs))
    go true e = e
    go false e = ap suc e

-- a row marked has the mark, and so has each that had it; no other
marked_here : (m : ℕ) (mark : List ℕ) (f : ℕ) → f < length mark → get_or (set mark f m) f 0 ≡ m
marked_here m mark f h = get_or-set_same mark f m 0 h

marked_still : (m : ℕ) (mark : List ℕ) (f i : ℕ) → f < length mark → get_or mark i 0 ≡ m → get_or (set mark f m) i 0 ≡ m
marked_still m mark f i h e = go (ℕ_discrete i f)
  where
    go : Dec (i ≡ f) → get_or (set mark f m) i 0 ≡ m
    go (yes q) = subst (λ (k : ℕ). get_or (set mark f m) k 0 ≡ m) (sym q) (marked_here m mark f h)
    go (no q) = get_or-set_other mark f i m 0 q ∙ e

module _ (d : Doc) (a : ℕ) (mark stack : List ℕ) (top g j : ℕ) (x : Search d a mark stack top g j) where
  -- what is passed over is a definition
  pub search_defines : Defines d g
  search_defines = ⊎_elim (λ e. subst (Defines d) (sym e) x.defines) (λ e. draws_defines d a g (x.sound g e)) x.met

  -- what it spreads is reached
  search_draws : (f : ℕ) → SpreadIn d g j → Spreads d j f → Draws d a f
  search_draws f s p =
      ⊎_elim (λ e. draws_here d a j f (subst (λ (k : ℕ). Within d k j) e s.within) p) (λ e. draws_on d a g j f (x.sound g e) s.within p) x.met

  -- past rows that are no spreads of this definition, and past one whose fragment is marked
  search_on : (k : ℕ) → PassedTo d mark (stamp a) g k → Search d a mark stack top g k
  search_on k p = record {
    defines = x.defines;
    stamped = x.stamped;
    stacked = x.stacked;
    room = x.room;
    sound = x.sound;
    waiting = x.waiting;
    met = x.met;
    passed = p;
    closed = x.closed;
  }

  pub search_skip : (k : ℕ) → FirstOf (SpreadIn d g) (count d) j k → Search d a mark stack top g k
  search_skip k n = search_on k (λ s f l i p. go s f l i p (dec_lt s j))
    where
      go : (s f : ℕ) → s < k → SpreadIn d g s → Spreads d s f → Dec (s < j) → get_or mark f 0 ≡ stamp a
      go s f l i p (yes h) = x.passed s f h i p
      go s f l i p (no h) = absurd (n.skips s (omega arith) l i)

  pub search_to : (k : ℕ) → k ≤ j → Search d a mark stack top g k
  search_to k l = search_on k (λ s f h i p. x.passed s f (omega arith) i p)

  search_past : ((f : ℕ) → Spreads d j f → get_or mark f 0 ≡ stamp a) → Search d a mark stack top g (suc j)
  search_past m = search_on (suc j) (λ s f l i p. go s f l i p (ℕ_discrete s j))
    where
      go : (s f : ℕ) → s < suc j → SpreadIn d g s → Spreads d s f → Dec (s ≡ j) → get_or mark f 0 ≡ stamp a
      go s f l i p (yes e) = m f (subst (λ (y : ℕ). Spreads d y f) e p)
      go s f l i p (no e) = x.passed s f (omega arith) i p

  -- a fragment that is not marked yet is marked and put on the stack
  module _ (f : ℕ) (r : Draws d a f) (l : f < count d) (c : count d ≤ most_rows) (n : get_or mark f 0 ≡ stamp a → ⊥) where
    marked : f < length mark
    marked = omega (arith, x.stamped.size, room_enough (count d) c)

    less : suc (others (stamp a) (set mark f (stamp a))) ≡ others (stamp a) mark
    less = others_set (stamp a) mark f marked n

    pub top_within : top < length stack
    top_within = omega (arith, less, x.room, x.stacked)

    still : (i : ℕ) → get_or mark i 0 ≡ stamp a → get_or (set mark f (stamp a)) i 0 ≡ stamp a
    still i e = marked_still (stamp a) mark f i marked e

    here : get_or (set mark f (stamp a)) f 0 ≡ stamp a
    here = marked_here (stamp a) mark f marked

    search_mark : Search d a (set mark f (stamp a)) (set stack top f) (top + 1) g j
    search_mark = record {
      defines = x.defines;
      stamped = record { size = length-set mark f (stamp a) ∙ x.stamped.size; most = λ i. most i (ℕ_discrete i f) };
      stacked = length-set stack top f ∙ x.stacked;
      room = omega (arith, less, x.room);
      sound = λ i e. sound i e (ℕ_discrete i f);
      waiting = λ k w. waiting k w (dec_lt k top);
      met = ⊎_elim (λ e. inl e) (λ e. inr (still g e)) x.met;
      passed = λ s h w i p. still h (x.passed s h w i p);
      closed = λ i. ⊎_elim (λ e. closed i (inl e)) (λ e. newly i e (ℕ_discrete i f));
    }
      where
        most : (i : ℕ) → Dec (i ≡ f) → get_or (set mark f (stamp a)) i 0 ≤ stamp a
        most i (yes q) = subst (λ (k : ℕ). get_or (set mark f (stamp a)) k 0 ≤ stamp a) (sym q) (omega (arith, here))
        most i (no q) = rw (get_or-set_other mark f i (stamp a) 0 q) (x.stamped.most i)

        sound : (i : ℕ) → get_or (set mark f (stamp a)) i 0 ≡ stamp a → Dec (i ≡ f) → Draws d a i
        sound i e (yes q) = subst (Draws d a) (sym q) r
        sound i e (no q) = x.sound i (sym (get_or-set_other mark f i (stamp a) 0 q) ∙ e)

        waiting : (k : ℕ) → k < top + 1 → Dec (k < top) → get_or (set mark f (stamp a)) (get_or (set stack top f) k 0) 0 ≡ stamp a
        waiting k w (yes h) = rw (get_or-set_other stack top k f 0 (omega arith)) (still (get_or stack k 0) (x.waiting k h))
        waiting k w (no h) =
            let q : k ≡ top = omega arith in
            rw (q, get_or-set_same stack top f 0 top_within) here

        closed : (i : ℕ) → Met a mark i → Waits (set stack top f) (top + 1) i ⊎ ((i ≡ g) ⊎ PassedTo d (set mark f (stamp a)) (stamp a) i (count d))
        closed i m =
            ⊎_elim (λ w. inl (record { at = w.at; below = omega (arith, w.below); is = get_or-set_other stack top w.at f 0 (omega (arith, w.below)) ∙ w.is }))
            (⊎_elim (λ q. inr (inl q)) (λ y. inr (inr (λ s h w k p. still h (y s h w k p))))) (x.closed i m)

        newly : (i : ℕ) → get_or (set mark f (stamp a)) i 0 ≡ stamp a → Dec (i ≡ f) → Waits (set stack top f) (top + 1) i ⊎ ((i ≡ g) ⊎ PassedTo d (set mark f (stamp a)) (stamp a) i (count d))
        newly i e (yes q) = inl (record { at = top; below = omega arith; is = get_or-set_same stack top f 0 top_within ∙ sym q })
        newly i e (no q) = closed i (inr (sym (get_or-set_other mark f i (stamp a) 0 q) ∙ e))

-- a turn: what a spread leads to is noted
pub search_turn : (d : Doc) (a : ℕ) (mark stack : List ℕ) (top g j n f : ℕ) {mark' stack' : List ℕ} {top' : ℕ} → Search d a mark stack top g j → count d ≡ n → n ≤ most_rows
    → SpreadIn d g j → f ≡ fragment_named d (name_of d j) → Noted n (stamp a) f mark stack top mark' stack' top' → Search d a mark' stack' top' g (suc j)
search_turn d a mark stack top g j n f x e c s q (none l) =
    search_past d a mark stack top g j x (λ h p. absurd (omega (arith, p.known, p.named)))
search_turn d a mark stack top g j n f x e c s q (old m) =
    search_past d a mark stack top g j x (λ h p. subst (λ (i : ℕ). get_or mark i 0 ≡ stamp a) (q ∙ p.named) m)
search_turn d a mark stack top g j n f x e c s q (new l u) =
    let v : f < count d = omega arith in
    let p : Spreads d j f = record { spread = s.spread; named = sym q; known = v } in
    let r : Draws d a f = search_draws d a mark stack top g j x f s p in
    let b : count d ≤ most_rows = omega arith in
    search_past d a (set mark f (stamp a)) (set stack top f) (top + 1) g j (search_mark d a mark stack top g j x f r v b u)
    (λ h y. subst (λ (i : ℕ). get_or (set mark f (stamp a)) i 0 ≡ stamp a) (q ∙ y.named) (here d a mark stack top g j x f r v b u))

-- what waits and what is not marked is as much as before
pub noted_count : (n m f : ℕ) (mark stack : List ℕ) (top : ℕ) {mark' stack' : List ℕ} {top' : ℕ} → n ≤ length mark → Noted n m f mark stack top mark' stack' top'
    → top' + others m mark' ≡ top + others m mark
noted_count n m f mark stack top l (none h) = refl
noted_count n m f mark stack top l (old h) = refl
noted_count n m f mark stack top l (new h u) = omega (arith, others_set m mark f (omega arith) u)

-- there is room on the stack for a row that is not marked
pub noted_room : (m f : ℕ) (mark : List ℕ) (top : ℕ) → f < length mark → (get_or mark f 0 ≡ m → ⊥) → top + others m mark ≤ length mark → top < length mark
noted_room m f mark top l u r = omega (arith, others_set m mark f l u)
