-- The search from a definition: how it begins, how it goes on after a pass, what it ends with.
use mathlib.Core.Path.{◌≡◌, refl, sym, subst}
use mathlib.Core.Logic.{◌⊎◌, inl, inr, ⊎_elim}
use mathlib.Core.Bool.{Bool, true, false, cond}
use mathlib.Core.List.{List, [], ◌∷◌}
use Prim.Native.Nat.{ℕ, suc, ◌-◌, ◌<◌, ◌≤◌}
use native.Mathlib.Decide.{dec_lt}
use native.Mathlib.Omega.{arith}
use lib.ListN.{length, get_or}
use lib.Dec.{eqb}
use Rattle.paper.specs.Numbers.{most_rows}
use Rattle.paper_query.specs.Constructs.{Doc, count}
use Rattle.paper_query.specs.Reaching.{Within, Spreads}
use Rattle.query_rows.specs.Rowed.{room_of}
use Rattle.query_rows.proofs.Rooms.{room_most}
use Rattle.query_spreads.specs.Owners.{Defines}
use Rattle.query_spreads.specs.Spreads.{SpreadIn}
use Rattle.query_spreads.proofs.SpreaderLaws.{spread_within}
use Rattle.query_reach_pass.specs.Marks.{Stamped, stamp, Reached, others, Waits, PassedTo, Met, Search}
use Rattle.query_reach.proofs.DrawLaws.{draws_closed}

-- how many have not the mark
others_most : (m : ℕ) (xs : List ℕ) → others m xs ≤ length xs
unfolding others
others_most m [] = omega arith
others_most m (x ∷ xs) = go (eqb x m) (others_most m xs)
  where
    go : (b : Bool) → others m xs ≤ length xs → cond b (others m xs) (suc (others m xs)) ≤ suc (length xs)
    go true h = omega arith
    go false h = omega arith

-- how a search begins
pub search_start : (d : Doc) (a : ℕ) (mark stack : List ℕ) → Defines d a → Stamped d a mark → length stack ≡ room_of (count d) → Search d a mark stack 0 a 0
search_start d a mark stack h m l = record {
  defines = h;
  stamped = record { size = m.size; most = λ i. omega (arith, m.most i) };
  stacked = l;
  room = omega (arith, others_most (stamp a) mark, m.size);
  sound = λ f e. absurd (omega (arith, m.most f));
  waiting = λ k w. absurd (omega arith);
  met = inl refl;
  passed = λ s f w. absurd (omega arith);
  closed = λ f. ⊎_elim (λ e. inr (inl e)) (λ e. absurd (omega (arith, m.most f)));
}

module _ (d : Doc) (a : ℕ) (mark stack : List ℕ) (top g j : ℕ) (x : Search d a mark stack top g j) where
  -- no more wait than there are rows
  pub search_most : top ≤ most_rows
  search_most = omega (arith, x.room, room_most (count d))

  -- the first fragment to be passed later, if there is one: it is on top of the stack
  pub search_pop : 0 < top → j ≡ count d → Search d a mark stack (top - 1) (get_or stack (top - 1) 0) 0
  search_pop t e = record {
    defines = x.defines;
    stamped = x.stamped;
    stacked = x.stacked;
    room = omega (arith, x.room);
    sound = x.sound;
    waiting = λ k l. x.waiting k (omega arith);
    met = inr (x.waiting (top - 1) (omega arith));
    passed = λ s f l. absurd (omega arith);
    closed = λ f m. ⊎_elim (λ w. waits f w (dec_lt w.at (top - 1))) (⊎_elim (λ q. inr (inr (passed f q))) (λ p. inr (inr p))) (x.closed f m);
  }
    where
      waits : (f : ℕ) (w : Waits stack top f) → Dec (w.at < top - 1) → Waits stack (top - 1) f ⊎ ((f ≡ get_or stack (top - 1) 0) ⊎ PassedTo d mark (stamp a) f (count d))
      waits f w (yes h) = inl (record { at = w.at; below = h; is = w.is })
      waits f w (no h) =
          let q : w.at ≡ top - 1 = omega (arith, w.below) in
          inr (inl (sym (subst (λ (k : ℕ). get_or stack k 0 ≡ f) q w.is)))

      passed : (f : ℕ) → f ≡ g → PassedTo d mark (stamp a) f (count d)
      passed f q s h l i p = x.passed s h (omega (arith, e)) (subst (λ (k : ℕ). SpreadIn d k s) q i) p

  -- nothing waits: all that is reached is marked
  pub search_end : top ≡ 0 → j ≡ count d → Reached d a mark
  search_end t e = record {
    stamped = x.stamped;
    sound = x.sound;
    complete = draws_closed d a (λ f. get_or mark f 0 ≡ stamp a) (λ s f w p. all a s f (inl refl) w p) (λ h s f m w p. all h s f (inr m) w p);
  }
    where
      all : (h s f : ℕ) → Met a mark h → Within d h s → Spreads d s f → get_or mark f 0 ≡ stamp a
      all h s f m w p =
          let i : SpreadIn d h s = record { spread = p.spread; within = w } in
          let l : s < count d = spread_within d s p.spread in
          ⊎_elim (λ y. absurd (omega (arith, y.below))) (⊎_elim (λ q. x.passed s f (omega arith) (subst (λ (k : ℕ). SpreadIn d k s) q i) p) (λ y. y s f l i p)) (x.closed h m)

-- between two passes: all that was met is passed, but for what waits
pub record Searching (d : Doc) (a : ℕ) (mark stack : List ℕ) (top : ℕ) : Type 0 where
  pub last : ℕ
  pub search : Search d a mark stack top last (count d)
