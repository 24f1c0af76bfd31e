-- The token of refusal 5 is the opening mark of level 33.
use mathlib.Core.Path.{◌≡◌, refl, sym, ap, ◌∙◌, subst}
use mathlib.Core.Bool.{Bool, true, false, cond}
use mathlib.Core.List.{List, [], ◌∷◌, ◌++◌, cons≢nil}
use Prim.Native.Nat.{ℕ, zero, suc, ◌+◌, ◌-◌, ◌≤◌, ◌<◌}
use native.Mathlib.Nat.{not-suc-le-zero, le_of_suc-le-suc}
use native.Mathlib.Omega.{arith}
use lib.Dec.{T, ltb→lt}
use lib.ListN.{length, take, drop, take-append-drop}
use lib.Seq.{drop-nil, take-append-le, take-take, length-take-le}
use borrow.Author.Tests.{ltb-false}
use Rattle.paper.specs.Grammar.{Ev, tok, mark, toks}
use Rattle.paper.specs.Numbers.{most_levels}
use Rattle.paper.specs.Language.{Class, Mark, row, kind, named, wrapper, wrap, end, Part}
use Rattle.paper.specs.Sizes.{Sums, nothing_counted, opens_level, closes_level, leveled, counted, sums, through, over_levels}
use Rattle.paper.specs.Reading.{Summed}

abbrev Evs : Type 0
Evs = List (Ev Class Mark)

mark_levels : (a : Mark) (m : Sums) → (counted (mark a) m).levels ≡ m.levels
mark_levels row m = refl
mark_levels (kind k x) m = refl
mark_levels named m = refl
mark_levels wrapper m = refl
mark_levels (wrap w) m = refl
mark_levels end m = refl

-- the levels after a token are those before, and what the token does to them
through_levels : (es : Evs) (k : ℕ) (m : Sums) (c : Class) (r : List Class) → drop k (toks es) ≡ c ∷ r → (sums (through (suc k) es) m).levels ≡ leveled c (sums (through k es) m).levels
unfolding toks through sums
through_levels [] k m c r e = absurd (cons≢nil (sym e ∙ drop-nil k))
through_levels (tok d ∷ es) zero m c r e = let q : d ≡ c = cc in ap (λ (z : Class). leveled z m.levels) q
through_levels (tok d ∷ es) (suc k) m c r e = through_levels es k (counted (tok d) m) c r e
through_levels (mark a ∷ es) zero m c r e = through_levels es zero (counted (mark a) m) c r e ∙ ap (leveled c) (mark_levels a m)
through_levels (mark a ∷ es) (suc k) m c r e = through_levels es (suc k) (counted (mark a) m) c r e

-- the class at a place
at_place : (ts : List Class) (k : ℕ) → k < length ts → (c : Class) × (r : List Class) × (drop k ts ≡ c ∷ r)
at_place [] k h = absurd (not-suc-le-zero h)
at_place (t ∷ ts) zero h = (t, ts, refl)
at_place (t ∷ ts) (suc k) h = at_place ts k (le_of_suc-le-suc h)

place_in_front : (ts : List Class) (k : ℕ) (c : Class) (r l : List Class) → drop k ts ≡ c ∷ r → drop k (take (suc k) ts ++ l) ≡ c ∷ l
place_in_front [] k c r l e = absurd (cons≢nil (sym e ∙ drop-nil k))
place_in_front (t ∷ ts) zero c r l e = let q : t ≡ c = cc in ap (λ (z : Class). z ∷ l) q
place_in_front (t ∷ ts) (suc k) c r l e = place_in_front ts k c r l e

-- the sums after the token before, in the same text
summed_before : (n : Part) (ts : List Class) (j : ℕ) (m : Sums) (s : Summed n ts (suc j) m) → Summed n ts j (sums (through (suc j) s.events) nothing_counted)
summed_before n ts j m s =
    let i = s.inside in
    let h : suc j ≤ length (take (suc (suc j)) ts) = (let e = length-take-le (suc (suc j)) ts i in omega arith) in
    record {
      inside = omega arith;
      later = drop (suc j) (toks s.events);
      events = s.events;
      reads = (
        s.reads.0,
        sym (take-append-drop (suc j) (toks s.events))
            ∙ ap (λ (z : List Class). z ++ drop (suc j) (toks s.events))
            (ap (take (suc j)) s.reads.1 ∙ take-append-le (suc j) (take (suc (suc j)) ts) s.later h ∙ take-take (suc j) (suc (suc j)) ts (omega arith)),
      );
      are = refl;
    }

-- a token that takes the levels over their size
opened : (c : Class) (p : ℕ) → p ≤ most_levels → most_levels < leveled c p → (leveled c p ≡ suc most_levels) × T (opens_level c)
opened c p h o = go (opens_level c) (closes_level c) o
  where
    go : (a b : Bool) → most_levels < cond a (p + 1) (cond b (p - 1) p) → (cond a (p + 1) (cond b (p - 1) p) ≡ suc most_levels) × T a
    go true b l = (omega arith, tt)
    go false true l = let z : ⊥ = omega arith in absurd z
    go false false l = let z : ⊥ = omega arith in absurd z

-- a test of the sums that no token before fails, is not failed just before the token
pub test_before : (test : Sums → Bool) → test nothing_counted ≡ false → (n : Part) (ts : List Class) (k : ℕ) (m : Sums) (s : Summed n ts k m) → ((j : ℕ) (m' : Sums) → j < k → Summed n ts j m' → test m' ≡ false) →
    test (sums (through k s.events) nothing_counted) ≡ false
unfolding through sums
test_before test z n ts zero m s f = z
test_before test z n ts (suc j) m s f = f j (sums (through (suc j) s.events) nothing_counted) (omega arith) (summed_before n ts j m s)

module _ (n : Part) (ts : List Class) (k : ℕ) (m : Sums) (s : Summed n ts k m) (o : T (over_levels m)) where
  pub opens_33 : ((j : ℕ) (m' : Sums) → j < k → Summed n ts j m' → over_levels m' ≡ false) → (m.levels ≡ suc most_levels) × ((c : Class) × (r : List Class) × (drop k ts ≡ c ∷ r) × T (opens_level c))
  opens_33 f =
      let a = at_place ts k s.inside in
      let e : drop k (toks s.events) ≡ a.0 ∷ s.later = ap (drop k) s.reads.1 ∙ place_in_front ts k a.0 a.1 s.later a.2 in
      let q : (sums (through (suc k) s.events) nothing_counted).levels ≡ leveled a.0 (sums (through k s.events) nothing_counted).levels = through_levels s.events k nothing_counted a.0 s.later e in
      let v : m.levels ≡ leveled a.0 (sums (through k s.events) nothing_counted).levels = ap (λ (z : Sums). z.levels) (sym s.are) ∙ q in
      let p = opened a.0 (sums (through k s.events) nothing_counted).levels (ltb-false most_levels (sums (through k s.events) nothing_counted).levels (test_before over_levels refl n ts k m s f)) (subst (λ (z : ℕ). most_levels < z) v (ltb→lt most_levels m.levels o)) in
      (v ∙ p.0, (a.0, a.1, a.2, p.1))
