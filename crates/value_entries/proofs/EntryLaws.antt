-- Row by row: what one row changes for entries and items, and what one that is not right below row h does not.
use mathlib.Core.Path.{◌≡◌, refl, sym, ap, subst, ◌∙◌}
use mathlib.Core.Bool.{Bool, true, false, ◌&&◌, ◌||◌, not, cond}
use mathlib.Core.Option.{Option, none, some}
use mathlib.Core.List.{List, [], ◌∷◌}
use Prim.Native.Nat.{ℕ, zero, suc, ◌+◌, ◌-◌, ◌≤◌, ◌<◌}
use native.Mathlib.Omega.{arith}
use lib.Dec.{eqb}
use borrow.Author.Tests.{eqb-true, eqb-false, eq-eqb, ne_eqb}
use Rattle.paper.proofs.Bools.{or_true_right as or_true}
use Rattle.paper.specs.Tokens.{same}
use Rattle.paper_table.specs.Lists.{any_of}
use Rattle.paper_table.specs.References.{Ref}
use Rattle.paper_query.specs.Constructs.{Doc, parent_of, name_of}
use Rattle.paper_values.specs.Values.{Name, At, Value, Due, entry, Tree, Out}
use Rattle.paper_values.specs.Kinds.{Kind}
use Rattle.paper_values.specs.Coercion.{heads, repeated_entry, unknown_entry, left_out}
use Rattle.paper_values.specs.Computed.{entry_of, coerce, givens}
use Rattle.paper_values.specs.RowValues.{placed, items_from, entries_from}
use Rattle.value_kinds.proofs.KindLaws.{same_sym}
use Rattle.value_entries.specs.Entered.{is_entry, names_before, entry_at, child_at, Marks}

-- one row less
pub one_less : (n c : ℕ) → c < n → n - c ≡ suc (n - (c + 1))
one_less n c l = omega arith

module _ (d : Doc) (k h : ℕ) where
  -- the names before, one row more
  names_step : (x : Name) (m : ℕ) → any_of (same x) (names_before d k h (suc m)) ≡ (is_entry d k h (h + 1 + m) && same x (name_of d (h + 1 + m))) || any_of (same x) (names_before d k h m)
  unfolding any_of names_before
  names_step x m = go (is_entry d k h (h + 1 + m))
    where
      go : (b : Bool) → any_of (same x) (cond b (name_of d (h + 1 + m) ∷ names_before d k h m) (names_before d k h m)) ≡ (b && same x (name_of d (h + 1 + m))) || any_of (same x) (names_before d k h m)
      go true = refl
      go false = refl

  -- a name that is seen stays seen
  names_later : (x : Name) (m i : ℕ) → any_of (same x) (names_before d k h m) ≡ true → any_of (same x) (names_before d k h (i + m)) ≡ true
  names_later x m zero e = let z : 0 + m ≡ m = omega arith in rw z e
  names_later x m (suc i) e =
      let z : suc i + m ≡ suc (i + m) = omega arith in
      rw z (names_step x (i + m) ∙ or_true (is_entry d k h (h + 1 + (i + m)) && same x (name_of d (h + 1 + (i + m)))) (any_of (same x) (names_before d k h (i + m))) (names_later x m i e))

  pub seen_later : (x : Name) (j c : ℕ) → j ≤ c → any_of (same x) (names_before d k h (j - (h + 1))) ≡ true → any_of (same x) (names_before d k h (c - (h + 1))) ≡ true
  seen_later x j c l e =
      let z : c - (h + 1) ≡ c - (h + 1) - (j - (h + 1)) + (j - (h + 1)) = omega arith in
      ap (λ (m : ℕ). any_of (same x) (names_before d k h m)) z ∙ names_later x (j - (h + 1)) (c - (h + 1) - (j - (h + 1))) e

  -- one row more
  pub seen_step : (x : Name) (j : ℕ) → h < j →
      any_of (same x) (names_before d k h (j + 1 - (h + 1))) ≡ (is_entry d k h j && same x (name_of d j)) || any_of (same x) (names_before d k h (j - (h + 1)))
  seen_step x j l =
      let z : j + 1 - (h + 1) ≡ suc (j - (h + 1)) = omega arith in
      let y : h + 1 + (j - (h + 1)) ≡ j = omega arith in
      ap (λ (m : ℕ). any_of (same x) (names_before d k h m)) z ∙ names_step x (j - (h + 1))
      ∙ ap (λ (c : ℕ). (is_entry d k h c && same x (name_of d c)) || any_of (same x) (names_before d k h (j - (h + 1)))) y

  pub seen_start : (x : Name) → any_of (same x) (names_before d k h (h + 1 - (h + 1))) ≡ false
  unfolding any_of names_before
  seen_start x = let z : h + 1 - (h + 1) ≡ 0 = omega arith in rw z refl

  module _ (text : ℕ) (read : ℕ → Value) where
    entries_step : (m c : ℕ) (b : Bool) → is_entry d k h c ≡ b →
        heads (entries_from text d read k h (suc m) c) ≡ cond b ((placed text d c, name_of d c) ∷ heads (entries_from text d read k h m (c + 1))) (heads (entries_from text d read k h m (c + 1)))
    unfolding entries_from
    entries_step m c b e = go (is_entry d k h c) b e
      where
        go : (a b : Bool) → a ≡ b → heads (cond a (entry (placed text d c) (name_of d c) (read (c + 1)) (entries_from text d read k h m (c + 1))) (entries_from text d read k h m (c + 1)))
            ≡ cond b ((placed text d c, name_of d c) ∷ heads (entries_from text d read k h m (c + 1))) (heads (entries_from text d read k h m (c + 1)))
        go true true q = refl
        go true false q = absurd (let z : ◌≡◌ {A = ℕ} 0 1 = cc in omega arith)
        go false true q = absurd (let z : ◌≡◌ {A = ℕ} 0 1 = cc in omega arith)
        go false false q = refl

    names_more : (c : ℕ) (b : Bool) → h < c → is_entry d k h c ≡ b → names_before d k h (c + 1 - (h + 1)) ≡ cond b (name_of d c ∷ names_before d k h (c - (h + 1))) (names_before d k h (c - (h + 1)))
    unfolding names_before
    names_more c b l e =
        let z : c + 1 - (h + 1) ≡ suc (c - (h + 1)) = omega arith in
        let y : h + 1 + (c - (h + 1)) ≡ c = omega arith in
        ap (λ (m : ℕ). names_before d k h m) z
        ∙ ap (λ (x : ℕ). cond (is_entry d k h x) (name_of d x ∷ names_before d k h (c - (h + 1))) (names_before d k h (c - (h + 1)))) y
        ∙ ap (λ (a : Bool). cond a (name_of d c ∷ names_before d k h (c - (h + 1))) (names_before d k h (c - (h + 1)))) e

    -- a row that repeats no name is passed over
    pub repeated_on : (n c : ℕ) → h < c → c < n → is_entry d k h c && any_of (same (name_of d c)) (names_before d k h (c - (h + 1))) ≡ false →
        repeated_entry (names_before d k h (c - (h + 1))) (heads (entries_from text d read k h (n - c) c)) ≡ repeated_entry (names_before d k h (c + 1 - (h + 1))) (heads (entries_from text d read k h (n - (c + 1)) (c + 1)))
    repeated_on n c l i e = go (is_entry d k h c) refl e
      where
        go : (b : Bool) → is_entry d k h c ≡ b → b && any_of (same (name_of d c)) (names_before d k h (c - (h + 1))) ≡ false →
            repeated_entry (names_before d k h (c - (h + 1))) (heads (entries_from text d read k h (n - c) c)) ≡ repeated_entry (names_before d k h (c + 1 - (h + 1))) (heads (entries_from text d read k h (n - (c + 1)) (c + 1)))
        go true q f =
            ap (λ (m : ℕ). repeated_entry (names_before d k h (c - (h + 1))) (heads (entries_from text d read k h m c))) (one_less n c i)
            ∙ ap (repeated_entry (names_before d k h (c - (h + 1)))) (entries_step (n - (c + 1)) c true q)
            ∙ ap (λ (b : Bool). cond b (some (placed text d c)) (repeated_entry (name_of d c ∷ names_before d k h (c - (h + 1))) (heads (entries_from text d read k h (n - (c + 1)) (c + 1))))) f
            ∙ ap (λ (x : List Name). repeated_entry x (heads (entries_from text d read k h (n - (c + 1)) (c + 1)))) (sym (names_more c true l q))
        go false q f =
            ap (λ (m : ℕ). repeated_entry (names_before d k h (c - (h + 1))) (heads (entries_from text d read k h m c))) (one_less n c i)
            ∙ ap (repeated_entry (names_before d k h (c - (h + 1)))) (entries_step (n - (c + 1)) c false q)
            ∙ ap (λ (x : List Name). repeated_entry x (heads (entries_from text d read k h (n - (c + 1)) (c + 1)))) (sym (names_more c false l q))

    pub repeated_here : (n c : ℕ) → c < n → is_entry d k h c && any_of (same (name_of d c)) (names_before d k h (c - (h + 1))) ≡ true →
        repeated_entry (names_before d k h (c - (h + 1))) (heads (entries_from text d read k h (n - c) c)) ≡ some (placed text d c)
    repeated_here n c i e = go (is_entry d k h c) refl e
      where
        go : (b : Bool) → is_entry d k h c ≡ b → b && any_of (same (name_of d c)) (names_before d k h (c - (h + 1))) ≡ true →
            repeated_entry (names_before d k h (c - (h + 1))) (heads (entries_from text d read k h (n - c) c)) ≡ some (placed text d c)
        go true q f =
            ap (λ (m : ℕ). repeated_entry (names_before d k h (c - (h + 1))) (heads (entries_from text d read k h m c))) (one_less n c i)
            ∙ ap (repeated_entry (names_before d k h (c - (h + 1)))) (entries_step (n - (c + 1)) c true q)
            ∙ ap (λ (b : Bool). cond b (some (placed text d c)) (repeated_entry (name_of d c ∷ names_before d k h (c - (h + 1))) (heads (entries_from text d read k h (n - (c + 1)) (c + 1))))) f
        go false q f = absurd (let z : ◌≡◌ {A = ℕ} 0 1 = cc in omega arith)

    pub repeated_start : (n : ℕ) → repeated_entry [] (heads (entries_from text d read k h (n - (h + 1)) (h + 1))) ≡ repeated_entry (names_before d k h (h + 1 - (h + 1))) (heads (entries_from text d read k h (n - (h + 1)) (h + 1)))
    unfolding names_before
    repeated_start n = let z : h + 1 - (h + 1) ≡ 0 = omega arith in rw z refl

    pub repeated_end : (seen : List Name) (n c : ℕ) → n ≤ c → repeated_entry seen (heads (entries_from text d read k h (n - c) c)) ≡ none
    unfolding entries_from
    repeated_end seen n c l = let z : n - c ≡ 0 = omega arith in ap (λ (m : ℕ). repeated_entry seen (heads (entries_from text d read k h m c))) z

    -- the same of names that nothing due has
    module _ (ds : List Due) (known : Bool) (c : ℕ) (e : any_of (λ (x : Due). same (name_of d c) x.name) ds ≡ known) where
      pub unknown_on : (n : ℕ) → c < n → is_entry d k h c && not known ≡ false → unknown_entry ds (heads (entries_from text d read k h (n - c) c)) ≡ unknown_entry ds (heads (entries_from text d read k h (n - (c + 1)) (c + 1)))
      unknown_on n i f = go (is_entry d k h c) refl known e f
        where
          go : (b : Bool) → is_entry d k h c ≡ b → (x : Bool) → any_of (λ (x : Due). same (name_of d c) x.name) ds ≡ x → b && not x ≡ false →
              unknown_entry ds (heads (entries_from text d read k h (n - c) c)) ≡ unknown_entry ds (heads (entries_from text d read k h (n - (c + 1)) (c + 1)))
          go true q true y g =
              ap (λ (m : ℕ). unknown_entry ds (heads (entries_from text d read k h m c))) (one_less n c i)
              ∙ ap (unknown_entry ds) (entries_step (n - (c + 1)) c true q)
              ∙ ap (λ (b : Bool). cond b (unknown_entry ds (heads (entries_from text d read k h (n - (c + 1)) (c + 1)))) (some (placed text d c))) y
          go true q false y g = absurd (let z : ◌≡◌ {A = ℕ} 0 1 = cc in omega arith)
          go false q x y g = ap (λ (m : ℕ). unknown_entry ds (heads (entries_from text d read k h m c))) (one_less n c i) ∙ ap (unknown_entry ds) (entries_step (n - (c + 1)) c false q)

      pub unknown_here : (n : ℕ) → c < n → is_entry d k h c && not known ≡ true → unknown_entry ds (heads (entries_from text d read k h (n - c) c)) ≡ some (placed text d c)
      unknown_here n i f = go (is_entry d k h c) refl known e f
        where
          go : (b : Bool) → is_entry d k h c ≡ b → (x : Bool) → any_of (λ (x : Due). same (name_of d c) x.name) ds ≡ x → b && not x ≡ true →
              unknown_entry ds (heads (entries_from text d read k h (n - c) c)) ≡ some (placed text d c)
          go true q true y g = absurd (let z : ◌≡◌ {A = ℕ} 0 1 = cc in omega arith)
          go true q false y g =
              ap (λ (m : ℕ). unknown_entry ds (heads (entries_from text d read k h m c))) (one_less n c i)
              ∙ ap (unknown_entry ds) (entries_step (n - (c + 1)) c true q)
              ∙ ap (λ (b : Bool). cond b (unknown_entry ds (heads (entries_from text d read k h (n - (c + 1)) (c + 1)))) (some (placed text d c))) y
          go false q x y g = absurd (let z : ◌≡◌ {A = ℕ} 0 1 = cc in omega arith)

    pub unknown_end : (ds : List Due) (n c : ℕ) → n ≤ c → unknown_entry ds (heads (entries_from text d read k h (n - c) c)) ≡ none
    unfolding entries_from
    unknown_end ds n c l = let z : n - c ≡ 0 = omega arith in ap (λ (m : ℕ). unknown_entry ds (heads (entries_from text d read k h m c))) z

  -- the entry of a name
  pub entry_on : (x : Name) (n c : ℕ) → c < n → is_entry d k h c && same (name_of d c) x ≡ false → entry_at d k h x (n - c) c ≡ entry_at d k h x (n - (c + 1)) (c + 1)
  unfolding entry_at
  entry_on x n c i e = ap (λ (m : ℕ). entry_at d k h x m c) (one_less n c i) ∙ ap (λ (b : Bool). cond b c (entry_at d k h x (n - (c + 1)) (c + 1))) e

  pub entry_here : (x : Name) (n c : ℕ) → c < n → is_entry d k h c && same (name_of d c) x ≡ true → c ≡ entry_at d k h x (n - c) c
  unfolding entry_at
  entry_here x n c i e = sym (ap (λ (m : ℕ). entry_at d k h x m c) (one_less n c i) ∙ ap (λ (b : Bool). cond b c (entry_at d k h x (n - (c + 1)) (c + 1))) e)

  pub entry_end : (x : Name) (n c : ℕ) → n ≤ c → c ≡ entry_at d k h x (n - c) c
  unfolding entry_at
  entry_end x n c l = let z : n - c ≡ 0 = omega arith in rw z refl

  pub entry_least : (x : Name) (m c : ℕ) → (c ≤ entry_at d k h x m c) × (entry_at d k h x m c ≤ c + m)
  unfolding entry_at
  entry_least x zero c = (omega arith, omega arith)
  entry_least x (suc m) c = go (is_entry d k h c && same (name_of d c) x) (entry_least x m (c + 1))
    where
      go : (b : Bool) → (c + 1 ≤ entry_at d k h x m (c + 1)) × (entry_at d k h x m (c + 1) ≤ c + 1 + m) → (c ≤ cond b c (entry_at d k h x m (c + 1))) × (cond b c (entry_at d k h x m (c + 1)) ≤ c + suc m)
      go true p = (omega arith, omega arith)
      go false p = (omega (arith, p.0), omega (arith, p.1))

-- the items
module _ (d : Doc) (h : ℕ) where
  pub child_on : (n c : ℕ) → c < n → (parent_of d c ≡ h → ⊥) → child_at d h (n - c) c ≡ child_at d h (n - (c + 1)) (c + 1)
  unfolding child_at
  child_on n c i e = ap (λ (m : ℕ). child_at d h m c) (one_less n c i) ∙ ap (λ (b : Bool). cond b c (child_at d h (n - (c + 1)) (c + 1))) (ne_eqb (parent_of d c) h e)

  pub child_here : (n c : ℕ) → c < n → parent_of d c ≡ h → c ≡ child_at d h (n - c) c
  unfolding child_at
  child_here n c i e = sym (ap (λ (m : ℕ). child_at d h m c) (one_less n c i) ∙ ap (λ (b : Bool). cond b c (child_at d h (n - (c + 1)) (c + 1))) (eq-eqb (parent_of d c) h e))

  pub child_end : (n c : ℕ) → n ≤ c → c ≡ child_at d h (n - c) c
  unfolding child_at
  child_end n c l = let z : n - c ≡ 0 = omega arith in rw z refl

  -- what no row changes that is not right below h is the same at the next that is
  pub passed : {A : Type 0} (f : ℕ → A) (m c : ℕ) → ((j : ℕ) → c ≤ j → j < c + m → (parent_of d j ≡ h → ⊥) → f j ≡ f (j + 1)) → f c ≡ f (child_at d h m c)
  unfolding child_at
  passed f zero c g = refl
  passed {A = A} f (suc m) c g = go (eqb (parent_of d c) h) refl (passed f m (c + 1) (λ j l i. g j (omega arith) (omega arith)))
    where
      go : (b : Bool) → eqb (parent_of d c) h ≡ b → f (c + 1) ≡ f (child_at d h m (c + 1)) → f c ≡ f (cond b c (child_at d h m (c + 1)))
      go true e p = refl
      go false e p = g c (omega arith) (omega arith) (eqb-false (parent_of d c) h e) ∙ p

  pub record Reached (m c r : ℕ) : Type 0 where
    pub least : c ≤ r
    pub most : r ≤ c + m
    pub below : r < c + m → parent_of d r ≡ h

  pub child_reached : (m c : ℕ) → Reached m c (child_at d h m c)
  unfolding child_at
  child_reached zero c = record { least = omega arith; most = omega arith; below = λ l. absurd (omega arith) }
  child_reached (suc m) c = go (eqb (parent_of d c) h) refl (child_reached m (c + 1))
    where
      go : (b : Bool) → eqb (parent_of d c) h ≡ b → Reached m (c + 1) (child_at d h m (c + 1)) → Reached (suc m) c (cond b c (child_at d h m (c + 1)))
      go true e p = record { least = omega arith; most = omega arith; below = λ l. eqb-true (parent_of d c) h e }
      go false e p = record { least = omega (arith, p.least); most = omega (arith, p.most); below = λ l. p.below (omega (arith, l)) }

  -- from the next item on the items are the same
  pub record Next (text : ℕ) (read : ℕ → Value) (m c r : ℕ) : Type 0 where
    pub least : c ≤ r
    pub most : r ≤ c + m
    pub below : r < c + m → parent_of d r ≡ h
    pub same_items : items_from text d read h m c ≡ items_from text d read h (c + m - r) r

  items_on : (text : ℕ) (read : ℕ → Value) (n j : ℕ) → j < n → (parent_of d j ≡ h → ⊥) → items_from text d read h (n - j) j ≡ items_from text d read h (n - (j + 1)) (j + 1)
  unfolding items_from
  items_on text read n j i e = ap (λ (m : ℕ). items_from text d read h m j) (one_less n j i) ∙ rw (ne_eqb (parent_of d j) h e) refl

  pub child_next : (text : ℕ) (read : ℕ → Value) (m c : ℕ) → Next text read m c (child_at d h m c)
  child_next text read m c =
      let p = child_reached m c in
      let z : m ≡ c + m - c = omega arith in
      record {
        least = p.least;
        most = p.most;
        below = p.below;
        same_items = ap (λ (x : ℕ). items_from text d read h x c) z ∙ passed (λ (j : ℕ). items_from text d read h (c + m - j) j) m c (λ j l i. items_on text read (c + m) j i);
      }

-- the entry of a name among those that are given
module _ (kinds : Name → Kind) (vars : Name → Option Tree) (text : ℕ) (d : Doc) (read : ℕ → Value) (k h : ℕ) (x : Name) where
  abbrev pub given_at : ℕ → Option (Ref → Out Tree)
  given_at r = cond (left_out kinds vars (read (r + 1))) none (some (λ q. coerce kinds vars (read (r + 1)) q))

  pub given_none : (m c : ℕ) → c + m ≤ entry_at d k h x m c → entry_of x (givens kinds vars (entries_from text d read k h m c)) ≡ none
  unfolding entry_at entries_from coerce
  given_none zero c l = refl
  given_none (suc m) c l = go (is_entry d k h c) (same (name_of d c) x) refl (λ i. given_none m (c + 1) i) l
    where
      go : (a b : Bool) → same (name_of d c) x ≡ b → (c + 1 + m ≤ entry_at d k h x m (c + 1) → entry_of x (givens kinds vars (entries_from text d read k h m (c + 1))) ≡ none) → c + suc m ≤ cond (a && b) c (entry_at d k h x m (c + 1)) →
          entry_of x (givens kinds vars (cond a (entry (placed text d c) (name_of d c) (read (c + 1)) (entries_from text d read k h m (c + 1))) (entries_from text d read k h m (c + 1)))) ≡ none
      go true true q ih i = absurd (omega (arith, i))
      go true false q ih i = rw (same_sym x (name_of d c), q) (ih (omega (arith, i)))
      go false b q ih i = ih (omega (arith, i))

  pub given_here : (m c : ℕ) → entry_at d k h x m c < c + m → entry_of x (givens kinds vars (entries_from text d read k h m c)) ≡ given_at (entry_at d k h x m c)
  unfolding entry_at entries_from coerce
  given_here zero c l = absurd (omega (arith, l))
  given_here (suc m) c l = go (is_entry d k h c) (same (name_of d c) x) refl (λ i. given_here m (c + 1) i) l
    where
      go : (a b : Bool) → same (name_of d c) x ≡ b → (entry_at d k h x m (c + 1) < c + 1 + m → entry_of x (givens kinds vars (entries_from text d read k h m (c + 1))) ≡ given_at (entry_at d k h x m (c + 1))) → cond (a && b) c (entry_at d k h x m (c + 1)) < c + suc m →
          entry_of x (givens kinds vars (cond a (entry (placed text d c) (name_of d c) (read (c + 1)) (entries_from text d read k h m (c + 1))) (entries_from text d read k h m (c + 1)))) ≡ given_at (cond (a && b) c (entry_at d k h x m (c + 1)))
      go true true q ih i = rw (same_sym x (name_of d c), q) refl
      go true false q ih i = rw (same_sym x (name_of d c), q) (ih (omega (arith, i)))
      go false b q ih i = ih (omega (arith, i))

pub and_off : (a b : Bool) → a ≡ false → false ≡ a && b
and_off a b e = rw e refl

pub and_on : (a b x : Bool) → a ≡ true → x ≡ b → x ≡ a && b
and_on a b x e f = rw e f

pub not_known : (a b x : Bool) → a ≡ true → x ≡ b → x ≡ true → false ≡ a && not b
not_known a b x e f g = let z : b ≡ true = sym f ∙ g in rw (e, z) refl

pub not_unknown : (a b x : Bool) → a ≡ true → x ≡ b → x ≡ false → true ≡ a && not b
not_unknown a b x e f g = let z : b ≡ false = sym f ∙ g in rw (e, z) refl

pub marks_none : (n text : ℕ) (o : Option At) → o ≡ none → Marks n text o n
marks_none n text o e = rw e refl

pub marks_some : (n text r : ℕ) (d : Doc) (o : Option At) → o ≡ some (placed text d r) → r < n → Marks n text o r
marks_some n text r d o e l = subst (λ (x : Option At). Marks n text x r) (sym e) (l, refl)
