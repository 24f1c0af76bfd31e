-- How the spreads of each definition are linked, from the last row to the first.
use mathlib.Core.Path.{◌≡◌, sym, ap, subst, ◌∙◌}
use mathlib.Core.List.{List}
use Prim.Native.Nat.{ℕ, suc, ◌-◌, ◌<◌, ◌≤◌}
use native.Mathlib.Decide.{ℕ_discrete}
use native.Mathlib.Omega.{arith}
use lib.ListN.{length, get_or, set, replicate, length-set, length-replicate, get_or-replicate}
use lib.Seq.{get_or-set_same, get_or-set_other}
use Rattle.paper.specs.Numbers.{most_rows}
use Rattle.paper_query.specs.Constructs.{Doc, count}
use Rattle.query_rows.specs.Rowed.{doc_of, room_of}
use Rattle.query_rows.proofs.RowsIn.{rows_count}
use Rattle.query_rows.proofs.Rooms.{room_enough}
use Rattle.query_spreads.specs.Owners.{Defines}
use Rattle.query_spreads.specs.Spreads.{SpreadIn, Spreader, FirstOf, Targeted, Linked, Graph}
use Rattle.query_spreads.proofs.OwnerLaws.{definition_within}
use Rattle.query_spreads.proofs.SpreaderLaws.{spread_within}

-- the first from i on, where it is i, and where i is passed over
first_here : (P : ℕ → Type 0) (n i : ℕ) → i ≤ n → (i < n → P i) → FirstOf P n i i
first_here P n i l p = record { from = omega arith; most = l; holds = p; skips = λ k h m. absurd (omega arith) }

first_later : (P : ℕ → Type 0) (n i j : ℕ) → (P i → ⊥) → FirstOf P n (suc i) j → FirstOf P n i j
first_later P n i j u x = record {
  from = omega (arith, x.from);
  most = x.most;
  holds = x.holds;
  skips = λ k h m p. go k h m p (ℕ_discrete k i);
}
  where
    go : (k : ℕ) → i ≤ k → k < j → P k → Dec (k ≡ i) → ⊥
    go k h m p (yes e) = u (subst P e p)
    go k h m p (no e) = x.skips k (omega arith) m p

-- the spreads from row j on are linked, in a list of firsts of this size
pub record Linking (d : Doc) (size : ℕ) (first next : List ℕ) (j : ℕ) : Type 0 where
  pub firsts : length first ≡ size
  pub enough : count d ≤ size
  pub nexts : length next ≡ room_of (count d)
  pub most : j ≤ count d
  pub eldest : (a : ℕ) → Defines d a → FirstOf (SpreadIn d a) (count d) j (get_or first a 0)
  pub younger : (a s : ℕ) → j ≤ s → Defines d a → SpreadIn d a s → FirstOf (SpreadIn d a) (count d) (suc s) (get_or next s 0)

pub linking_start : (d : Doc) (size : ℕ) (first next : List ℕ) (n : ℕ) → count d ≡ n → n ≤ size → first ≡ replicate size n → length next ≡ room_of (count d) → Linking d size first next n
linking_start d size first next n c m e l = record {
  firsts = ap length e ∙ length-replicate size n;
  enough = omega arith;
  nexts = l;
  most = omega arith;
  eldest = λ a h. rw (at a h) (first_here (SpreadIn d a) (count d) n (omega arith) (λ k. absurd (omega arith)));
  younger = λ a s h w x. absurd (omega (arith, spread_within d s x.spread));
}
  where
    at : (a : ℕ) → Defines d a → get_or first a 0 ≡ n
    at a h = ap (λ (x : List ℕ). get_or x a 0) e ∙ get_or-replicate size a n 0 (omega (arith, definition_within d a h))

-- a row that spreads nothing in a definition is passed over
pub linking_skip : (d : Doc) (size : ℕ) (first next : List ℕ) (j o : ℕ) → Linking d size first next j → 0 < j → Spreader d (j - 1) o → count d ≤ o → Linking d size first next (j - 1)
linking_skip d size first next j o x z s l = record {
  firsts = x.firsts;
  enough = x.enough;
  nexts = x.nexts;
  most = omega (arith, x.most);
  eldest = λ a h. first_later (SpreadIn d a) (count d) (j - 1) (get_or first a 0) (none a h) (first_from a h);
  younger = λ a i m h w. younger a i m h w (ℕ_discrete i (j - 1));
}
  where
    none : (a : ℕ) → Defines d a → SpreadIn d a (j - 1) → ⊥
    none a h w = omega (arith, s.sole a h w, definition_within d a h)

    first_from : (a : ℕ) → Defines d a → FirstOf (SpreadIn d a) (count d) (suc (j - 1)) (get_or first a 0)
    first_from a h =
        let e : j ≡ suc (j - 1) = omega arith in
        subst (λ (k : ℕ). FirstOf (SpreadIn d a) (count d) k (get_or first a 0)) e (x.eldest a h)

    younger : (a i : ℕ) → j - 1 ≤ i → Defines d a → SpreadIn d a i → Dec (i ≡ j - 1) → FirstOf (SpreadIn d a) (count d) (suc i) (get_or next i 0)
    younger a i m h w (yes e) = absurd (none a h (subst (SpreadIn d a) e w))
    younger a i m h w (no e) = x.younger a i (omega arith) h w

-- one more row in front of the spreads of its definition
pub linking_more : (d : Doc) (size : ℕ) (first next : List ℕ) (j o : ℕ) {first' next' : List ℕ} → Linking d size first next j → 0 < j → count d ≤ most_rows → Spreader d (j - 1) o → o < count d
    → first' ≡ set first o (j - 1) → next' ≡ set next (j - 1) (get_or first o 0) → Linking d size first' next' (j - 1)
linking_more d size first next j o x z m s b p q = rw (p, q) (record {
  firsts = length-set first o (j - 1) ∙ x.firsts;
  enough = x.enough;
  nexts = length-set next (j - 1) (get_or first o 0) ∙ x.nexts;
  most = omega (arith, x.most);
  eldest = λ a h. eldest a h (ℕ_discrete a o);
  younger = λ a i l h w. younger a i l h w (ℕ_discrete i (j - 1));
})
  where
    first_from : (a : ℕ) → Defines d a → FirstOf (SpreadIn d a) (count d) (suc (j - 1)) (get_or first a 0)
    first_from a h =
        let e : j ≡ suc (j - 1) = omega arith in
        subst (λ (k : ℕ). FirstOf (SpreadIn d a) (count d) k (get_or first a 0)) e (x.eldest a h)

    eldest : (a : ℕ) → Defines d a → Dec (a ≡ o) → FirstOf (SpreadIn d a) (count d) (j - 1) (get_or (set first o (j - 1)) a 0)
    eldest a h (yes e) =
        rw (e, get_or-set_same first o (j - 1) 0 (omega (arith, x.firsts, x.enough)))
        (first_here (SpreadIn d o) (count d) (j - 1) (omega (arith, x.most)) (λ _. s.stands (subst (Defines d) e h)))
    eldest a h (no e) =
        rw (get_or-set_other first o a (j - 1) 0 e) (first_later (SpreadIn d a) (count d) (j - 1) (get_or first a 0) (λ w. e (sym (s.sole a h w))) (first_from a h))

    younger : (a i : ℕ) → j - 1 ≤ i → Defines d a → SpreadIn d a i → Dec (i ≡ j - 1) → FirstOf (SpreadIn d a) (count d) (suc i) (get_or (set next (j - 1) (get_or first o 0)) i 0)
    younger a i l h w (yes e) =
        let u : o ≡ a = s.sole a h (subst (SpreadIn d a) e w) in
        rw (e, get_or-set_same next (j - 1) (get_or first o 0) 0 (omega (arith, x.nexts, x.most, room_enough (count d) m)), u) (first_from a h)
    younger a i l h w (no e) =
        rw (get_or-set_other next (j - 1) i (get_or first o 0) 0 e) (x.younger a i (omega arith) h w)

pub linking_end : {d : Doc} {size : ℕ} {first next : List ℕ} {j : ℕ} → Linking d size first next j → j ≡ 0 → Linked d first next
linking_end {d = d} {first = first} x e = record {
  firsts = omega (arith, x.firsts, x.enough);
  nexts = x.nexts;
  eldest = λ a h. subst (λ (k : ℕ). FirstOf (SpreadIn d a) (count d) k (get_or first a 0)) e (x.eldest a h);
  younger = λ a s h w. x.younger a s (omega arith) h w;
}

-- the spreads of a document, linked, as a graph
pub graph_of : (s rows : List ℕ) (n : ℕ) {target first next : List ℕ} → n ≤ most_rows → Targeted (doc_of s rows n) target → Linked (doc_of s rows n) first next
    → Graph (doc_of s rows n) target first next
graph_of s rows n m x y = record { few = omega (arith, rows_count rows n); targeted = x; linked = y }
