-- One test of a grammar's tables, computed, and the lemma that turns it into what the theory asks.
use mathlib.Core.Path.{◌≡◌, refl, sym, subst}
use mathlib.Core.Bool.{Bool, true, false, ◌&&◌, not}
use mathlib.Core.List.{List, [], ◌∷◌, Memᴰ}
use mathlib.Core.Option.{Option, none, some}
use Prim.Native.Nat.{ℕ, zero, suc}
use lib.Dec.{T}
use lib.ListN.{get_elem?}
use Rattle.paper.specs.Grammar.{Sym, nt, tm, act, Ev, Derives}
use mathlib.Core.Logic.{◌⊎◌, inl, inr}
use Rattle.paper.proofs.Machine.{Tables, Step, Answer, accepted, stopped, fst, nul, pick, choose, over, onward, enter, run}
use Rattle.paper.proofs.Bools.{and_l, and_r}
use Rattle.paper_theory.proofs.Theory.{none≢some, at_most_one, alive, Follows, Fit, run_sound}

abbrev pub all : {X : Type 0} → (X → Bool) → List X → Bool
all p [] = true
all p (x ∷ xs) = p x && all p xs

abbrev pub implies : Bool → Bool → Bool
implies true b = b
implies false b = true

pub implies_out : (a b : Bool) → T (implies a b) → T a → T b
implies_out true b h t = h
implies_out false b h t = absurd t

pub all_mem : {X : Type 0} (p : X → Bool) {x : X} {xs : List X} → T (all p xs) → Memᴰ x xs → T (p x)
all_mem p h (Memᴰ.head {x = y} {xs = ys} e) = subst (λ z. T (p z)) (sym e) (and_l (p y) (all p ys) h)
all_mem p h (Memᴰ.tail {x = y} {xs = ys} m) = all_mem p (and_r (p y) (all p ys) h) m

pub all_at : {X : Type 0} (p : X → Bool) (xs : List X) (i : ℕ) {x : X} → T (all p xs) → get_elem? xs i ≡ some x → T (p x)
all_at p [] i h e = absurd (none≢some e)
all_at p (y ∷ ys) zero {x} h e = let q : y ≡ x = cc in subst (λ z. T (p z)) q (and_l (p y) (all p ys) h)
all_at p (y ∷ ys) (suc i) h e = all_at p ys i (and_r (p y) (all p ys) h) e

abbrev pub ok_t : {C A : Type 0} → Answer C A → Bool
ok_t (accepted es) = true
ok_t (stopped k) = false

module _ {N P C A : Type 0} (G : Tables N P C A) (follow : N → C → Bool) (all_n : List N) (all_c : List C) where
  -- what may follow a part m that stands before ss in a production of n
  abbrev pub after_t : N → List (Sym N P A) → C → Bool
  after_t m ss t = implies (fst G ss t) (follow m t)

  abbrev pub last_t : N → N → List (Sym N P A) → C → Bool
  last_t n m ss t = implies (nul G ss) (implies (follow n t) (follow m t))

  abbrev pub follows_t : N → List (Sym N P A) → Bool
  follows_t n [] = true
  follows_t n (tm c ∷ ss) = follows_t n ss
  follows_t n (act a ∷ ss) = follows_t n ss
  follows_t n (nt m ∷ ss) = all (after_t m ss) all_c && (all (last_t n m ss) all_c && follows_t n ss)

  -- the tests, of each part: FIRST and NULL are closed under the productions; a token can begin one production at most, and one at most can be
  -- nothing; a part that can be nothing is followed by nothing that can begin it; FOLLOW is closed; no left recursion
  pub record Tested (sample : N → List C) : Type 0 where
    pub first_closed : T (all (λ n. all (λ α. all (λ t. implies (fst G α t) (G.first n t)) all_c) (G.prods n)) all_n)
    pub null_closed : T (all (λ n. all (λ α. implies (nul G α) (G.null n)) (G.prods n)) all_n)
    pub one_first : T (all (λ n. all (λ t. at_most_one (λ α. fst G α t) (G.prods n)) all_c) all_n)
    pub one_null : T (all (λ n. at_most_one (λ α. nul G α) (G.prods n)) all_n)
    pub apart : T (all (λ n. all (λ t. implies (G.null n) (implies (G.first n t) (not (follow n t)))) all_c) all_n)
    pub follows : T (all (λ n. all (λ α. follows_t n α) (G.prods n)) all_n)
    pub deep_end : T (all (λ n. alive (enter G G.depth n none)) all_n)
    pub deep : T (all (λ n. all (λ t. alive (enter G G.depth n (some t))) all_c) all_n)
    pub words : T (all (λ n. ok_t (run G (nt n ∷ []) (sample n))) all_n)

  -- a token that nothing hits: it need not be tested
  pub record Far (c : C) : Type 0 where
    pub hits_not : (p : P) → G.hits p c ≡ false
    pub first_not : (n : N) → G.first n c ≡ false
    pub follow_not : (n : N) → follow n c ≡ false

  fst_far : {c : C} → Far c → (ss : List (Sym N P A)) → fst G ss c ≡ false
  fst_far f [] = refl
  fst_far f (tm p ∷ ss) = f.hits_not p
  fst_far f (act a ∷ ss) = fst_far f ss
  fst_far f (nt n ∷ ss) = rw (f.first_not n, fst_far f ss) (and_false (G.null n))
    where
      and_false : (b : Bool) → b && false ≡ false
      and_false true = refl
      and_false false = refl

  pick_far : {c : C} → Far c → (rs : List (List (Sym N P A))) → pick (λ α. fst G α c) rs ≡ none
  pick_far f [] = refl
  pick_far f (α ∷ rs) = rw (fst_far f α) (pick_far f rs)

  choose_far : (n : N) {c : C} → Far c → choose G n (some c) ≡ choose G n none
  unfolding choose
  choose_far n f = rw (pick_far f (G.prods n)) refl

  over_far : {c : C} → Far c → (e : N → Option C → Step N P C A) → ((n : N) → e n (some c) ≡ e n none) → (σ : List (Sym N P A)) → over G e σ (some c) ≡ over G e σ none
  over_far f e h [] = refl
  over_far f e h (tm p ∷ σ) = rw (f.hits_not p) refl
  over_far f e h (act a ∷ σ) = rw (over_far f e h σ) refl
  over_far f e h (nt n ∷ σ) = rw (h n, over_far f e h σ) refl

  enter_far : (k : ℕ) (n : N) {c : C} → Far c → enter G k n (some c) ≡ enter G k n none
  unfolding enter
  enter_far zero n f = refl
  enter_far (suc k) n {c} f = rw (choose_far n f) (go (choose G n none) (λ m. enter_far k m f))
    where
      go : (o : Option (List (Sym N P A))) → ((m : N) → enter G k m (some c) ≡ enter G k m none) → onward G (enter G k) (some c) o ≡ onward G (enter G k) none o
      go none h = refl
      go (some α) h = over_far f (enter G k) h α

  module _ (num_n : N → ℕ) (at_n : (n : N) → get_elem? all_n (num_n n) ≡ some n) (num_c : C → ℕ) (near : (c : C) → (get_elem? all_c (num_c c) ≡ some c) ⊎ Far c) where
    at_part : (p : N → Bool) → T (all p all_n) → (n : N) → T (p n)
    at_part p h n = all_at p all_n (num_n n) h (at_n n)

    -- of a token that is listed, by the test; of another, for that reason
    at_class : (p : C → Bool) → T (all p all_c) → ((c : C) → Far c → T (p c)) → (c : C) → T (p c)
    at_class p h far c = go (near c)
      where
        go : (get_elem? all_c (num_c c) ≡ some c) ⊎ Far c → T (p c)
        go (inl e) = all_at p all_c (num_c c) h e
        go (inr f) = far c f

    not_both : (a b c : Bool) → T (implies a (implies b (not c))) → T a → T b → T c → ⊥
    not_both true true true h p q r = h
    not_both true true false h p q r = r
    not_both true false c h p q r = q
    not_both false b c h p q r = p

    implies_true : (a : Bool) → T (implies a true)
    implies_true true = tt
    implies_true false = tt

    one_far : {c : C} → Far c → (rs : List (List (Sym N P A))) → T (at_most_one (λ α. fst G α c) rs)
    one_far f [] = tt
    one_far f (α ∷ rs) = rw (fst_far f α) (one_far f rs)

    follows_t_out : (n : N) (ss : List (Sym N P A)) → T (follows_t n ss) → Follows G follow n ss
    follows_t_out n [] h = tt
    follows_t_out n (tm c ∷ ss) h = follows_t_out n ss h
    follows_t_out n (act a ∷ ss) h = follows_t_out n ss h
    follows_t_out n (nt m ∷ ss) h =
        let h₁ = and_l (all (after_t m ss) all_c) (all (last_t n m ss) all_c && follows_t n ss) h in
        let h₂ = and_r (all (after_t m ss) all_c) (all (last_t n m ss) all_c && follows_t n ss) h in (
          λ t k. implies_out (fst G ss t) (follow m t) (at_class (after_t m ss) h₁ (λ c f. rw (fst_far f ss) tt) t) k,
          λ t k j. implies_out (follow n t) (follow m t) (implies_out (nul G ss) (implies (follow n t) (follow m t)) (at_class (last_t n m ss) (and_l (all (last_t n m ss) all_c) (follows_t n ss) h₂) (λ c f. rw (f.follow_not n) (implies_true (nul G ss))) t) k) j,
          follows_t_out n ss (and_r (all (last_t n m ss) all_c) (follows_t n ss) h₂),
        )

    pub fit : {sample : N → List C} → Tested sample → Fit G follow
    fit h = record {
      first_closed = λ n {α} t m k. implies_out (fst G α t) (G.first n t) (at_class (λ u. implies (fst G α u) (G.first n u))
          (all_mem (λ β. all (λ u. implies (fst G β u) (G.first n u)) all_c) (at_part (λ n. all (λ α. all (λ t. implies (fst G α t) (G.first n t)) all_c) (G.prods n)) h.first_closed n) m) (λ c f. rw (fst_far f α) tt) t) k;
      null_closed = λ n {α} m k. implies_out (nul G α) (G.null n) (all_mem (λ β. implies (nul G β) (G.null n)) (at_part (λ n. all (λ α. implies (nul G α) (G.null n)) (G.prods n)) h.null_closed n) m) k;
      one_first = λ n t. at_class (λ u. at_most_one (λ α. fst G α u) (G.prods n)) (at_part (λ n. all (λ t. at_most_one (λ α. fst G α t) (G.prods n)) all_c) h.one_first n) (λ c f. one_far f (G.prods n)) t;
      one_null = λ n. at_part (λ n. at_most_one (λ α. nul G α) (G.prods n)) h.one_null n;
      apart = λ n t. not_both (G.null n) (G.first n t) (follow n t) (at_class (λ u. implies (G.null n) (implies (G.first n u) (not (follow n u)))) (at_part (λ n. all (λ t. implies (G.null n) (implies (G.first n t) (not (follow n t)))) all_c) h.apart n) (λ c f. rw (f.first_not n) (implies_true (G.null n))) t);
      follows = λ n {α} m. follows_t_out n α (all_mem (λ β. follows_t n β) (at_part (λ n. all (λ α. follows_t n α) (G.prods n)) h.follows n) m);
      deep = λ n l. deep_at n l;
    }
      where
        deep_end_at : (n : N) → T (alive (enter G G.depth n none))
        deep_end_at n = at_part (λ n. alive (enter G G.depth n none)) h.deep_end n

        deep_at : (n : N) (l : Option C) → T (alive (enter G G.depth n l))
        deep_at n none = deep_end_at n
        deep_at n (some t) = at_class (λ u. alive (enter G G.depth n (some u))) (at_part (λ n. all (λ t. alive (enter G G.depth n (some t))) all_c) h.deep n) (λ c f. rw (enter_far G.depth n f) (deep_end_at n)) t

    pub words_of : {sample : N → List C} → Fit G follow → Tested sample → (n : N) → (es : List (Ev C A)) × Derives G.prods G.hits (nt n ∷ []) es
    words_of {sample} F h n = go (run G (nt n ∷ []) (sample n)) refl (at_part (λ n. ok_t (run G (nt n ∷ []) (sample n))) h.words n)
      where
        go : (a : Answer C A) → run G (nt n ∷ []) (sample n) ≡ a → T (ok_t a) → (es : List (Ev C A)) × Derives G.prods G.hits (nt n ∷ []) es
        go (accepted es) q t = (es, (run_sound F (sample n) (nt n ∷ []) q).0)
        go (stopped k) q t = absurd t
