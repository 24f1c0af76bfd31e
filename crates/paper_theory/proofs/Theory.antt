-- The theory of the machine: for a grammar whose tables pass the tests, the machine accepts exactly what fits.
use mathlib.Core.Path.{◌≡◌, refl, sym, ap, ◌∙◌, subst}
use mathlib.Core.Bool.{Bool, true, false, ◌&&◌, not}
use mathlib.Core.List.{List, [], ◌∷◌, ◌++◌, Memᴰ, append_assoc, append-nil, nil≢cons, cons≢nil, head-eq_of_cons-eq, tail-eq_of_cons-eq}
use mathlib.Core.Option.{Option, none, some}
use mathlib.Core.Logic.{◌⊎◌, inl, inr}
use Prim.Native.Nat.{ℕ, zero, suc}
use lib.ListN.{take as takeN, drop}
use native.Mathlib.Omega.{arith}
use lib.Dec.{T}
use Rattle.paper.specs.Grammar.{Sym, nt, tm, act, Ev, tok, mark, toks, Derives, done, take, note, by}
use Rattle.paper.proofs.Machine.{Tables, Step, took, emptied, refused, spent, Answer, accepted, stopped, pick, pick_if, or_else, take_if, ◌▸◌, and_then, ◌▹◌}
use Rattle.paper.proofs.Machine.{take_at, fst, nul, choose, over, onward, enter, step, ended, went, run}
use Rattle.paper.proofs.Bools.{and_l, and_r, and_i, or_cases, or_l, or_r, T→eq}

IsSomeOf : {X : Type 0} → Option X → Type 0
IsSomeOf none = ⊥
IsSomeOf (some x) = Unit {0}

pub none≢some : {X : Type 0} {x : X} → ◌≡◌ {A = Option X} none (some x) → ⊥
unfolding IsSomeOf
none≢some q = subst IsSomeOf (sym q) tt

abbrev pub nobody : {X : Type 0} → (X → Bool) → List X → Bool
nobody p [] = true
nobody p (x ∷ xs) = not (p x) && nobody p xs

abbrev pub cond : Bool → Bool → Bool → Bool
cond true a b = a
cond false a b = b

abbrev pub at_most_one : {X : Type 0} → (X → Bool) → List X → Bool
at_most_one p [] = true
at_most_one p (x ∷ xs) = cond (p x) (nobody p xs) (at_most_one p xs)

not_out : (b : Bool) → T (not b) → T b → ⊥
not_out true s u = s
not_out false s u = u

module _ {X : Type 0} (p : X → Bool) where
  nobody_out : {x : X} {xs : List X} → T (nobody p xs) → Memᴰ x xs → T (p x) → ⊥
  nobody_out h (Memᴰ.head {x = y} {xs = ys} e) t = not_out (p y) (and_l (not (p y)) (nobody p ys) h) (subst (λ z. T (p z)) e t)
  nobody_out h (Memᴰ.tail {x = y} {xs = ys} m) t = nobody_out (and_r (not (p y)) (nobody p ys) h) m t

  pick_head : (b : Bool) (y : X) (o : Option X) → T b → pick_if b y o ≡ some y
  pick_head true y o t = refl
  pick_head false y o t = absurd t

  pick_tail : (b : Bool) (y : X) (o : Option X) → (T b → ⊥) → pick_if b y o ≡ o
  pick_tail true y o f = absurd (f tt)
  pick_tail false y o f = refl

  pub pick_one : {x : X} {xs : List X} → T (at_most_one p xs) → Memᴰ x xs → T (p x) → pick p xs ≡ some x
  pick_one {x} h (Memᴰ.head {x = y} {xs = ys} e) t = pick_head (p y) y (pick p ys) (subst (λ z. T (p z)) e t) ∙ ap some (sym e)
  pick_one {x} h (Memᴰ.tail {x = y} {xs = ys} m) t = go (p y) h (λ (h' : T (at_most_one p ys)). pick_one h' m t)
    where
      go : (b : Bool) → T (cond b (nobody p ys) (at_most_one p ys)) → (T (at_most_one p ys) → pick p ys ≡ some x) → pick_if b y (pick p ys) ≡ some x
      go true k f = absurd (nobody_out k m t)
      go false k f = f k

  pub pick_mem : (xs : List X) {x : X} → pick p xs ≡ some x → Memᴰ x xs
  pick_mem [] q = absurd (none≢some q)
  pick_mem (y ∷ ys) {x} q = go (p y) q (λ (k : pick p ys ≡ some x). pick_mem ys k)
    where
      go : (b : Bool) → pick_if b y (pick p ys) ≡ some x → (pick p ys ≡ some x → Memᴰ x ys) → Memᴰ x (y ∷ ys)
      go true k f = Memᴰ.head {x = y} (cc)
      go false k f = Memᴰ.tail (f k)

  pub pick_none : (xs : List X) → ((x : X) → Memᴰ x xs → T (p x) → ⊥) → pick p xs ≡ none
  pick_none [] f = refl
  pick_none (y ∷ ys) f = pick_tail (p y) y (pick p ys) (f y (Memᴰ.head refl)) ∙ pick_none ys (λ x m. f x (Memᴰ.tail m))

IsAccepted : {C A : Type 0} → Answer C A → Type 0
IsAccepted (accepted es) = Unit {0}
IsAccepted (stopped k) = ⊥

pub accepted≢stopped : {C A : Type 0} {es : List (Ev C A)} {k : ℕ} → accepted es ≡ stopped k → ⊥
unfolding IsAccepted
accepted≢stopped q = subst IsAccepted q tt

-- steps
module _ {N P C A : Type 0} where
  nil_▸ : (r : Step N P C A) → [] ▸ r ≡ r
  nil_▸ (took es σ) = refl
  nil_▸ (emptied es) = refl
  nil_▸ refused = refl
  nil_▸ spent = refl

  ▸-assoc : (es fs : List (Ev C A)) (r : Step N P C A) → (es ++ fs) ▸ r ≡ es ▸ (fs ▸ r)
  ▸-assoc es fs (took gs σ) = rw append_assoc
  ▸-assoc es fs (emptied gs) = rw append_assoc
  ▸-assoc es fs refused = refl
  ▸-assoc es fs spent = refl

  and_then_▸ : (es : List (Ev C A)) (s : Step N P C A) (ys : List (Sym N P A)) (r : Step N P C A) → and_then (es ▸ s) ys r ≡ es ▸ and_then s ys r
  and_then_▸ es (took fs σ) ys r = refl
  and_then_▸ es (emptied fs) ys r = ▸-assoc es fs r
  and_then_▸ es refused ys r = refl
  and_then_▸ es spent ys r = refl

  and_then_assoc : (s : Step N P C A) (xs ys : List (Sym N P A)) (r r' : Step N P C A) → and_then s (xs ++ ys) (and_then r ys r') ≡ and_then (and_then s xs r) ys r'
  and_then_assoc (took es σ) xs ys r r' = rw append_assoc
  and_then_assoc (emptied es) xs ys r r' = sym (and_then_▸ es r ys r')
  and_then_assoc refused xs ys r r' = refl
  and_then_assoc spent xs ys r r' = refl

  take_if_and_then : (b : Bool) (c : C) (xs ys : List (Sym N P A)) (r : Step N P C A) → take_if b c (xs ++ ys) ≡ and_then (take_if b c xs) ys r
  take_if_and_then true c xs ys r = refl
  take_if_and_then false c xs ys r = refl

  pub took≢emptied : {es fs : List (Ev C A)} {σ : List (Sym N P A)} → ◌≡◌ {A = Step N P C A} (took es σ) (emptied fs) → ⊥
  took≢emptied q = let z : ◌≡◌ {A = ℕ} 0 1 = cc in omega arith

  pub took≢refused : {es : List (Ev C A)} {σ : List (Sym N P A)} → ◌≡◌ {A = Step N P C A} (took es σ) refused → ⊥
  took≢refused q = let z : ◌≡◌ {A = ℕ} 0 1 = cc in omega arith

  pub took≢spent : {es : List (Ev C A)} {σ : List (Sym N P A)} → ◌≡◌ {A = Step N P C A} (took es σ) spent → ⊥
  took≢spent q = let z : ◌≡◌ {A = ℕ} 0 1 = cc in omega arith

  pub refused≢emptied : {fs : List (Ev C A)} → ◌≡◌ {A = Step N P C A} refused (emptied fs) → ⊥
  refused≢emptied q = let z : ◌≡◌ {A = ℕ} 0 1 = cc in omega arith

  pub spent≢emptied : {fs : List (Ev C A)} → ◌≡◌ {A = Step N P C A} spent (emptied fs) → ⊥
  spent≢emptied q = let z : ◌≡◌ {A = ℕ} 0 1 = cc in omega arith

  abbrev pub alive : Step N P C A → Bool
  alive (took es σ) = true
  alive (emptied es) = true
  alive refused = true
  alive spent = false

module _ {N P C A : Type 0} (G : Tables N P C A) where
  -- the law of a stack in two parts
  pub over_append : (e : N → Option C → Step N P C A) (xs ys : List (Sym N P A)) (l : Option C) → over G e (xs ++ ys) l ≡ and_then (over G e xs l) ys (over G e ys l)
  over_append e [] ys l = sym (nil_▸ (over G e ys l))
  over_append e (tm p ∷ xs) ys none = refl
  over_append e (tm p ∷ xs) ys (some c) = take_if_and_then (G.hits p c) c xs ys (over G e ys (some c))
  over_append e (act a ∷ xs) ys l = ap (λ r. (mark a ∷ []) ▸ r) (over_append e xs ys l) ∙ sym (and_then_▸ (mark a ∷ []) (over G e xs l) ys (over G e ys l))
  over_append e (nt n ∷ xs) ys l = ap (λ r. and_then (e n l) (xs ++ ys) r) (over_append e xs ys l) ∙ and_then_assoc (e n l) xs ys (over G e xs l) (over G e ys l)

  -- more depth changes nothing where there was enough
  over_mono : (e e' : N → Option C → Step N P C A) → ((n : N) (l : Option C) → T (alive (e n l)) → e' n l ≡ e n l) →
      (σ : List (Sym N P A)) (l : Option C) → T (alive (over G e σ l)) → over G e' σ l ≡ over G e σ l
  over_mono e e' f [] l h = refl
  over_mono e e' f (tm c ∷ σ) l h = refl
  over_mono e e' f (act a ∷ σ) l h = ap (λ r. (mark a ∷ []) ▸ r) (over_mono e e' f σ l (alive_▸ (over G e σ l) h))
    where
      alive_▸ : (r : Step N P C A) → T (alive ((mark a ∷ []) ▸ r)) → T (alive r)
      alive_▸ (took es ss) t = tt
      alive_▸ (emptied es) t = tt
      alive_▸ refused t = tt
      alive_▸ spent t = t
  over_mono e e' f (nt n ∷ σ) l h = go (e n l) (f n l) h (λ (k : T (alive (over G e σ l))). over_mono e e' f σ l k)
    where
      alive_▸ : (es : List (Ev C A)) (r : Step N P C A) → T (alive (es ▸ r)) → T (alive r)
      alive_▸ es (took fs ss) t = tt
      alive_▸ es (emptied fs) t = tt
      alive_▸ es refused t = tt
      alive_▸ es spent t = t

      go : (s : Step N P C A) → (T (alive s) → e' n l ≡ s) → T (alive (and_then s σ (over G e σ l))) → (T (alive (over G e σ l)) → over G e' σ l ≡ over G e σ l) →
          and_then (e' n l) σ (over G e' σ l) ≡ and_then s σ (over G e σ l)
      go (took es ss) q t k = rw (q tt)
      go (emptied es) q t k = rw (q tt, k (alive_▸ es (over G e σ l) t))
      go refused q t k = rw (q tt)
      go spent q t k = absurd t

  enter_mono : (k : ℕ) (n : N) (l : Option C) → T (alive (enter G k n l)) → enter G (suc k) n l ≡ enter G k n l
  unfolding enter
  enter_mono zero n l h = absurd h
  enter_mono (suc k) n l h = go (λ (m : N) (u : Option C) (q : T (alive (enter G k m u))). enter_mono k m u q) (choose G n l) h
    where
      go : ((m : N) (u : Option C) → T (alive (enter G k m u)) → enter G (suc k) m u ≡ enter G k m u) →
          (o : Option (List (Sym N P A))) → T (alive (onward G (enter G k) l o)) → onward G (enter G (suc k)) l o ≡ onward G (enter G k) l o
      go f none t = refl
      go f (some α) t = over_mono (enter G k) (enter G (suc k)) f α l t

  -- what may follow a nonterminal on a stack stays within a table
  abbrev pub Kept : (N → C → Bool) → List (Sym N P A) → Type 0
  Kept follow [] = Unit {0}
  Kept follow (tm c ∷ ss) = Kept follow ss
  Kept follow (act a ∷ ss) = Kept follow ss
  Kept follow (nt n ∷ ss) = ((t : C) → T (fst G ss t) → T (follow n t)) × Kept follow ss

  -- the same of a production of n, whatever may follow n
  abbrev pub Follows : (N → C → Bool) → N → List (Sym N P A) → Type 0
  Follows follow n [] = Unit {0}
  Follows follow n (tm c ∷ ss) = Follows follow n ss
  Follows follow n (act a ∷ ss) = Follows follow n ss
  Follows follow n (nt m ∷ ss) = ((t : C) → T (fst G ss t) → T (follow m t)) × ((t : C) → T (nul G ss) → T (follow n t) → T (follow m t)) × Follows follow n ss

-- what the tests of the tables show
pub record Fit {N P C A : Type 0} (G : Tables N P C A) (follow : N → C → Bool) : Type 0 where
  pub first_closed : (n : N) {α : List (Sym N P A)} (t : C) → Memᴰ α (G.prods n) → T (fst G α t) → T (G.first n t)
  pub null_closed : (n : N) {α : List (Sym N P A)} → Memᴰ α (G.prods n) → T (nul G α) → T (G.null n)
  pub one_first : (n : N) (t : C) → T (at_most_one (λ α. fst G α t) (G.prods n))
  pub one_null : (n : N) → T (at_most_one (λ α. nul G α) (G.prods n))
  pub apart : (n : N) (t : C) → T (G.null n) → T (G.first n t) → T (follow n t) → ⊥
  pub follows : (n : N) {α : List (Sym N P A)} → Memᴰ α (G.prods n) → Follows G follow n α
  pub deep : (n : N) (l : Option C) → T (alive (enter G G.depth n l))

module _ {N P C A : Type 0} {G : Tables N P C A} {follow : N → C → Bool} (F : Fit G follow) where
  fst_append : (α ss : List (Sym N P A)) (t : C) → T (fst G (α ++ ss) t) → T (fst G α t) ⊎ (T (nul G α) × T (fst G ss t))
  fst_append [] ss t h = inr (tt, h)
  fst_append (tm c ∷ α) ss t h = inl h
  fst_append (act a ∷ α) ss t h = fst_append α ss t h
  fst_append (nt n ∷ α) ss t h = go (or_cases (G.first n t) (G.null n && fst G (α ++ ss) t) h) (fst_append α ss t)
    where
      goal : Type 0
      goal = T (fst G (nt n ∷ α) t) ⊎ (T (nul G (nt n ∷ α)) × T (fst G ss t))

      deeper : T (G.null n) → T (fst G α t) ⊎ (T (nul G α) × T (fst G ss t)) → goal
      deeper z (inl k) = inl (or_r (G.first n t) (G.null n && fst G α t) (and_i (G.null n) (fst G α t) z k))
      deeper z (inr k) = inr (and_i (G.null n) (nul G α) z k.0, k.1)

      go : T (G.first n t) ⊎ T (G.null n && fst G (α ++ ss) t) → (T (fst G (α ++ ss) t) → T (fst G α t) ⊎ (T (nul G α) × T (fst G ss t))) → goal
      go (inl k) f = inl (or_l (G.first n t) (G.null n && fst G α t) k)
      go (inr k) f = deeper (and_l (G.null n) (fst G (α ++ ss) t) k) (f (and_r (G.null n) (fst G (α ++ ss) t) k))

  nul_append : (α ss : List (Sym N P A)) → T (nul G (α ++ ss)) → T (nul G α) × T (nul G ss)
  nul_append [] ss h = (tt, h)
  nul_append (tm c ∷ α) ss h = absurd h
  nul_append (act a ∷ α) ss h = nul_append α ss h
  nul_append (nt n ∷ α) ss h = let k = nul_append α ss (and_r (G.null n) (nul G (α ++ ss)) h) in (and_i (G.null n) (nul G α) (and_l (G.null n) (nul G (α ++ ss)) h) k.0, k.1)

  kept_append : (n : N) (α ss : List (Sym N P A)) → Follows G follow n α → ((t : C) → T (fst G ss t) → T (follow n t)) → Kept G follow ss → Kept G follow (α ++ ss)
  kept_append n [] ss f g k = k
  kept_append n (tm c ∷ α) ss f g k = kept_append n α ss f g k
  kept_append n (act a ∷ α) ss f g k = kept_append n α ss f g k
  kept_append n (nt m ∷ α) ss f g k = (λ t h. go t (fst_append α ss t h), kept_append n α ss f.2 g k)
    where
      go : (t : C) → T (fst G α t) ⊎ (T (nul G α) × T (fst G ss t)) → T (follow m t)
      go t (inl h) = f.0 t h
      go t (inr h) = f.1 t h.0 (g t h.1)

  -- what derives no token is null, and what derives a token first has it among its firsts
  pub derives_null : {ss : List (Sym N P A)} {es : List (Ev C A)} → Derives G.prods G.hits ss es → toks es ≡ [] → T (nul G ss)
  unfolding toks
  derives_null done q = tt
  derives_null (take h d) q = absurd (cons≢nil q)
  derives_null (note d) q = derives_null d q
  derives_null (by {n} {α} {ss} m d) q = let k = nul_append α ss (derives_null d q) in and_i (G.null n) (nul G ss) (F.null_closed n m k.0) k.1

  derives_first : {ss : List (Sym N P A)} {es : List (Ev C A)} {t : C} {ts : List C} → Derives G.prods G.hits ss es → toks es ≡ t ∷ ts → T (fst G ss t)
  unfolding toks
  derives_first done q = absurd (nil≢cons q)
  derives_first (take {p} {c} h d) q = subst (λ z. T (G.hits p z)) (head-eq_of_cons-eq q) h
  derives_first (note d) q = derives_first d q
  derives_first {t} (by {n} {α} {ss} m d) q = go (fst_append α ss t (derives_first d q))
    where
      go : T (fst G α t) ⊎ (T (nul G α) × T (fst G ss t)) → T (fst G (nt n ∷ ss) t)
      go (inl h) = or_l (G.first n t) (G.null n && fst G ss t) (F.first_closed n t m h)
      go (inr h) = or_r (G.first n t) (G.null n && fst G ss t) (and_i (G.null n) (fst G ss t) (F.null_closed n m h.0) h.1)

  choose_mem : (n : N) (l : Option C) {α : List (Sym N P A)} → choose G n l ≡ some α → Memᴰ α (G.prods n)
  unfolding choose
  choose_mem n none q = pick_mem (λ β. nul G β) (G.prods n) q
  choose_mem n (some t) {α} q = go (pick (λ β. fst G β t) (G.prods n)) refl q
    where
      go : (o : Option (List (Sym N P A))) → pick (λ β. fst G β t) (G.prods n) ≡ o → or_else o (pick (λ β. nul G β) (G.prods n)) ≡ some α → Memᴰ α (G.prods n)
      go none e k = pick_mem (λ β. nul G β) (G.prods n) k
      go (some β) e k = pick_mem (λ γ. fst G γ t) (G.prods n) (e ∙ k)

  -- the production that a derivation uses is the one chosen
  choose_right : (n : N) {α : List (Sym N P A)} (ss : List (Sym N P A)) (t : C) → Memᴰ α (G.prods n) → ((u : C) → T (fst G ss u) → T (follow n u)) →
      T (fst G (α ++ ss) t) → choose G n (some t) ≡ some α
  unfolding choose
  choose_right n {α} ss t m g h = go (fst_append α ss t h)
    where
      go : T (fst G α t) ⊎ (T (nul G α) × T (fst G ss t)) → or_else (pick (λ β. fst G β t) (G.prods n)) (pick (λ β. nul G β) (G.prods n)) ≡ some α
      go (inl k) = rw (pick_one (λ β. fst G β t) (F.one_first n t) m k)
      go (inr k) =
          rw (pick_none (λ β. fst G β t) (G.prods n) (λ β mβ hβ. F.apart n t (F.null_closed n m k.0) (F.first_closed n t mβ hβ) (g t k.1)))
          (pick_one (λ β. nul G β) (F.one_null n) m k.0)

  -- the two ways of choosing, for a proof about code that goes by cases on a token
  pub choose_first : (n : N) {α : List (Sym N P A)} (t : C) → Memᴰ α (G.prods n) → T (fst G α t) → choose G n (some t) ≡ some α
  unfolding choose
  choose_first n t m h = rw (pick_one (λ β. fst G β t) (F.one_first n t) m h)

  pub choose_null : (n : N) {α : List (Sym N P A)} (t : C) → Memᴰ α (G.prods n) → T (nul G α) → (T (G.first n t) → ⊥) → choose G n (some t) ≡ some α
  unfolding choose
  choose_null n t m h g = rw (pick_none (λ β. fst G β t) (G.prods n) (λ β mβ hβ. g (F.first_closed n t mβ hβ))) (pick_one (λ β. nul G β) (F.one_null n) m h)

  choose_end : (n : N) {α : List (Sym N P A)} → Memᴰ α (G.prods n) → T (nul G α) → choose G n none ≡ some α
  unfolding choose
  choose_end n m h = pick_one (λ β. nul G β) (F.one_null n) m h

  -- a step on a nonterminal is the step on the production chosen
  enter_by : (n : N) (l : Option C) → enter G G.depth n l ≡ onward G (enter G G.depth) l (choose G n l)
  unfolding enter
  enter_by n l = sym (enter_mono G G.depth n l (F.deep n l))

  pub step_by : (n : N) (l : Option C) {α : List (Sym N P A)} (ss : List (Sym N P A)) → choose G n l ≡ some α → step G (nt n ∷ ss) l ≡ step G (α ++ ss) l
  unfolding step
  step_by n l {α} ss q = rw (enter_by n l, q) (sym (over_append G (enter G G.depth) α ss l))

  pub step_none : (n : N) (l : Option C) (ss : List (Sym N P A)) → choose G n l ≡ none → step G (nt n ∷ ss) l ≡ refused
  unfolding step
  step_none n l ss q = rw (enter_by n l, q) refl

  -- COMPLETE, one step: if the stack derives a text that begins with t, the machine takes t, and the stack left derives the rest
  pub complete_step : {σ : List (Sym N P A)} {es : List (Ev C A)} {t : C} {ts : List C} → Derives G.prods G.hits σ es → Kept G follow σ → toks es ≡ t ∷ ts →
      (fs : List (Ev C A)) × (σ' : List (Sym N P A)) × (gs : List (Ev C A)) × (step G σ (some t) ≡ took fs σ') × Derives G.prods G.hits σ' gs × Kept G follow σ' × (es ≡ fs ++ gs) × (toks gs ≡ ts)
  unfolding toks step
  complete_step done k q = absurd (nil≢cons q)
  complete_step {t} (take {p} {c} {ss} {es} h d) k q =
      let e : c ≡ t = head-eq_of_cons-eq q in
      (tok t ∷ [], ss, es, rw (T→eq (G.hits p t) (subst (λ z. T (G.hits p z)) e h)) refl, d, k, ap (λ z. tok z ∷ es) e, tail-eq_of_cons-eq q)
  complete_step {t} (note {a} d) k q =
      let r = complete_step d k q in
      (mark a ∷ r.0, r.1, r.2, rw r.3 refl, r.4, r.5, ap (λ z. mark a ∷ z) r.6, r.7)
  complete_step {t} (by {n} {α} {ss} m d) k q =
      let r = complete_step d (kept_append n α ss (F.follows n m) k.0 k.1) q in
      (r.0, r.1, r.2, step_by n (some t) ss (choose_right n ss t m k.0 (derives_first d q)) ∙ r.3, r.4, r.5, r.6, r.7)

  pub complete_end : {σ : List (Sym N P A)} {es : List (Ev C A)} → Derives G.prods G.hits σ es → toks es ≡ [] → step G σ none ≡ emptied es
  unfolding toks step
  complete_end done q = refl
  complete_end (take h d) q = absurd (cons≢nil q)
  complete_end (note {a} d) q = rw (complete_end d q) refl
  complete_end (by {n} {α} {ss} m d) q = step_by n none ss (choose_end n m (nul_append α ss (derives_null d q)).0) ∙ complete_end d q

  toks_append : (es fs : List (Ev C A)) → toks (es ++ fs) ≡ toks es ++ toks fs
  unfolding toks
  toks_append [] fs = refl
  toks_append (tok c ∷ es) fs = ap (λ z. c ∷ z) (toks_append es fs)
  toks_append (mark a ∷ es) fs = toks_append es fs

  -- SOUND, one step: what the machine writes is derived
  abbrev pub Sound : Option C → List (Sym N P A) → Step N P C A → Type 0
  Sound l σ (took es σ') =
      ((t : C) × (l ≡ some t) × (toks es ≡ t ∷ [])) ×
      ((ss : List (Sym N P A)) (fs : List (Ev C A)) → Derives G.prods G.hits (σ' ++ ss) fs → Derives G.prods G.hits (σ ++ ss) (es ++ fs))
  Sound l σ (emptied es) = (toks es ≡ []) × ((ss : List (Sym N P A)) (fs : List (Ev C A)) → Derives G.prods G.hits ss fs → Derives G.prods G.hits (σ ++ ss) (es ++ fs))
  Sound l σ refused = Unit {0}
  Sound l σ spent = Unit {0}

  sound_mark : (l : Option C) (a : A) (σ : List (Sym N P A)) (r : Step N P C A) → Sound l σ r → Sound l (act a ∷ σ) ((mark a ∷ []) ▸ r)
  unfolding toks
  sound_mark l a σ (took es σ') h = (h.0, λ ss fs d. note (h.1 ss fs d))
  sound_mark l a σ (emptied es) h = (h.0, λ ss fs d. note (h.1 ss fs d))
  sound_mark l a σ refused h = tt
  sound_mark l a σ spent h = tt

  sound_take : (l : Option C) (p : P) (σ : List (Sym N P A)) → Sound l (tm p ∷ σ) (take_at G p σ l)
  unfolding toks
  sound_take none p σ = tt
  sound_take (some c) p σ = go (G.hits p c) refl
    where
      go : (b : Bool) → G.hits p c ≡ b → Sound (some c) (tm p ∷ σ) (take_if b c σ)
      go true q = ((c, refl, refl), λ ss fs k. take (subst T (sym q) tt) k)
      go false q = tt

  sound_then : (l : Option C) (n : N) (σ : List (Sym N P A)) (s r : Step N P C A) → Sound l (nt n ∷ []) s → Sound l σ r → Sound l (nt n ∷ σ) (and_then s σ r)
  sound_then l n σ (took es σ') r h k = (h.0, λ ss fs d. h.1 (σ ++ ss) fs (rw append_assoc at d))
  sound_then l n σ (emptied es) (took fs σ') h k =
      ((k.0.0, k.0.1, toks_append es fs ∙ rw h.0 k.0.2), λ ss gs d. rw append_assoc (h.1 (σ ++ ss) (fs ++ gs) (k.1 ss gs d)))
  sound_then l n σ (emptied es) (emptied fs) h k = (toks_append es fs ∙ rw h.0 k.0, λ ss gs d. rw append_assoc (h.1 (σ ++ ss) (fs ++ gs) (k.1 ss gs d)))
  sound_then l n σ (emptied es) refused h k = tt
  sound_then l n σ (emptied es) spent h k = tt
  sound_then l n σ refused r h k = tt
  sound_then l n σ spent r h k = tt

  over_sound : (e : N → Option C → Step N P C A) → ((n : N) (l : Option C) → Sound l (nt n ∷ []) (e n l)) → (σ : List (Sym N P A)) (l : Option C) → Sound l σ (over G e σ l)
  unfolding toks
  over_sound e f [] l = (refl, λ ss fs d. d)
  over_sound e f (tm p ∷ σ) l = sound_take l p σ
  over_sound e f (act a ∷ σ) l = sound_mark l a σ (over G e σ l) (over_sound e f σ l)
  over_sound e f (nt n ∷ σ) l = sound_then l n σ (e n l) (over G e σ l) (f n l) (over_sound e f σ l)

  sound_by : (l : Option C) (n : N) (α : List (Sym N P A)) → Memᴰ α (G.prods n) → (r : Step N P C A) → Sound l α r → Sound l (nt n ∷ []) r
  sound_by l n α m (took es σ') h = (h.0, λ ss fs d. by m (h.1 ss fs d))
  sound_by l n α m (emptied es) h = (h.0, λ ss fs d. by m (h.1 ss fs d))
  sound_by l n α m refused h = tt
  sound_by l n α m spent h = tt

  enter_sound : (k : ℕ) (n : N) (l : Option C) → Sound l (nt n ∷ []) (enter G k n l)
  unfolding enter
  enter_sound zero n l = tt
  enter_sound (suc k) n l = go (choose G n l) refl (λ (m : N) (u : Option C). enter_sound k m u)
    where
      go : (o : Option (List (Sym N P A))) → choose G n l ≡ o → ((m : N) (u : Option C) → Sound u (nt m ∷ []) (enter G k m u)) → Sound l (nt n ∷ []) (onward G (enter G k) l o)
      go none q f = tt
      go (some α) q f = sound_by l n α (choose_mem n l q) (over G (enter G k) α l) (over_sound (enter G k) f α l)

  pub step_sound : (σ : List (Sym N P A)) (l : Option C) → Sound l σ (step G σ l)
  unfolding step
  step_sound σ l = over_sound (enter G G.depth) (enter_sound G.depth) σ l

  -- the stack left by a step is kept
  abbrev KeptBy : N → List (Sym N P A) → Type 0
  KeptBy n β = (ss : List (Sym N P A)) → ((t : C) → T (fst G ss t) → T (follow n t)) → Kept G follow ss → Kept G follow (β ++ ss)

  took_inj : {es fs : List (Ev C A)} {σ σ' : List (Sym N P A)} → ◌≡◌ {A = Step N P C A} (took es σ) (took fs σ') → σ ≡ σ'
  took_inj q = cc

  took_▸ : (es : List (Ev C A)) (s : Step N P C A) {fs : List (Ev C A)} {σ : List (Sym N P A)} → es ▸ s ≡ took fs σ → (gs : List (Ev C A)) × (s ≡ took gs σ)
  took_▸ es (took gs ss) q = (gs, ap (λ z. took gs z) (took_inj q))
  took_▸ es (emptied gs) q = absurd (took≢emptied (sym q))
  took_▸ es refused q = absurd (took≢refused (sym q))
  took_▸ es spent q = absurd (took≢spent (sym q))

  kept_take : (p : P) (l : Option C) (σ ss : List (Sym N P A)) {es : List (Ev C A)} {σ' : List (Sym N P A)} → Kept G follow (σ ++ ss) → take_at G p σ l ≡ took es σ' → Kept G follow (σ' ++ ss)
  kept_take p none σ ss k q = absurd (took≢refused (sym q))
  kept_take p (some c) σ ss {es} {σ'} k q = go (G.hits p c) q
    where
      go : (b : Bool) → take_if b c σ ≡ took es σ' → Kept G follow (σ' ++ ss)
      go true e = subst (λ z. Kept G follow (z ++ ss)) (took_inj e) k
      go false e = absurd (took≢refused (sym e))

  over_kept : (e : N → Option C → Step N P C A) (l : Option C) → ((n : N) (es : List (Ev C A)) (β : List (Sym N P A)) → e n l ≡ took es β → KeptBy n β) →
      (σ ss : List (Sym N P A)) {es : List (Ev C A)} {σ' : List (Sym N P A)} → Kept G follow (σ ++ ss) → over G e σ l ≡ took es σ' → Kept G follow (σ' ++ ss)
  over_kept e l h [] ss k q = absurd (took≢emptied (sym q))
  over_kept e l h (tm p ∷ σ) ss k q = kept_take p l σ ss k q
  over_kept e l h (act a ∷ σ) ss k q = over_kept e l h σ ss k (took_▸ (mark a ∷ []) (over G e σ l) q).1
  over_kept e l h (nt n ∷ σ) ss {es} {σ'} k q = go (e n l) (h n) q (λ (fs : List (Ev C A)) (z : over G e σ l ≡ took fs σ'). over_kept e l h σ ss k.1 z)
    where
      go : (s : Step N P C A) → ((fs : List (Ev C A)) (β : List (Sym N P A)) → s ≡ took fs β → KeptBy n β) → and_then s σ (over G e σ l) ≡ took es σ' →
          ((fs : List (Ev C A)) → over G e σ l ≡ took fs σ' → Kept G follow (σ' ++ ss)) → Kept G follow (σ' ++ ss)
      go (took fs β) f z r = subst (λ x. Kept G follow (x ++ ss)) (took_inj z) (rw append_assoc (f fs β refl (σ ++ ss) k.0 k.1))
      go (emptied fs) f z r = let w = took_▸ fs (over G e σ l) z in r w.0 w.1
      go refused f z r = absurd (took≢refused (sym z))
      go spent f z r = absurd (took≢spent (sym z))

  enter_kept : (d : ℕ) (n : N) (l : Option C) (es : List (Ev C A)) (β : List (Sym N P A)) → enter G d n l ≡ took es β → KeptBy n β
  unfolding enter
  enter_kept zero n l es β q = absurd (took≢spent (sym q))
  enter_kept (suc d) n l es β q = go (choose G n l) refl q (λ (m : N) (fs : List (Ev C A)) (γ : List (Sym N P A)) (z : enter G d m l ≡ took fs γ). enter_kept d m l fs γ z)
    where
      go : (o : Option (List (Sym N P A))) → choose G n l ≡ o → onward G (enter G d) l o ≡ took es β → ((m : N) (fs : List (Ev C A)) (γ : List (Sym N P A)) → enter G d m l ≡ took fs γ → KeptBy m γ) → KeptBy n β
      go none c z f = absurd (took≢refused (sym z))
      go (some α) c z f = λ ss g k. over_kept (enter G d) l f α ss (kept_append n α ss (F.follows n (choose_mem n l c)) g k) z

  pub kept_step : (σ : List (Sym N P A)) {σ' : List (Sym N P A)} {fs : List (Ev C A)} (t : C) → Kept G follow σ → step G σ (some t) ≡ took fs σ' → Kept G follow σ'
  unfolding step
  kept_step σ t k q = simp append-nil at (over_kept (enter G G.depth) (some t) (λ n es β z. enter_kept G.depth n (some t) es β z) σ [] (simp append-nil k) q)

  -- THE WHOLE TEXT. A text fits a stack where the stack derives events whose tokens are the text
  abbrev pub Fits : List (Sym N P A) → List C → Type 0
  Fits σ ts = (es : List (Ev C A)) × Derives G.prods G.hits σ es × (toks es ≡ ts)

  answered : (fs : List (Ev C A)) {es : List (Ev C A)} (a : Answer C A) → fs ▹ a ≡ accepted es → (gs : List (Ev C A)) × (a ≡ accepted gs) × (fs ++ gs ≡ es)
  answered fs (accepted gs) q = (gs, refl, cc)
  answered fs (stopped k) q = absurd (accepted≢stopped (sym q))

  counted : (fs : List (Ev C A)) {k : ℕ} (a : Answer C A) → fs ▹ a ≡ stopped k → (j : ℕ) × (a ≡ stopped j) × (k ≡ suc j)
  counted fs (accepted gs) q = absurd (accepted≢stopped q)
  counted fs (stopped j) q = (j, refl, cc)

  -- what a step that took t says of what comes after
  pub took_derives : (l : Option C) (σ σ' : List (Sym N P A)) (fs gs : List (Ev C A)) → Sound l σ (took fs σ') → Derives G.prods G.hits σ' gs → Derives G.prods G.hits σ (fs ++ gs)
  took_derives l σ σ' fs gs h d = simp append-nil at (h.1 [] gs (simp append-nil d))

  pub emptied_derives : (l : Option C) (σ : List (Sym N P A)) (fs : List (Ev C A)) → Sound l σ (emptied fs) → Derives G.prods G.hits σ fs
  emptied_derives l σ fs h = simp append-nil at (h.1 [] [] done)

  pub took_toks : (t : C) (σ σ' : List (Sym N P A)) (fs gs : List (Ev C A)) → Sound (some t) σ (took fs σ') → toks (fs ++ gs) ≡ t ∷ toks gs
  took_toks t σ σ' fs gs h =
      let p : h.0.0 ≡ t = cc h.0.1 in
      toks_append fs gs ∙ rw (h.0.2, p) refl

  -- EXACT, from the machine to the grammar
  pub run_sound : (ts : List C) (σ : List (Sym N P A)) {es : List (Ev C A)} → run G σ ts ≡ accepted es → Derives G.prods G.hits σ es × (toks es ≡ ts)
  unfolding run toks
  run_sound [] σ {es} q = go (step G σ none) (step_sound σ none) q
    where
      go : (s : Step N P C A) → Sound none σ s → ended G s ≡ accepted es → Derives G.prods G.hits σ es × (toks es ≡ [])
      go (took fs σ') h e = absurd (accepted≢stopped (sym e))
      go (emptied fs) h e =
          let p : fs ≡ es = cc in
          subst (λ z. Derives G.prods G.hits σ z × (toks z ≡ [])) p (simp append-nil at (h.1 [] [] done), h.0)
      go refused h e = absurd (accepted≢stopped (sym e))
      go spent h e = absurd (accepted≢stopped (sym e))
  run_sound (t ∷ ts) σ {es} q = go (step G σ (some t)) (step_sound σ (some t)) q (λ (σ' : List (Sym N P A)) (gs : List (Ev C A)) (e : run G σ' ts ≡ accepted gs). run_sound ts σ' e)
    where
      go : (s : Step N P C A) → Sound (some t) σ s → went G (λ σ'. run G σ' ts) s ≡ accepted es →
          ((σ' : List (Sym N P A)) (gs : List (Ev C A)) → run G σ' ts ≡ accepted gs → Derives G.prods G.hits σ' gs × (toks gs ≡ ts)) → Derives G.prods G.hits σ es × (toks es ≡ t ∷ ts)
      go (took fs σ') h e f =
          let a = answered fs (run G σ' ts) e in
          let b = f σ' a.0 a.1 in
          subst (λ z. Derives G.prods G.hits σ z × (toks z ≡ t ∷ ts)) a.2 (took_derives (some t) σ σ' fs a.0 h b.0, took_toks t σ σ' fs a.0 h ∙ ap (λ z. t ∷ z) b.1)
      go (emptied fs) h e f = absurd (accepted≢stopped (sym e))
      go refused h e f = absurd (accepted≢stopped (sym e))
      go spent h e f = absurd (accepted≢stopped (sym e))

  -- EXACT, from the grammar to the machine
  pub run_complete : (ts : List C) {σ : List (Sym N P A)} {es : List (Ev C A)} → Derives G.prods G.hits σ es → Kept G follow σ → toks es ≡ ts → run G σ ts ≡ accepted es
  unfolding run
  run_complete [] d k q = rw (complete_end d q) refl
  run_complete (t ∷ ts) d k q = let r = complete_step d k q in rw (r.3, run_complete ts r.4 r.5 r.7) (ap accepted (sym r.6))

  -- UNIQUE
  pub unique : {σ : List (Sym N P A)} {es fs : List (Ev C A)} → Kept G follow σ → Derives G.prods G.hits σ es → Derives G.prods G.hits σ fs → toks es ≡ toks fs → es ≡ fs
  unique {σ} {es} {fs} k d d' q = let a = run_complete (toks fs) d k q in let b = run_complete (toks fs) d' k refl in cc

  derives_append : {ss : List (Sym N P A)} {es : List (Ev C A)} {ss' : List (Sym N P A)} {fs : List (Ev C A)} →
      Derives G.prods G.hits ss es → Derives G.prods G.hits ss' fs → Derives G.prods G.hits (ss ++ ss') (es ++ fs)
  derives_append done d' = d'
  derives_append (take h d) d' = take h (derives_append d d')
  derives_append (note d) d' = note (derives_append d d')
  derives_append {ss'} {fs} (by {n} {α} {ss} {es} m d) d' = by m (rw append_assoc at (derives_append d d'))

  module _ (hit : (p : P) → (c : C) × T (G.hits p c)) (words : (n : N) → (es : List (Ev C A)) × Derives G.prods G.hits (nt n ∷ []) es) where
    pub word : (σ : List (Sym N P A)) → (es : List (Ev C A)) × Derives G.prods G.hits σ es
    word [] = ([], done)
    word (tm p ∷ σ) = (tok (hit p).0 ∷ (word σ).0, take (hit p).1 (word σ).1)
    word (act a ∷ σ) = (mark a ∷ (word σ).0, note (word σ).1)
    word (nt n ∷ σ) = ((words n).0 ++ (word σ).0, derives_append (words n).1 (word σ).1)

    -- STOPPED: the tokens before are a prefix of a text that fits, and no text that fits begins with those and the one refused; at the end: they are none
    abbrev pub Refused : List (Sym N P A) → List C → List C → Type 0
    Refused σ p [] = Fits σ p → ⊥
    Refused σ p (t ∷ r) = (q : List C) → Fits σ (p ++ (t ∷ q)) → ⊥

    abbrev pub Stops : List (Sym N P A) → List C → ℕ → Type 0
    Stops σ ts k = ((q : List C) × Fits σ (takeN k ts ++ q)) × Refused σ (takeN k ts) (drop k ts)

    some_fit : (σ : List (Sym N P A)) → (q : List C) × Fits σ q
    some_fit σ = (toks (word σ).0, ((word σ).0, (word σ).1, refl))

    stops_end : (σ : List (Sym N P A)) (k : ℕ) → 0 ≡ k → ((fs : List (Ev C A)) → step G σ none ≡ emptied fs → ⊥) → Stops σ [] k
    stops_end σ k e nope = subst (Stops σ []) e (some_fit σ, λ f. nope f.0 (complete_end f.1 f.2))

    stops_here : (σ : List (Sym N P A)) (t : C) (ts : List C) (k : ℕ) → Kept G follow σ → 0 ≡ k → ((fs : List (Ev C A)) (σ' : List (Sym N P A)) → step G σ (some t) ≡ took fs σ' → ⊥) →
        Stops σ (t ∷ ts) k
    stops_here σ t ts k h e nope = subst (Stops σ (t ∷ ts)) e (some_fit σ, λ q f. let r = complete_step f.1 h f.2 in nope r.0 r.1 r.3)

    -- after a step that took t, the text of the old stack is t and a text of the new one
    stops_later : (σ σ' : List (Sym N P A)) (fs : List (Ev C A)) (t : C) (ts : List C) (j : ℕ) → Kept G follow σ → step G σ (some t) ≡ took fs σ' → Stops σ' ts j → Stops σ (t ∷ ts) (suc j)
    stops_later σ σ' fs t ts j h q s = ((s.0.0, (fs ++ s.0.1.0, took_derives (some t) σ σ' fs s.0.1.0 snd s.0.1.1, took_toks t σ σ' fs s.0.1.0 snd ∙ ap (λ z. t ∷ z) s.0.1.2)), go (drop j ts) s.1)
      where
        snd : Sound (some t) σ (took fs σ')
        snd = rw q at (step_sound σ (some t))

        back : (ps : List C) → Fits σ (t ∷ ps) → Fits σ' ps
        back ps f =
            let r = complete_step f.1 h f.2 in
            let e : r.1 ≡ σ' = cc r.3 in
            (r.2, subst (λ z. Derives G.prods G.hits z r.2) e r.4, r.7)

        go : (r : List C) → Refused σ' (takeN j ts) r → Refused σ (t ∷ takeN j ts) r
        go [] nope = λ f. nope (back (takeN j ts) f)
        go (u ∷ r) nope = λ q f. nope q (back (takeN j ts ++ (u ∷ q)) f)

    pub run_stopped : (ts : List C) (σ : List (Sym N P A)) (k : ℕ) → Kept G follow σ → run G σ ts ≡ stopped k → Stops σ ts k
    unfolding run
    run_stopped [] σ k h q = go (step G σ none) refl q
      where
        go : (s : Step N P C A) → step G σ none ≡ s → ended G s ≡ stopped k → Stops σ [] k
        go (took fs σ') e z = stops_end σ k (cc) (λ gs e'. took≢emptied (sym e ∙ e'))
        go (emptied fs) e z = absurd (accepted≢stopped z)
        go refused e z = stops_end σ k (cc) (λ gs e'. refused≢emptied (sym e ∙ e'))
        go spent e z = stops_end σ k (cc) (λ gs e'. spent≢emptied (sym e ∙ e'))
    run_stopped (t ∷ ts) σ k h q = go (step G σ (some t)) refl q (λ (σ' : List (Sym N P A)) (j : ℕ) (k' : Kept G follow σ') (e : run G σ' ts ≡ stopped j). run_stopped ts σ' j k' e)
      where
        go : (s : Step N P C A) → step G σ (some t) ≡ s → went G (λ σ'. run G σ' ts) s ≡ stopped k →
            ((σ' : List (Sym N P A)) (j : ℕ) → Kept G follow σ' → run G σ' ts ≡ stopped j → Stops σ' ts j) → Stops σ (t ∷ ts) k
        go (took fs σ') e z f =
            let c = counted fs (run G σ' ts) z in
            subst (Stops σ (t ∷ ts)) (sym c.2) (stops_later σ σ' fs t ts c.0 h e (f σ' c.0 (kept_step σ t h e) c.1))
        go (emptied fs) e z f = stops_here σ t ts k h (cc) (λ gs σ' e'. took≢emptied (sym e' ∙ e))
        go refused e z f = stops_here σ t ts k h (cc) (λ gs σ' e'. took≢refused (sym e' ∙ e))
        go spent e z f = stops_here σ t ts k h (cc) (λ gs σ' e'. took≢spent (sym e' ∙ e))
