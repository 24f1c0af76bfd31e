-- The draft's grammar and the left-factored one derive the same.
use mathlib.Core.Path.{◌≡◌, refl, sym, ap, ◌∙◌, subst}
use mathlib.Core.Logic.{◌⊎◌, inl, inr}
use mathlib.Core.List.{List, [], ◌∷◌, ◌++◌, Memᴰ, append_assoc, nil≢cons, head-eq_of_cons-eq, tail-eq_of_cons-eq}
use mathlib.Core.Bool.{Bool}
use lib.Dec.{T}
use Rattle.paper.specs.Grammar.{Sym, nt, tm, act, Ev, tok, mark, Derives, done, take, note, by}

module _ {N P C A : Type 0} (hits : P → C → Bool) where
  -- if each production of p is admissible in q, all that p derives q derives
  pub simulate : (p q : N → List (List (Sym N P A))) →
      ((n : N) (α σ : List (Sym N P A)) (es : List (Ev C A)) → Memᴰ α (p n) → Derives q hits (α ++ σ) es → Derives q hits (nt n ∷ σ) es) →
      {ss : List (Sym N P A)} {es : List (Ev C A)} → Derives p hits ss es → Derives q hits ss es
  simulate p q h done = done
  simulate p q h (take t d) = take t (simulate p q h d)
  simulate p q h (note d) = note (simulate p q h d)
  simulate p q h (by {n} {α} {ss} {es} m d) = h n α ss es m (simulate p q h d)

module _ {N P C A : Type 0} (p : N → List (List (Sym N P A))) (hits : P → C → Bool) where
  pub join : {ss : List (Sym N P A)} {es : List (Ev C A)} {ss' : List (Sym N P A)} {fs : List (Ev C A)} → Derives p hits ss es → Derives p hits ss' fs → Derives p hits (ss ++ ss') (es ++ fs)
  join done d' = d'
  join (take t d) d' = take t (join d d')
  join (note d) d' = note (join d d')
  join (by {n} {α} {ss} {es} m d) d' = by m (rw append_assoc at (join d d'))

  abbrev pub Split : List (Sym N P A) → List (Sym N P A) → List (Ev C A) → Type 0
  Split xs ys es = (us : List (Ev C A)) × (vs : List (Ev C A)) × (es ≡ us ++ vs) × Derives p hits xs us × Derives p hits ys vs

  split_done : (xs ys : List (Sym N P A)) → [] ≡ xs ++ ys → Split xs ys []
  split_done [] ys e = ([], [], refl, done, subst (λ z. Derives p hits z []) e done)
  split_done (x ∷ xs) ys e = absurd (nil≢cons e)

  split_take : (x₀ : P) (c : C) → T (hits x₀ c) → (ss : List (Sym N P A)) (es : List (Ev C A)) (ys : List (Sym N P A)) → Derives p hits ss es → ((xs : List (Sym N P A)) → ss ≡ xs ++ ys → Split xs ys es) →
      (xs : List (Sym N P A)) → tm x₀ ∷ ss ≡ xs ++ ys → Split xs ys (tok c ∷ es)
  split_take x₀ c t ss es ys d f [] e = ([], tok c ∷ es, refl, done, subst (λ z. Derives p hits z (tok c ∷ es)) e (take t d))
  split_take x₀ c t ss es ys d f (x ∷ xs) e =
      let r = f xs (tail-eq_of_cons-eq e) in
      (tok c ∷ r.0, r.1, ap (λ z. tok c ∷ z) r.2, subst (λ z. Derives p hits (z ∷ xs) (tok c ∷ r.0)) (head-eq_of_cons-eq e) (take t r.3), r.4)

  split_note : (a : A) (ss : List (Sym N P A)) (es : List (Ev C A)) (ys : List (Sym N P A)) → Derives p hits ss es → ((xs : List (Sym N P A)) → ss ≡ xs ++ ys → Split xs ys es) →
      (xs : List (Sym N P A)) → act a ∷ ss ≡ xs ++ ys → Split xs ys (mark a ∷ es)
  split_note a ss es ys d f [] e = ([], mark a ∷ es, refl, done, subst (λ z. Derives p hits z (mark a ∷ es)) e (note d))
  split_note a ss es ys d f (x ∷ xs) e =
      let r = f xs (tail-eq_of_cons-eq e) in
      (mark a ∷ r.0, r.1, ap (λ z. mark a ∷ z) r.2, subst (λ z. Derives p hits (z ∷ xs) (mark a ∷ r.0)) (head-eq_of_cons-eq e) (note r.3), r.4)

  split_by : (n : N) (α ss : List (Sym N P A)) (es : List (Ev C A)) (ys : List (Sym N P A)) → Memᴰ α (p n) → Derives p hits (α ++ ss) es → ((xs : List (Sym N P A)) → α ++ ss ≡ xs ++ ys → Split xs ys es) →
      (xs : List (Sym N P A)) → nt n ∷ ss ≡ xs ++ ys → Split xs ys es
  split_by n α ss es ys m d f [] e = ([], es, refl, done, subst (λ z. Derives p hits z es) e (by m d))
  split_by n α ss es ys m d f (x ∷ xs) e =
      let r = f (α ++ xs) (ap (λ z. α ++ z) (tail-eq_of_cons-eq e) ∙ sym (append_assoc α xs ys)) in
      (r.0, r.1, r.2, subst (λ z. Derives p hits (z ∷ xs) r.0) (head-eq_of_cons-eq e) (by m r.3), r.4)

  splits : {zs : List (Sym N P A)} {es : List (Ev C A)} → Derives p hits zs es → (ys xs : List (Sym N P A)) → zs ≡ xs ++ ys → Split xs ys es
  splits done ys xs e = split_done xs ys e
  splits (take {p = x₀} {c} {ss} {es} t d) ys xs e = split_take x₀ c t ss es ys d (λ xs' e'. splits d ys xs' e') xs e
  splits (note {a} {ss} {es} d) ys xs e = split_note a ss es ys d (λ xs' e'. splits d ys xs' e') xs e
  splits (by {n} {α} {ss} {es} m d) ys xs e = split_by n α ss es ys m d (λ xs' e'. splits d ys xs' e') xs e

  pub split : (xs ys : List (Sym N P A)) {es : List (Ev C A)} → Derives p hits (xs ++ ys) es → Split xs ys es
  split xs ys d = splits d ys xs refl

  -- the symbols behind xs replaced by others that derive as much
  pub replace : (xs ys ys' : List (Sym N P A)) {es : List (Ev C A)} → ((vs : List (Ev C A)) → Derives p hits ys vs → Derives p hits ys' vs) → Derives p hits (xs ++ ys) es → Derives p hits (xs ++ ys') es
  replace xs ys ys' {es} f d = let r = split xs ys d in subst (λ z. Derives p hits (xs ++ ys') z) (sym r.2) (join r.3 (f r.1 r.4))

  -- what stands behind a derivation, read backwards
  pub by_out : {n : N} {σ : List (Sym N P A)} {es : List (Ev C A)} → Derives p hits (nt n ∷ σ) es → (α : List (Sym N P A)) × Memᴰ α (p n) × Derives p hits (α ++ σ) es
  by_out (by {α} m d) = (α, m, d)

  pub first_of : {n : N} {α : List (Sym N P A)} {rs : List (List (Sym N P A))} → p n ≡ α ∷ rs → Memᴰ α (p n)
  first_of {α} e = rw e (Memᴰ.head refl)

  pub second_of : {n : N} {α β : List (Sym N P A)} {rs : List (List (Sym N P A))} → p n ≡ β ∷ α ∷ rs → Memᴰ α (p n)
  second_of {α} e = rw e (Memᴰ.tail (Memᴰ.head refl))

  pub third_of : {n : N} {α β γ : List (Sym N P A)} {rs : List (List (Sym N P A))} → p n ≡ β ∷ γ ∷ α ∷ rs → Memᴰ α (p n)
  third_of {α} e = rw e (Memᴰ.tail (Memᴰ.tail (Memᴰ.head refl)))

  -- the productions of a part that has one, two or three
  pub by_one : {n : N} {α : List (Sym N P A)} {σ : List (Sym N P A)} {es : List (Ev C A)} → p n ≡ α ∷ [] → Derives p hits (nt n ∷ σ) es → Derives p hits (α ++ σ) es
  by_one {n} {α} {σ} {es} e d = let r = by_out d in subst (λ z. Derives p hits (z ++ σ) es) (one (subst (λ z. Memᴰ r.0 z) e r.1)) r.2
    where
      one : {β : List (Sym N P A)} → Memᴰ β (α ∷ []) → β ≡ α
      one (Memᴰ.head q) = q
      one (Memᴰ.tail m) = elim m [ ]

  pub by_two : {n : N} {α β : List (Sym N P A)} {σ : List (Sym N P A)} {es : List (Ev C A)} → p n ≡ α ∷ β ∷ [] → Derives p hits (nt n ∷ σ) es → Derives p hits (α ++ σ) es ⊎ Derives p hits (β ++ σ) es
  by_two {n} {α} {β} {σ} {es} e d = let r = by_out d in two r.0 (subst (λ z. Memᴰ r.0 z) e r.1) r.2
    where
      two : (γ : List (Sym N P A)) → Memᴰ γ (α ∷ β ∷ []) → Derives p hits (γ ++ σ) es → Derives p hits (α ++ σ) es ⊎ Derives p hits (β ++ σ) es
      two γ (Memᴰ.head q) d = inl (subst (λ z. Derives p hits (z ++ σ) es) q d)
      two γ (Memᴰ.tail (Memᴰ.head q)) d = inr (subst (λ z. Derives p hits (z ++ σ) es) q d)
      two γ (Memᴰ.tail (Memᴰ.tail m)) d = elim m [ ]

  pub by_three : {n : N} {α β γ : List (Sym N P A)} {σ : List (Sym N P A)} {es : List (Ev C A)} → p n ≡ α ∷ β ∷ γ ∷ [] → Derives p hits (nt n ∷ σ) es →
      Derives p hits (α ++ σ) es ⊎ (Derives p hits (β ++ σ) es ⊎ Derives p hits (γ ++ σ) es)
  by_three {n} {α} {β} {γ} {σ} {es} e d = let r = by_out d in three r.0 (subst (λ z. Memᴰ r.0 z) e r.1) r.2
    where
      three : (δ : List (Sym N P A)) → Memᴰ δ (α ∷ β ∷ γ ∷ []) → Derives p hits (δ ++ σ) es → Derives p hits (α ++ σ) es ⊎ (Derives p hits (β ++ σ) es ⊎ Derives p hits (γ ++ σ) es)
      three δ (Memᴰ.head q) d = inl (subst (λ z. Derives p hits (z ++ σ) es) q d)
      three δ (Memᴰ.tail (Memᴰ.head q)) d = inr (inl (subst (λ z. Derives p hits (z ++ σ) es) q d))
      three δ (Memᴰ.tail (Memᴰ.tail (Memᴰ.head q))) d = inr (inr (subst (λ z. Derives p hits (z ++ σ) es) q d))
      three δ (Memᴰ.tail (Memᴰ.tail (Memᴰ.tail m))) d = elim m [ ]

  -- `[ ]` or `[ X+ ]`, against `[ X* ]`
  module _ (open' close : P) (x x+ x* : N) (p+ : p x+ ≡ (nt x ∷ nt x* ∷ []) ∷ []) (p* : p x* ≡ [] ∷ (nt x ∷ nt x* ∷ []) ∷ []) where
    pub bracket_none : {σ : List (Sym N P A)} {es : List (Ev C A)} → Derives p hits (tm open' ∷ tm close ∷ σ) es → Derives p hits (tm open' ∷ nt x* ∷ tm close ∷ σ) es
    bracket_none (take t d) = take t (by (first_of p*) d)

    pub bracket_some : {σ : List (Sym N P A)} {es : List (Ev C A)} → Derives p hits (tm open' ∷ nt x+ ∷ tm close ∷ σ) es → Derives p hits (tm open' ∷ nt x* ∷ tm close ∷ σ) es
    bracket_some (take t d) = take t (by (second_of p*) (by_one p+ d))

    pub bracket_out : {σ : List (Sym N P A)} {es : List (Ev C A)} → Derives p hits (tm open' ∷ nt x* ∷ tm close ∷ σ) es → Derives p hits (tm open' ∷ tm close ∷ σ) es ⊎ Derives p hits (tm open' ∷ nt x+ ∷ tm close ∷ σ) es
    bracket_out {σ} (take {c} {es} t d) = go (by_two p* d)
      where
        go : Derives p hits (tm close ∷ σ) es ⊎ Derives p hits (nt x ∷ nt x* ∷ tm close ∷ σ) es → Derives p hits (tm open' ∷ tm close ∷ σ) (tok c ∷ es) ⊎ Derives p hits (tm open' ∷ nt x+ ∷ tm close ∷ σ) (tok c ∷ es)
        go (inl d) = inl (take t d)
        go (inr d) = inr (take t (by (first_of p+) d))
