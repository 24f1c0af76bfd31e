-- The least rule that a row breaks is found by trying, in order, those that its kind can break.
use mathlib.Core.Path.{◌≡◌, refl, sym, subst}
use mathlib.Core.Logic.{◌⊎◌, inl, inr}
use mathlib.Core.Bool.{Bool, true, false, ◌||◌}
use mathlib.Core.List.{List, [], ◌∷◌}
use Prim.Native.Nat.{ℕ, ◌≤◌, ◌<◌}
use native.Mathlib.Omega.{arith}
use lib.Dec.{T, eqb, ltb, eqb→eq, ltb→lt}
use Rattle.paper.proofs.Bools.{and_l, and_r}
use Rattle.paper_table.specs.Types.{Table}
use Rattle.paper_query.specs.Constructs.{Doc, kind_of}
use Rattle.paper_query.specs.QueryRules.{Broken}
use Rattle.paper_query.proofs.BrokenAt.{rules_at, among, rising, broken_among}
use Rattle.query_row_verdict.specs.Least.{LeastAt, none_at, least_at}

-- `Told t d i ks r`: r is the first of the rules ks that row i breaks, 0 if it breaks none of them
pub data Told (t : Table) (d : Doc) (i : ℕ) : List ℕ → ℕ → Type 0 where
  no_more : Told t d i [] 0
  found : {k : ℕ} {ks : List ℕ} → Broken t d i k → Told t d i (k ∷ ks) k
  passed : {k r : ℕ} {ks : List ℕ} → (Broken t d i k → ⊥) → Told t d i ks r → Told t d i (k ∷ ks) r

-- the first, or among the others
split : (k l : ℕ) (ks : List ℕ) → T (among k (l ∷ ks)) → (k ≡ l) ⊎ T (among k ks)
split k l ks h = go (eqb k l) refl h
  where
    go : (b : Bool) → eqb k l ≡ b → T (b || among k ks) → (k ≡ l) ⊎ T (among k ks)
    go true e h = inl (eqb→eq k l (subst T (sym e) tt))
    go false e h = inr h

-- among rules that rise from above m, each is above m
above : (m k : ℕ) (ks : List ℕ) → T (rising m ks) → T (among k ks) → m < k
above m k [] w h = absurd h
above m k (l ∷ ks) w h = go (ltb→lt m l (and_l (ltb m l) (rising l ks) w)) (λ g. above l k ks (and_r (ltb m l) (rising l ks) w) g) (split k l ks h)
  where
    go : m < l → (T (among k ks) → l < k) → (k ≡ l) ⊎ T (among k ks) → m < k
    go less f (inl e) = omega arith
    go less f (inr g) = omega (arith, f g)

module _ {t : Table} {d : Doc} {i : ℕ} where
  told_from : (m : ℕ) (ks : List ℕ) {r : ℕ} → T (rising m ks) → ((k : ℕ) → Broken t d i k → T (among k ks)) → Told t d i ks r → LeastAt t d i r
  told_from m [] w h no_more = none_at h
  told_from m (k ∷ ks) w h (found b) = least_at {r = k} (omega (arith, ltb→lt m k (and_l (ltb m k) (rising k ks) w))) b (λ l c. go l (split l k ks (h l c)))
    where
      go : (l : ℕ) → (l ≡ k) ⊎ T (among l ks) → k ≤ l
      go l (inl e) = omega arith
      go l (inr g) = omega (arith, above k l ks (and_r (ltb m k) (rising k ks) w) g)
  told_from m (k ∷ ks) w h (passed n s) = told_from k ks (and_r (ltb m k) (rising k ks) w) (λ l c. go l c (split l k ks (h l c))) s
    where
      go : (l : ℕ) → Broken t d i l → (l ≡ k) ⊎ T (among l ks) → T (among l ks)
      go l c (inl e) = absurd (n (subst (Broken t d i) e c))
      go l c (inr g) = g

  -- at a row of kind x
  pub told_least : (x : ℕ) {r : ℕ} → kind_of d i ≡ x → T (rising 0 (rules_at x)) → Told t d i (rules_at x) r → LeastAt t d i r
  told_least x e w s = told_from 0 (rules_at x) w (λ k b. subst (λ (y : ℕ). T (among k (rules_at y))) e (broken_among b)) s
