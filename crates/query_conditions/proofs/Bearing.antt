-- What holds, while a document is derived, of the kinds K and parents P of its rows, n so far, where os are open and are what the cells say;
-- and how a row begins and ends.
use mathlib.Core.Path.{◌≡◌, refl, sym, ap, ◌∙◌, subst}
use mathlib.Core.Logic.{◌⊎◌, inl, inr}
use mathlib.Core.Bool.{Bool, true, false, not, cond}
use mathlib.Core.List.{List, [], ◌∷◌}
use Prim.Native.Nat.{ℕ, suc, ◌<◌, ◌≤◌}
use native.Mathlib.Omega.{arith}
use lib.Dec.{T}
use Rattle.paper.specs.Numbers.{kind_fragment, kind_argument, kind_type_reference}
use Rattle.paper.specs.Rows.{top, pop}
use Rattle.query_conditions.proofs.Cells.{Syms, Cell, base, Stack, is_base, is_bare, is_asked, grown, near, bears, ends, born, under, holder, of_value, test, of_row, of_end, run, settled}
use Rattle.query_conditions.proofs.Nested.{not_dead}
use Rattle.query_conditions.proofs.CellLaws.{not_both, near_late, bare_late, bare_ends, asked_ends, asked_bears, base_grown, base_under, base_bare, base_asked, born_kind, born_near, bare_born, under_grown, under_kind}

abbrev pub lead : Stack → Cell
lead [] = base
lead (c ∷ σ) = c

-- row i is a fragment's whose type reference is still to come: row o is the innermost open one, of the cell c
abbrev pub Exempt : Cell → ℕ → ℕ → Type 0
Exempt c i o = (T (is_bare c) × (i ≡ o)) ⊎ (T (is_asked c) × (suc i ≡ o))

-- right behind row i stands a type reference right below it
abbrev pub Conditioned : (ℕ → ℕ) → (ℕ → ℕ) → ℕ → Type 0
Conditioned K P i = (K (suc i) ≡ kind_type_reference) × (P (suc i) ≡ i)

-- where no row is open there is none
pub base_conditioned : (K P : ℕ → ℕ) (c : Cell) (i o : ℕ) → T (is_base c) → Conditioned K P i ⊎ Exempt c i o → Conditioned K P i
base_conditioned K P c i o b (inl z) = z
base_conditioned K P c i o b (inr (inl z)) = absurd (not_both (is_bare c) z.0 (base_bare c b))
base_conditioned K P c i o b (inr (inr z)) = absurd (not_both (is_asked c) z.0 (base_asked c b))

-- the rows that are open around the innermost
abbrev pub Lower : (ℕ → ℕ) → (ℕ → ℕ) → ℕ → Stack → List ℕ → Type 0
Lower K P n [] os = ⊥
Lower K P n (c ∷ []) [] = T (is_base c)
Lower K P n (c ∷ []) (o ∷ os) = ⊥
Lower K P n (c ∷ (d ∷ σ)) [] = ⊥
Lower K P n (c ∷ (d ∷ σ)) (o ∷ os) = T (grown c) × T (test c (K o)) × (o < n) × (P o ≡ top os) × Lower K P n (d ∷ σ) os

-- and with the innermost
abbrev pub Upper : (ℕ → ℕ) → (ℕ → ℕ) → ℕ → Stack → List ℕ → Type 0
Upper K P n [] os = ⊥
Upper K P n (c ∷ []) [] = T (is_base c)
Upper K P n (c ∷ []) (o ∷ os) = ⊥
Upper K P n (c ∷ (d ∷ σ)) [] = ⊥
Upper K P n (c ∷ (d ∷ σ)) (o ∷ os) =
    T (test c (K o)) × (o < n) × (P o ≡ top os) × (T (not (grown c)) → suc o ≡ n) × (T (near c) → o ≡ suc (P o)) × Lower K P n (d ∷ σ) os

pub record Bears (K P : ℕ → ℕ) (n : ℕ) (σ : Stack) (os : List ℕ) : Type 0 where
  pub upper : Upper K P n σ os
  pub beyond : (i : ℕ) → n ≤ i → K i ≡ 0
  pub fragments : (i : ℕ) → K i ≡ kind_fragment → Conditioned K P i ⊎ Exempt (lead σ) i (top os)
  pub values : (j : ℕ) → T (of_value (K j)) → P j < j
  pub arguments : (i j : ℕ) → K i ≡ kind_argument → T (of_value (K j)) → P j ≡ i → j ≡ suc i
  pub references : (j : ℕ) → K j ≡ kind_type_reference → T (holder (K (P j)))

lower_upper : (K P : ℕ → ℕ) (n : ℕ) (σ : Stack) (os : List ℕ) → Lower K P n σ os → Upper K P n σ os
lower_upper K P n [] os h = h
lower_upper K P n (c ∷ []) [] h = h
lower_upper K P n (c ∷ []) (o ∷ os) h = h
lower_upper K P n (c ∷ (d ∷ σ)) [] h = h
lower_upper K P n (c ∷ (d ∷ σ)) (o ∷ os) h = (h.1, h.2, h.3, (λ l. absurd (not_both (grown c) h.0 l)), (λ l. absurd (not_both (grown c) h.0 (near_late c l))), h.4)

-- A ROW ENDS.
module _ (K P : ℕ → ℕ) (n : ℕ) (ss : Syms) where
  bears_pop : (c : Cell) (σ : Stack) (os : List ℕ) → T (ends c) → T (settled (run ss σ)) → Bears K P n (c ∷ σ) os → Bears K P n σ (pop os)
  bears_pop c σ os e t h = record { upper = above σ os t h.upper; beyond = h.beyond; fragments = λ i z. inl (here (h.fragments i z)); values = h.values; arguments = h.arguments; references = h.references }
    where
      above : (σ : Stack) (os : List ℕ) → T (settled (run ss σ)) → Upper K P n (c ∷ σ) os → Upper K P n σ (pop os)
      above [] os t u = absurd (not_dead ss t)
      above (d ∷ σ) [] t u = absurd u
      above (d ∷ σ) (o ∷ os) t u = lower_upper K P n (d ∷ σ) os u.5

      here : {i o : ℕ} → Conditioned K P i ⊎ Exempt c i o → Conditioned K P i
      here (inl z) = z
      here (inr (inl z)) = absurd (not_both (ends c) e (bare_ends c z.0))
      here (inr (inr z)) = absurd (not_both (ends c) e (asked_ends c z.0))

  pub bears_end : (σ : Stack) (os : List ℕ) → T (settled (run ss (of_end σ))) → Bears K P n σ os → Bears K P n (of_end σ) (pop os)
  bears_end [] os t h = absurd (not_dead ss t)
  bears_end (c ∷ σ) os t h = go (ends c) refl t
    where
      go : (b : Bool) → ends c ≡ b → T (settled (run ss (cond b σ []))) → Bears K P n (cond b σ []) (pop os)
      go true e t = bears_pop c σ os (subst T (sym e) tt) t h
      go false e t = absurd (not_dead ss t)

-- A ROW BEGINS: its kind is 0 as before, its parent is the innermost open row.
module _ (K P Q : ℕ → ℕ) (n : ℕ) (off : (i : ℕ) → (i ≡ n → ⊥) → Q i ≡ P i) where
  lower_row : (σ : Stack) (os : List ℕ) → Lower K P n σ os → Lower K Q (suc n) σ os
  lower_row [] os h = h
  lower_row (c ∷ []) [] h = h
  lower_row (c ∷ []) (o ∷ os) h = h
  lower_row (c ∷ (d ∷ σ)) [] h = h
  lower_row (c ∷ (d ∷ σ)) (o ∷ os) h = let l = h.2 in (h.0, h.1, omega arith, off o (λ e. omega arith) ∙ h.3, lower_row (d ∷ σ) os h.4)

  under_row : (c : Cell) (σ : Stack) (os : List ℕ) → T (bears c) → Upper K P n (c ∷ σ) os → Lower K Q (suc n) (under c ∷ σ) os
  under_row c [] [] b u = base_under c u
  under_row c [] (o ∷ os) b u = u
  under_row c (d ∷ σ) [] b u = u
  under_row c (d ∷ σ) (o ∷ os) b u = let l = u.1 in (under_grown c b, under_kind c (K o) b u.0, omega arith, off o (λ e. omega arith) ∙ u.2, lower_row (d ∷ σ) os u.5)

  -- the innermost was just begun, or just got its kind
  next_row : (c : Cell) (σ : Stack) (os : List ℕ) → Upper K P n (c ∷ σ) os → T (not (grown c)) → n ≡ suc (top os)
  next_row c [] [] u l = absurd (not_both (grown c) (base_grown c u) l)
  next_row c [] (o ∷ os) u l = absurd u
  next_row c (d ∷ σ) [] u l = absurd u
  next_row c (d ∷ σ) (o ∷ os) u l = sym (u.3 l)

  module _ (c : Cell) (σ : Stack) (os : List ℕ) (on : Q n ≡ top os) (b : T (bears c)) (h : Bears K P n (c ∷ σ) os) where
    none_yet : K n ≡ 0
    none_yet = h.beyond n (omega arith)

    -- a row with a kind keeps its parent
    kept : (j k : ℕ) → K j ≡ suc k → Q j ≡ P j
    kept j k e = off j (λ z. let y : K n ≡ suc k = subst (λ (i : ℕ). K i ≡ suc k) z e in let x = none_yet in omega arith)

    value_kept : (j : ℕ) → T (of_value (K j)) → Q j ≡ P j
    value_kept j v = off j (λ z. subst (λ (i : ℕ). T (of_value i)) (ap K z ∙ none_yet) v)

    fragment_row : (i : ℕ) → Conditioned K P i ⊎ Exempt c i (top os) → Conditioned K Q i ⊎ Exempt (born c) i n
    fragment_row i (inl z) = inl (z.0, kept (suc i) _ z.0 ∙ z.1)
    fragment_row i (inr (inl z)) = let y = z.1 in let x = next_row c σ os h.upper (bare_late c z.0) in inr (inr (bare_born c z.0, omega arith))
    fragment_row i (inr (inr z)) = absurd (not_both (bears c) b (asked_bears c z.0))

    begins : Bears K Q (suc n) (born c ∷ (under c ∷ σ)) (n ∷ os)
    begins = record {
      upper = (
        subst (λ (k : ℕ). T (test (born c) k)) (sym none_yet) (born_kind c),
        omega arith,
        on,
        (λ l. refl),
        (λ l. next_row c σ os h.upper (born_near c l) ∙ ap suc (sym on)),
        under_row c σ os b h.upper,
      );
      beyond = λ i l. h.beyond i (omega arith);
      fragments = λ i e. fragment_row i (h.fragments i e);
      values = λ j v. subst (λ (p : ℕ). p < j) (sym (value_kept j v)) (h.values j v);
      arguments = λ i j e v p. h.arguments i j e v (sym (value_kept j v) ∙ p);
      references = λ j e. subst (λ (p : ℕ). T (holder (K p))) (sym (kept j _ e)) (h.references j e);
    }

  pub bears_row : (ss : Syms) (σ : Stack) (os : List ℕ) → Q n ≡ top os → T (settled (run ss (of_row σ))) → Bears K P n σ os → Bears K Q (suc n) (of_row σ) (n ∷ os)
  bears_row ss [] os on t h = absurd (not_dead ss t)
  bears_row ss (c ∷ σ) os on t h = go (bears c) refl t
    where
      go : (b : Bool) → bears c ≡ b → T (settled (run ss (cond b (born c ∷ (under c ∷ σ)) []))) → Bears K Q (suc n) (cond b (born c ∷ (under c ∷ σ)) []) (n ∷ os)
      go true e t = begins c σ os on (subst T (sym e) tt) h
      go false e t = absurd (not_dead ss t)
