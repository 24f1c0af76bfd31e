-- What holds of kinds and parents while a document is derived, where the innermost open row gets its kind.
use mathlib.Core.Path.{◌≡◌, refl, sym, ap, ◌∙◌, subst}
use mathlib.Core.Logic.{◌⊎◌, inl, inr}
use mathlib.Core.Bool.{Bool, true, false, cond}
use mathlib.Core.List.{List, [], ◌∷◌}
use Prim.Native.Nat.{ℕ, suc, ◌<◌, ◌≤◌}
use native.Mathlib.Decide.{ℕ_discrete, dec_lt}
use native.Mathlib.Omega.{arith}
use lib.Dec.{T}
use Rattle.paper.specs.Numbers.{kind_fragment, kind_argument, kind_type_reference}
use Rattle.paper.specs.Rows.{top}
use Rattle.paper.proofs.Bools.{and_l, and_r}
use Rattle.query_conditions.proofs.Cells.{Syms, Cell, Stack, is_base, is_firm, grown, near, holder, of_value, test, suits, allows, init, takes, of_kind, run, settled}
use Rattle.query_conditions.proofs.Nested.{not_dead}
use Rattle.query_conditions.proofs.CellLaws.{not_both, asked_near, base_firm, grown_kind, allowed_late, allowed_kind, allowed_bare, allowed_asked, allowed_or, allowed_firm, firm_kind, base_value, suits_argument, init_near, init_bare}
use Rattle.query_conditions.proofs.Bearing.{Bears, Conditioned, Exempt, Lower}

-- row o gets the kind k: the kinds K before, L after
module _ (K L P : ℕ → ℕ) (n o k : ℕ) (off : (i : ℕ) → (i ≡ o → ⊥) → L i ≡ K i) (on : L o ≡ k) where
  lower_kind : K o ≡ 0 → (σ : Stack) (os : List ℕ) → Lower K P n σ os → Lower L P n σ os
  lower_kind z [] os h = h
  lower_kind z (c ∷ []) [] h = h
  lower_kind z (c ∷ []) (p ∷ os) h = h
  lower_kind z (c ∷ (d ∷ σ)) [] h = h
  lower_kind z (c ∷ (d ∷ σ)) (p ∷ os) h = (
    h.0,
    subst (λ (j : ℕ). T (test c j)) (sym (off p (λ e. not_both (test c 0) (subst (λ (j : ℕ). T (test c j)) (ap K e ∙ z) h.1) (grown_kind c h.0)))) h.1,
    h.2,
    h.3,
    lower_kind z (d ∷ σ) os h.4,
  )

  -- what is known of the row around it, if there is one
  lower_top : (d : Cell) (σ : Stack) (os : List ℕ) → Lower K P n (d ∷ σ) os → T (is_base d) ⊎ (T (grown d) × T (test d (K (top os))) × (top os < n))
  lower_top d [] [] h = inl h
  lower_top d [] (p ∷ os) h = absurd h
  lower_top d (e ∷ σ) [] h = absurd h
  lower_top d (e ∷ σ) (p ∷ os) h = inr (h.0, h.1, h.2)

  module _ (c d : Cell) (σ : Stack) (os : List ℕ) (ok : T (takes c d k)) (h : Bears K P n (c ∷ (d ∷ σ)) (o ∷ os)) where
    allowed : T (allows c d k)
    allowed = and_l (allows c d k) (test (init k) k) ok

    zero_at : K o ≡ 0
    zero_at = allowed_kind c d k (K o) allowed h.upper.0

    last : suc o ≡ n
    last = h.upper.3 (allowed_late c d k allowed)

    parent_is : P o ≡ top os
    parent_is = h.upper.2

    around : T (is_base d) ⊎ (T (grown d) × T (test d (K (top os))) × (top os < n))
    around = lower_top d σ os h.upper.5

    -- a row with a kind is another
    other : (j i : ℕ) → K j ≡ suc i → j ≡ o → ⊥
    other j i e z = let y : K o ≡ suc i = subst (λ (x : ℕ). K x ≡ suc i) z e in let x = zero_at in omega arith

    not_top : T (grown d) → T (test d (K (top os))) → top os ≡ o → ⊥
    not_top g t e = not_both (test d 0) (subst (λ (j : ℕ). T (test d j)) (ap K e ∙ zero_at) t) (grown_kind d g)

    fragment_kind : (i : ℕ) → L i ≡ kind_fragment → Conditioned L P i ⊎ Exempt (init k) i o
    fragment_kind i e = go (ℕ_discrete i o)
      where
        old : Conditioned K P i ⊎ Exempt c i o → Conditioned L P i ⊎ Exempt (init k) i o
        old (inl z) = inl (off (suc i) (other (suc i) _ z.0) ∙ z.0, z.1)
        old (inr (inl z)) = absurd (allowed_bare c d k z.0 allowed)
        old (inr (inr z)) =
            let y = h.upper.4 (asked_near c z.0) in
            let x = z.1 in
            let w : P o ≡ i = omega arith in
            inl (ap L x ∙ on ∙ allowed_asked c d k z.0 allowed, ap P x ∙ w)

        go : Dec (i ≡ o) → Conditioned L P i ⊎ Exempt (init k) i o
        go (yes z) = inr (inl (init_bare k (sym on ∙ ap L (sym z) ∙ e), z))
        go (no z) = old (h.fragments i (sym (off i z) ∙ e))

    value_kind : (j : ℕ) → T (of_value (L j)) → P j < j
    value_kind j v = go (ℕ_discrete j o)
      where
        new_one : T (of_value k) → T (near c) ⊎ T (suits d k) → T (is_base d) ⊎ (T (grown d) × T (test d (K (top os))) × (top os < n)) → P o < o
        new_one w (inl z) a = let y = h.upper.4 z in omega arith
        new_one w (inr z) (inl a) = absurd (base_value d k a z w)
        new_one w (inr z) (inr a) = let l = a.2 in let m = last in let q = parent_is in let r = not_top a.0 a.1 in not_equal (λ e. r (sym q ∙ e)) (omega arith)
          where
            not_equal : (P o ≡ o → ⊥) → P o ≤ o → P o < o
            not_equal f l = pick (dec_lt (P o) o)
              where
                pick : Dec (P o < o) → P o < o
                pick (yes x) = x
                pick (no x) = absurd (f (omega arith))

        go : Dec (j ≡ o) → P j < j
        go (yes z) = subst (λ (i : ℕ). P i < i) (sym z) (new_one (subst (λ (i : ℕ). T (of_value i)) (ap L z ∙ on) v) (allowed_or c d k allowed) around)
        go (no z) = h.values j (subst (λ (i : ℕ). T (of_value i)) (off j z) v)

    argument_kind : (i j : ℕ) → L i ≡ kind_argument → T (of_value (L j)) → P j ≡ i → j ≡ suc i
    argument_kind i j e v p = go (ℕ_discrete j o) (ℕ_discrete i o)
      where
        new_one : P o ≡ i → K i ≡ kind_argument → T (of_value k) → T (near c) ⊎ T (suits d k) → T (is_base d) ⊎ (T (grown d) × T (test d (K (top os))) × (top os < n)) → o ≡ suc i
        new_one q a w (inl z) x = h.upper.4 z ∙ ap suc q
        new_one q a w (inr z) (inl x) = absurd (base_value d k x z w)
        new_one q a w (inr z) (inr x) = absurd (suits_argument d k z (subst (λ (y : ℕ). T (test d y)) (ap K (sym parent_is ∙ q) ∙ a) x.1))

        go : Dec (j ≡ o) → Dec (i ≡ o) → j ≡ suc i
        go (yes y) (yes z) = absurd (subst (λ (x : ℕ). T (of_value x)) (ap L (y ∙ sym z) ∙ e) v)
        go (yes y) (no z) =
            y ∙ new_one (ap P (sym y) ∙ p) (sym (off i z) ∙ e) (subst (λ (x : ℕ). T (of_value x)) (ap L y ∙ on) v) (allowed_or c d k allowed) around
        go (no y) (yes z) =
            let w : T (of_value (K j)) = subst (λ (x : ℕ). T (of_value x)) (off j y) v in
            let l = h.values j w in
            let m = last in
            far (dec_lt j n) w (let q : o < j = omega arith in omega arith)
          where
            far : Dec (j < n) → T (of_value (K j)) → n ≤ j → j ≡ suc i
            far (yes a) w b = absurd (omega arith)
            far (no a) w b = absurd (subst (λ (x : ℕ). T (of_value x)) (h.beyond j b) w)
        go (no y) (no z) = h.arguments i j (sym (off i z) ∙ e) (subst (λ (x : ℕ). T (of_value x)) (off j y) v) p

    reference_kind : (j : ℕ) → L j ≡ kind_type_reference → T (holder (L (P j)))
    reference_kind j e = go (ℕ_discrete j o)
      where
        new_one : k ≡ kind_type_reference → T (is_base d) ⊎ (T (grown d) × T (test d (K (top os))) × (top os < n)) → T (holder (L (P o)))
        new_one q (inl x) = absurd (not_both (is_firm d) (allowed_firm c d (subst (λ (y : ℕ). T (allows c d y)) q allowed)) (base_firm d x))
        new_one q (inr x) =
            subst (λ (y : ℕ). T (holder y)) (sym (off (top os) (not_top x.0 x.1)) ∙ ap L (sym parent_is))
            (firm_kind d (K (top os)) (allowed_firm c d (subst (λ (y : ℕ). T (allows c d y)) q allowed)) x.1)

        old : T (holder (K (P j))) → T (holder (L (P j)))
        old t = subst (λ (y : ℕ). T (holder y)) (sym (off (P j) (λ z. subst (λ (y : ℕ). T (holder y)) (ap K z ∙ zero_at) t))) t

        go : Dec (j ≡ o) → T (holder (L (P j)))
        go (yes z) = subst (λ (i : ℕ). T (holder (L (P i)))) (sym z) (new_one (sym on ∙ ap L (sym z) ∙ e) around)
        go (no z) = old (h.references j (sym (off j z) ∙ e))

    kinded : Bears L P n (init k ∷ (d ∷ σ)) (o ∷ os)
    kinded = record {
      upper = (
        subst (λ (j : ℕ). T (test (init k) j)) (sym on) (and_r (allows c d k) (test (init k) k) ok),
        h.upper.1,
        h.upper.2,
        (λ l. last),
        (λ l. absurd (init_near k l)),
        lower_kind zero_at (d ∷ σ) os h.upper.5,
      );
      beyond = λ i l. let m = last in off i (λ z. omega arith) ∙ h.beyond i l;
      fragments = fragment_kind;
      values = value_kind;
      arguments = argument_kind;
      references = reference_kind;
    }

-- the innermost open row gets it
pub bears_kind : (K L P : ℕ → ℕ) (n k : ℕ) (ss : Syms) (σ : Stack) (os : List ℕ) → ((i : ℕ) → (i ≡ top os → ⊥) → L i ≡ K i) → (top os < n → L (top os) ≡ k) → T (settled (run ss (of_kind k σ))) → Bears K P n σ os → Bears L P n (of_kind k σ) os
bears_kind K L P n k ss [] os off on t h = absurd (not_dead ss t)
bears_kind K L P n k ss (c ∷ []) os off on t h = absurd (not_dead ss t)
bears_kind K L P n k ss (c ∷ (d ∷ σ)) [] off on t h = absurd h.upper
bears_kind K L P n k ss (c ∷ (d ∷ σ)) (o ∷ os) off on t h = go (takes c d k) refl t
  where
    go : (b : Bool) → takes c d k ≡ b → T (settled (run ss (cond b (init k ∷ (d ∷ σ)) []))) → Bears L P n (cond b (init k ∷ (d ∷ σ)) []) (o ∷ os)
    go true e t = kinded K L P n o k off (on h.upper.1) c d σ os (subst T (sym e) tt) h
    go false e t = absurd (not_dead ss t)
