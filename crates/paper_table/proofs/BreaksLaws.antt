-- Which breaks a table has: a rule's places in a definition, or `Query` where there is no record 8.
use mathlib.Core.Path.{◌≡◌, refl, sym, ap, subst}
use mathlib.Core.Logic.{◌⊎◌, inl, inr}
use mathlib.Core.Bool.{Bool, true, false}
use mathlib.Core.List.Memᴰ
use mathlib.Core.List.{List, [], ◌∷◌, map, Memᴰ}
use Prim.Native.Nat.{ℕ, zero, suc, ◌+◌, ◌<◌}
use native.Mathlib.Nat.{zero-add}
use native.Mathlib.Omega.{arith}
use lib.ListN.{length, get_or}
use Rattle.paper_table.specs.TableNumbers.{rule_root}
use Rattle.paper_table.specs.Lists.{gather, each_from, only_if}
use Rattle.paper_table.specs.Types.{Table, blank_definition, tag_nothing}
use Rattle.paper_table.specs.Places.{Place, whole_of}
use Rattle.paper_table.specs.Rule16Root.{query_not_object}
use Rattle.paper_table.specs.Judging.{Numbered, rules, Break, break, breaks_of_rule, breaks_of, breaks}
use Rattle.paper_table.proofs.Walk.{definition_at}

-- a rule is broken at a place
pub data Broken (t : Table) : Break → Type 0 where
  at_place : (i : ℕ) (n : Numbered) (q : Place) → i < length t → Memᴰ n rules → Memᴰ q (n.rule t i (definition_at t i)) → Broken t (break i n.number q)
  at_query : query_not_object t ≡ true → Broken t (break (length t) rule_root whole_of)

module _ {A B : Type 0} where
  -- where an element of a walk comes from
  pub each_sound : (f : ℕ → A → List B) (d : A) (i : ℕ) (xs : List A) (b : B) → Memᴰ b (each_from i f xs)
      → (j : ℕ) × (j < length xs) × Memᴰ b (f (i + j) (get_or xs j d))
  unfolding each_from
  each_sound f d i [] b m = absurd (Memᴰ.not-nil m)
  each_sound f d i (x ∷ xs) b m = go (Memᴰ.append_cases (f i x) m) (λ (k : Memᴰ b (each_from (suc i) f xs)). each_sound f d (suc i) xs b k)
    where
      go : Memᴰ b (f i x) ⊎ Memᴰ b (each_from (suc i) f xs) → (Memᴰ b (each_from (suc i) f xs) → (j : ℕ) × (j < length xs) × Memᴰ b (f (suc i + j) (get_or xs j d)))
          → (j : ℕ) × (j < suc (length xs)) × Memᴰ b (f (i + j) (get_or (x ∷ xs) j d))
      go (inl k) ih = (0, omega arith, subst (λ (n : ℕ). Memᴰ b (f n x)) (let e : i ≡ i + 0 = omega arith in e) k)
      go (inr k) ih =
          let r = ih k in
          let h = r.1 in
          (suc r.0, omega arith, subst (λ (n : ℕ). Memᴰ b (f n (get_or xs r.0 d))) (let e : suc i + r.0 ≡ i + suc r.0 = omega arith in e) r.2)

  pub each_complete : (f : ℕ → A → List B) (d : A) (i : ℕ) (xs : List A) (b : B) (j : ℕ) → j < length xs → Memᴰ b (f (i + j) (get_or xs j d)) → Memᴰ b (each_from i f xs)
  unfolding each_from
  each_complete f d i [] b j h m = absurd (omega arith)
  each_complete f d i (x ∷ xs) b zero h m = Memᴰ.append_left (each_from (suc i) f xs) (subst (λ (n : ℕ). Memᴰ b (f n x)) (let e : i + 0 ≡ i = omega arith in e) m)
  each_complete f d i (x ∷ xs) b (suc j) h m =
      Memᴰ.append_right (f i x) (each_complete f d (suc i) xs b j (omega arith) (subst (λ (n : ℕ). Memᴰ b (f n (get_or xs j d))) (let e : i + suc j ≡ suc i + j = omega arith in e) m))

  -- the same where no number is told
  pub gather_sound : (g : A → List B) (xs : List A) (b : B) → Memᴰ b (gather g xs) → (x : A) × Memᴰ x xs × Memᴰ b (g x)
  unfolding gather
  gather_sound g [] b m = absurd (Memᴰ.not-nil m)
  gather_sound g (x ∷ xs) b m = go (Memᴰ.append_cases (g x) m) (λ (k : Memᴰ b (gather g xs)). gather_sound g xs b k)
    where
      go : Memᴰ b (g x) ⊎ Memᴰ b (gather g xs) → (Memᴰ b (gather g xs) → (y : A) × Memᴰ y xs × Memᴰ b (g y)) → (y : A) × Memᴰ y (x ∷ xs) × Memᴰ b (g y)
      go (inl k) ih = (x, Memᴰ.head refl, k)
      go (inr k) ih = let r = ih k in (r.0, Memᴰ.tail r.1, r.2)

  pub gather_complete : (g : A → List B) (xs : List A) (b : B) (x : A) → Memᴰ x xs → Memᴰ b (g x) → Memᴰ b (gather g xs)
  unfolding gather
  gather_complete g [] b x x4 m = elim x4 [ ]
  gather_complete g (y ∷ xs) b x (Memᴰ.head e) m = Memᴰ.append_left (gather g xs) (subst (λ (z : A). Memᴰ b (g z)) e m)
  gather_complete g (y ∷ xs) b x (Memᴰ.tail k) m = Memᴰ.append_right (g y) (gather_complete g xs b x k m)

  map_sound : (f : A → B) (xs : List A) (b : B) → Memᴰ b (map f xs) → (x : A) × Memᴰ x xs × (b ≡ f x)
  map_sound f [] b m = absurd (Memᴰ.not-nil m)
  map_sound f (x ∷ xs) b (Memᴰ.head e) = (x, Memᴰ.head refl, e)
  map_sound f (x ∷ xs) b (Memᴰ.tail m) = let r = map_sound f xs b m in (r.0, Memᴰ.tail r.1, r.2)

  map_complete : (f : A → B) (xs : List A) (x : A) → Memᴰ x xs → Memᴰ (f x) (map f xs)
  map_complete f [] x x3 = elim x3 [ ]
  map_complete f (y ∷ xs) x (Memᴰ.head e) = Memᴰ.head (ap f e)
  map_complete f (y ∷ xs) x (Memᴰ.tail m) = Memᴰ.tail (map_complete f xs x m)

-- a break of definition i
of_definition : (t : Table) (b : Break) (i : ℕ) → i < length t → Memᴰ b (breaks_of t i (definition_at t i)) → Broken t b
unfolding breaks_of
of_definition t b i h m = by_rule (gather_sound (breaks_of_rule t i (definition_at t i)) rules b m)
  where
    at : (n : Numbered) → Memᴰ n rules → (q : Place) × Memᴰ q (n.rule t i (definition_at t i)) × (b ≡ break i n.number q) → Broken t b
    at n r q = subst (Broken t) (sym q.2) (at_place i n q.0 h r q.1)

    by_rule : (n : Numbered) × Memᴰ n rules × Memᴰ b (breaks_of_rule t i (definition_at t i) n) → Broken t b
    by_rule n = at n.0 n.1 (map_sound (break i n.0.number) (n.0.rule t i (definition_at t i)) b n.2)

pub breaks_sound : (t : Table) (b : Break) → Memᴰ b (breaks t) → Broken t b
unfolding breaks
breaks_sound t b m = go (Memᴰ.append_cases (each_from 0 (breaks_of t) t) m)
  where
    query : (c : Bool) → query_not_object t ≡ c → Memᴰ b (only_if c (break (length t) rule_root whole_of)) → Broken t b
    query true q (Memᴰ.head e) = subst (Broken t) (sym e) (at_query q)
    query true q (Memᴰ.tail k) = absurd (Memᴰ.not-nil k)
    query false q k = absurd (Memᴰ.not-nil k)

    numbered : (j : ℕ) × (j < length t) × Memᴰ b (breaks_of t (0 + j) (definition_at t j)) → Broken t b
    numbered r = of_definition t b r.0 r.1 (subst (λ (j : ℕ). Memᴰ b (breaks_of t j (definition_at t r.0))) (zero-add r.0) r.2)

    go : Memᴰ b (each_from 0 (breaks_of t) t) ⊎ Memᴰ b (only_if (query_not_object t) (break (length t) rule_root whole_of)) → Broken t b
    go (inl k) = numbered (each_sound (breaks_of t) (blank_definition tag_nothing) 0 t b k)
    go (inr k) = query (query_not_object t) refl k

pub breaks_complete : (t : Table) (b : Break) → Broken t b → Memᴰ b (breaks t)
unfolding breaks breaks_of
breaks_complete t b (at_place i n q h r m) =
    Memᴰ.append_left _ (each_complete (breaks_of t) (blank_definition tag_nothing) 0 t (break i n.number q) i h
    (subst (λ (j : ℕ). Memᴰ (break i n.number q) (breaks_of t j (definition_at t i))) (sym (zero-add i))
    (gather_complete (breaks_of_rule t i (definition_at t i)) rules (break i n.number q) n r (map_complete (break i n.number) (n.rule t i (definition_at t i)) q m))))
breaks_complete t b (at_query e) = Memᴰ.append_right (each_from 0 (breaks_of t) t) (rw e (Memᴰ.head refl))

-- there is none exactly where no rule is broken
pub breaks_none : (t : Table) → breaks t ≡ [] → (b : Break) → Broken t b → ⊥
breaks_none t e b k = Memᴰ.not-nil (subst (λ (bs : List Break). Memᴰ b bs) e (breaks_complete t b k))

pub breaks_nil : (t : Table) → ((b : Break) → Broken t b → ⊥) → breaks t ≡ []
breaks_nil t f = go (breaks t) refl
  where
    go : (bs : List Break) → breaks t ≡ bs → bs ≡ []
    go [] e = refl
    go (b ∷ bs) e = absurd (f b (breaks_sound t b (subst (λ (cs : List Break). Memᴰ b cs) (sym e) (Memᴰ.head refl))))

-- so in a table without breaks each rule's places are none
pub rule_kept : (t : Table) → breaks t ≡ [] → (i : ℕ) → i < length t → (n : Numbered) → Memᴰ n rules → n.rule t i (definition_at t i) ≡ []
rule_kept t e i h n r = go (n.rule t i (definition_at t i)) refl
  where
    go : (qs : List Place) → n.rule t i (definition_at t i) ≡ qs → qs ≡ []
    go [] q = refl
    go (x ∷ qs) q = absurd (breaks_none t e (break i n.number x) (at_place i n x h r (subst (λ (ys : List Place). Memᴰ x ys) (sym q) (Memᴰ.head refl))))
