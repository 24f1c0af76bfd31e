-- The numbers of those that pass a test, from the first and the second of them; one of two tests.
use mathlib.Core.Path.{◌≡◌, refl, sym, ◌∙◌}
use mathlib.Core.Bool.{Bool, true, false, ◌&&◌, ◌||◌, or-true}
use mathlib.Core.List.{List, [], ◌∷◌, ◌++◌}
use Prim.Native.Nat.{ℕ, suc, ◌+◌, ◌<◌, ◌≤◌}
use native.Mathlib.Nat.{add-zero}
use native.Mathlib.Omega.{arith}
use lib.ListN.{length, drop, length-drop}
use lib.Seq.{drop-drop}
use Rattle.paper_table.specs.Lists.{any_of, first_at, each_from, only_if}
use Rattle.paper_table.proofs.ListsLaws.{first_at_here, first_at_later, each_from_nil, each_from_cons}
use Rattle.query_links.specs.Links.{next_with}

module _ {A : Type 0} (p : A → Bool) where
  -- the numbers of those that pass, counted from i
  abbrev numbers : ℕ → List A → List ℕ
  numbers i xs = each_from i (λ j x. only_if (p x) j) xs

  none_pass : (xs : List A) (i : ℕ) → length xs ≤ first_at p xs → numbers i xs ≡ []
  none_pass [] i h = each_from_nil i (λ j x. only_if (p x) j)
  none_pass (x ∷ xs) i h = each_from_cons i (λ j y. only_if (p y) j) x xs ∙ go (p x) refl (λ l. none_pass xs (suc i) l)
    where
      go : (b : Bool) → p x ≡ b → (length xs ≤ first_at p xs → numbers (suc i) xs ≡ []) → only_if b i ++ numbers (suc i) xs ≡ []
      go true e ih = absurd (omega (arith, first_at_here p x xs e))
      go false e ih = ih (omega (arith, first_at_later p x xs e))

  some_pass : (xs : List A) (i : ℕ) → first_at p xs < length xs → numbers i xs ≡ (i + first_at p xs) ∷ numbers (suc (i + first_at p xs)) (drop (suc (first_at p xs)) xs)
  some_pass [] i h = absurd (omega arith)
  some_pass (x ∷ xs) i h = each_from_cons i (λ j y. only_if (p y) j) x xs ∙ go (p x) refl (λ l. some_pass xs (suc i) l)
    where
      go : (b : Bool) → p x ≡ b → (first_at p xs < length xs → numbers (suc i) xs ≡ (suc i + first_at p xs) ∷ numbers (suc (suc i + first_at p xs)) (drop (suc (first_at p xs)) xs))
          → only_if b i ++ numbers (suc i) xs ≡ (i + first_at p (x ∷ xs)) ∷ numbers (suc (i + first_at p (x ∷ xs))) (drop (suc (first_at p (x ∷ xs))) (x ∷ xs))
      go true e ih = rw (first_at_here p x xs e, add-zero i)
      go false e ih =
          let z : i + suc (first_at p xs) ≡ suc i + first_at p xs = omega arith in
          rw (first_at_later p x xs e, z) (ih (omega (arith, first_at_later p x xs e)))

  module _ (xs : List A) (i : ℕ) where
    pub numbers_none : length xs ≤ next_with p xs i → each_from i (λ j x. only_if (p x) j) (drop i xs) ≡ []
    unfolding next_with
    numbers_none h = none_pass (drop i xs) i (omega (arith, length-drop i xs))

    pub numbers_some : next_with p xs i < length xs
        → each_from i (λ j x. only_if (p x) j) (drop i xs) ≡ next_with p xs i ∷ each_from (suc (next_with p xs i)) (λ j x. only_if (p x) j) (drop (suc (next_with p xs i)) xs)
    unfolding next_with
    numbers_some h =
        let z : i + suc (first_at p (drop i xs)) ≡ suc (i + first_at p (drop i xs)) = omega arith in
        rw (← z, ← (drop-drop (suc (first_at p (drop i xs))) i xs), z) (some_pass (drop i xs) i (omega (arith, length-drop i xs)))

-- one of two tests, with a third: by either
pub any_either : {A : Type 0} (p q b : A → Bool) (xs : List A) → any_of (λ x. (p x || q x) && b x) xs ≡ (any_of (λ x. p x && b x) xs || any_of (λ x. q x && b x) xs)
unfolding any_of
any_either p q b [] = refl
any_either p q b (x ∷ xs) = go (any_of (λ y. (p y || q y) && b y) xs) (any_of (λ y. p y && b y) xs) (any_of (λ y. q y && b y) xs) (p x) (q x) (b x) (any_either p q b xs)
  where
    go : (u v w c e f : Bool) → u ≡ (v || w) → ((c || e) && f || u) ≡ (c && f || v || (e && f || w))
    go u v w true e true h = refl
    go u v w true true false h = h
    go u v w true false false h = h
    go u v w false true true h = sym (or-true v)
    go u v w false true false h = h
    go u v w false false f h = h
