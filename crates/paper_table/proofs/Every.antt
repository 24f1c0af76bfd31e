-- A property of each element of a list.
use mathlib.Core.Path.{◌≡◌, refl}
use mathlib.Core.Bool.{Bool, true, false}
use mathlib.Core.List.{List, [], ◌∷◌, ◌++◌, cons≢nil}
use Prim.Native.Nat.{ℕ, zero, suc, ◌≤◌, ◌<◌}
use native.Mathlib.Nat.{le_refl}
use native.Mathlib.Omega.{arith}
use lib.ListN.{length, get_or, length-append}
use Rattle.paper_table.specs.Lists.{gather, each_from, only_if}

pub data Every {A : Type 0} (P : A → Type 0) : List A → Type 0 where
  no_more : Every P []
  one_more : {x : A} {xs : List A} → P x → Every P xs → Every P (x ∷ xs)

pub every_append : {A : Type 0} {P : A → Type 0} {xs ys : List A} → Every P xs → Every P ys → Every P (xs ++ ys)
every_append no_more q = q
every_append (one_more h p) q = one_more h (every_append p q)

-- number i has it
pub every_at : {A : Type 0} (P : A → Type 0) {xs : List A} → Every P xs → (d : A) (i : ℕ) → i < length xs → P (get_or xs i d)
every_at P no_more d i h = absurd (omega arith)
every_at P (one_more p ps) d zero h = p
every_at P (one_more p ps) d (suc i) h = every_at P ps d i (omega arith)

pub every_gather : {A B : Type 0} (P : A → Type 0) (Q : B → Type 0) (f : A → List B) → ((x : A) → P x → Every Q (f x)) → (xs : List A) → Every P xs → Every Q (gather f xs)
unfolding gather
every_gather P Q f h [] no_more = no_more
every_gather P Q f h (x ∷ xs) (one_more p ps) = every_append (h x p) (every_gather P Q f h xs ps)

-- at most one for each, and so no more than there are
pub gather_size : {A B : Type 0} (f : A → List B) → ((x : A) → length (f x) ≤ 1) → (xs : List A) → length (gather f xs) ≤ length xs
unfolding gather
gather_size f h [] = le_refl 0
gather_size f h (x ∷ xs) = omega (arith, length-append (f x) (gather f xs), h x, gather_size f h xs)

-- where nothing is told, nothing fails
pub every_passes : {A B : Type 0} (fails : A → Bool) (place : ℕ → A → B) (i : ℕ) (xs : List A) → each_from i (λ m x. only_if (fails x) (place m x)) xs ≡ [] → Every (λ x. fails x ≡ false) xs
unfolding each_from
every_passes fails place i [] e = no_more
every_passes fails place i (x ∷ xs) e = go (fails x) refl e (every_passes fails place (suc i) xs)
  where
    go : (b : Bool) → fails x ≡ b → only_if b (place i x) ++ each_from (suc i) (λ m x. only_if (fails x) (place m x)) xs ≡ []
        → (each_from (suc i) (λ m x. only_if (fails x) (place m x)) xs ≡ [] → Every (λ x. fails x ≡ false) xs) → Every (λ x. fails x ≡ false) (x ∷ xs)
    go true q e ih = absurd (cons≢nil e)
    go false q e ih = one_more q (ih e)
