-- The first of a list of lists joined; the first element that passes; a walk by numbers.
use mathlib.Core.Path.{◌≡◌, refl, sym, ap, ◌∙◌}
use mathlib.Core.Bool.{Bool, true, false, ◌||◌, cond, true≢false}
use mathlib.Core.Option.{Option, none, some}
use mathlib.Core.List.{List, [], ◌∷◌, ◌++◌, map, head?}
use Prim.Native.Nat.{ℕ, zero, suc, ◌≤◌, ◌<◌}
use native.Mathlib.Omega.{arith}
use lib.ListN.{length, take, drop, get_or, get_elem?, drop_of_length-le}
use lib.Seq.{drop-cons}
use lib.Dec.{ltb, leb-suc-suc}
use borrow.Author.Tests.{lt-ltb, le-ltb}
use Rattle.paper_table.specs.Lists.{any_of, first_at, find, each_from}

module _ {A : Type 0} where
  -- the first of two lists joined is the first of the first, or where that is empty the second's
  pub head_left : (xs ys : List A) (w : A) → head? xs ≡ some w → head? (xs ++ ys) ≡ some w
  head_left [] ys w e = let z : ◌≡◌ {A = Option A} none (some w) = e in cc
  head_left (x ∷ xs) ys w e = e

  pub head_right : (xs ys : List A) → head? xs ≡ none → head? (xs ++ ys) ≡ head? ys
  head_right [] ys e = refl
  head_right (x ∷ xs) ys e = let z : ◌≡◌ {A = Option A} (some x) none = e in cc

  pub head_nil : (xs : List A) → head? xs ≡ none → xs ≡ []
  head_nil [] e = refl
  head_nil (x ∷ xs) e = let z : ◌≡◌ {A = Option A} (some x) none = e in cc

  -- the first that passes: here, or further on
  pub first_at_here : (p : A → Bool) (x : A) (xs : List A) → p x ≡ true → first_at p (x ∷ xs) ≡ 0
  unfolding first_at
  first_at_here p x xs e = rw e

  pub first_at_later : (p : A → Bool) (x : A) (xs : List A) → p x ≡ false → first_at p (x ∷ xs) ≡ suc (first_at p xs)
  unfolding first_at
  first_at_later p x xs e = rw e

  pub first_at_most : (p : A → Bool) (xs : List A) → first_at p xs ≤ length xs
  unfolding first_at
  first_at_most p [] = omega arith
  first_at_most p (x ∷ xs) = go (p x) (first_at_most p xs)
    where
      go : (b : Bool) → first_at p xs ≤ length xs → cond b 0 (suc (first_at p xs)) ≤ suc (length xs)
      go true h = omega arith
      go false h = omega arith

  -- one passes before number m: the first that passes stands before it
  pub any_take : (p : A → Bool) (xs : List A) (m : ℕ) → m ≤ length xs → any_of p (take m xs) ≡ ltb (first_at p xs) m
  unfolding any_of first_at
  any_take p xs zero h = sym (le-ltb (first_at p xs) 0 (omega arith))
  any_take p [] (suc m) h = absurd (omega arith)
  any_take p (x ∷ xs) (suc m) h = go (p x) (any_take p xs m (omega arith))
    where
      go : (b : Bool) → any_of p (take m xs) ≡ ltb (first_at p xs) m → b || any_of p (take m xs) ≡ ltb (cond b 0 (suc (first_at p xs))) (suc m)
      go true q = sym (lt-ltb 0 (suc m) (omega arith))
      go false q = q ∙ sym (leb-suc-suc (suc (first_at p xs)) m)

  pub any_first : (p : A → Bool) (xs : List A) → any_of p xs ≡ ltb (first_at p xs) (length xs)
  unfolding any_of first_at
  any_first p [] = refl
  any_first p (x ∷ xs) = go (p x) (any_first p xs)
    where
      go : (b : Bool) → any_of p xs ≡ ltb (first_at p xs) (length xs) → b || any_of p xs ≡ ltb (cond b 0 (suc (first_at p xs))) (suc (length xs))
      go true q = sym (lt-ltb 0 (suc (length xs)) (omega arith))
      go false q = q ∙ sym (leb-suc-suc (suc (first_at p xs)) (length xs))

  -- what is found stands at that number
  pub find_first : (p : A → Bool) (xs : List A) → find p xs ≡ get_elem? xs (first_at p xs)
  unfolding find first_at
  find_first p [] = refl
  find_first p (x ∷ xs) = go (p x) (find_first p xs)
    where
      go : (b : Bool) → find p xs ≡ get_elem? xs (first_at p xs) → cond b (some x) (find p xs) ≡ get_elem? (x ∷ xs) (cond b 0 (suc (first_at p xs)))
      go true q = refl
      go false q = q

  pub find_any : (p : A → Bool) (xs : List A) → any_of p xs ≡ false → find p xs ≡ none
  unfolding find any_of
  find_any p [] e = refl
  find_any p (x ∷ xs) e = go (p x) e (λ q. find_any p xs q)
    where
      go : (b : Bool) → b || any_of p xs ≡ false → (any_of p xs ≡ false → find p xs ≡ none) → cond b (some x) (find p xs) ≡ none
      go true q ih = let z : true ≡ false = q in cc
      go false q ih = ih q

  -- what is found stands there, and passes
  pub find_some : (p : A → Bool) (xs : List A) (x d : A) → find p xs ≡ some x → (i : ℕ) × (i < length xs) × (get_or xs i d ≡ x) × (p x ≡ true)
  unfolding find
  find_some p [] x d e = let z : ◌≡◌ {A = Option A} none (some x) = e in absurd (true≢false cc)
  find_some p (y ∷ xs) x d e = go (p y) refl e (λ q. find_some p xs x d q)
    where
      go : (b : Bool) → p y ≡ b → cond b (some y) (find p xs) ≡ some x → (find p xs ≡ some x → (i : ℕ) × (i < length xs) × (get_or xs i d ≡ x) × (p x ≡ true))
          → (i : ℕ) × (i < suc (length xs)) × (get_or (y ∷ xs) i d ≡ x) × (p x ≡ true)
      go true q e ih = let z : y ≡ x = cc in (0, omega arith, z, ap p (sym z) ∙ q)
      go false q e ih = let r = ih e in let h = r.1 in (suc r.0, omega arith, r.2, r.3)

  pub find_none : (p : A → Bool) (xs : List A) → find p xs ≡ none → any_of p xs ≡ false
  unfolding find any_of
  find_none p [] e = refl
  find_none p (y ∷ xs) e = go (p y) e (λ q. find_none p xs q)
    where
      go : (b : Bool) → cond b (some y) (find p xs) ≡ none → (find p xs ≡ none → any_of p xs ≡ false) → b || any_of p xs ≡ false
      go true e ih = let z : ◌≡◌ {A = Option A} (some y) none = e in absurd (true≢false cc)
      go false e ih = ih e

module _ {A B : Type 0} where
  -- the first that passes in a list of what f gives
  pub first_at_map : (p : B → Bool) (q : A → Bool) (f : A → B) → ((x : A) → p (f x) ≡ q x) → (xs : List A) → first_at p (map f xs) ≡ first_at q xs
  unfolding first_at
  first_at_map p q f h [] = refl
  first_at_map p q f h (x ∷ xs) = rw (h x) (ap (λ (k : ℕ). cond (q x) 0 (suc k)) (first_at_map p q f h xs))

  pub each_from_nil : (i : ℕ) (f : ℕ → A → List B) → each_from i f [] ≡ []
  unfolding each_from
  each_from_nil i f = refl

  pub each_from_cons : (i : ℕ) (f : ℕ → A → List B) (x : A) (xs : List A) → each_from i f (x ∷ xs) ≡ f i x ++ each_from (suc i) f xs
  unfolding each_from
  each_from_cons i f x xs = refl

  -- from number i on: number i, and from the next on
  pub each_from_at : (f : ℕ → A → List B) (xs : List A) (i : ℕ) (d : A) → i < length xs → each_from i f (drop i xs) ≡ f i (get_or xs i d) ++ each_from (suc i) f (drop (suc i) xs)
  each_from_at f xs i d h = ap (each_from i f) (drop-cons xs i d h) ∙ each_from_cons i f (get_or xs i d) (drop (suc i) xs)

  pub each_from_end : (f : ℕ → A → List B) (xs : List A) (i : ℕ) → length xs ≤ i → each_from i f (drop i xs) ≡ []
  each_from_end f xs i h = ap (each_from i f) (drop_of_length-le xs h) ∙ each_from_nil i f

  -- so in a walk by numbers: nothing at number i, on with the next; something, and it is the first
  pub each_on : (f : ℕ → A → List B) (xs : List A) (i : ℕ) (d : A) → i < length xs → head? (f i (get_or xs i d)) ≡ none
      → head? (each_from i f (drop i xs)) ≡ head? (each_from (suc i) f (drop (suc i) xs))
  each_on f xs i d h e = ap head? (each_from_at f xs i d h) ∙ head_right (f i (get_or xs i d)) _ e

  pub each_here : (f : ℕ → A → List B) (xs : List A) (i : ℕ) (d : A) (w : B) → i < length xs → head? (f i (get_or xs i d)) ≡ some w
      → head? (each_from i f (drop i xs)) ≡ some w
  each_here f xs i d w h e = ap head? (each_from_at f xs i d h) ∙ head_left (f i (get_or xs i d)) _ w e

  pub each_end : (f : ℕ → A → List B) (xs : List A) (i : ℕ) → length xs ≤ i → head? (each_from i f (drop i xs)) ≡ none
  each_end f xs i h = ap head? (each_from_end f xs i h)
