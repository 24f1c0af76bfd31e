-- The first from a number on that passes a test.
use mathlib.Core.Path.{◌≡◌, refl, sym, ap, ◌∙◌}
use mathlib.Core.Bool.{Bool, true, false, true≢false}
use mathlib.Core.Option.{none, some}
use mathlib.Core.List.{List, [], ◌∷◌}
use Prim.Native.Nat.{ℕ, zero, suc, ◌+◌, ◌-◌, ◌<◌, ◌≤◌}
use native.Mathlib.Nat.{add-zero, add_assoc, zero-add}
use native.Mathlib.Decide.{dec_lt}
use native.Mathlib.Omega.{arith}
use lib.ListN.{length, drop, get_or, get_elem?, drop_of_length-le, length-drop}
use lib.Seq.{drop-cons, drop-drop, get_or-drop}
use borrow.Author.Tests.{lt-ltb, le-ltb}
use Rattle.paper_table.specs.Lists.{any_of, first_at, find, earlier}
use Rattle.paper_table.proofs.ListsLaws.{first_at_here, first_at_later, first_at_most, any_take, any_first, find_first, find_any}
use Rattle.query_links.specs.Links.{next_with}

module _ {A : Type 0} where
  at_nil : (p : A → Bool) → first_at p [] ≡ 0
  unfolding first_at
  at_nil p = refl

  passes : (p : A → Bool) (d : A) (xs : List A) → first_at p xs < length xs → p (get_or xs (first_at p xs) d) ≡ true
  unfolding first_at
  passes p d [] h = absurd (omega arith)
  passes p d (x ∷ xs) h = go (p x) refl h (λ r. passes p d xs r)
    where
      go : (b : Bool) → p x ≡ b → first_at p (x ∷ xs) < length (x ∷ xs) → (first_at p xs < length xs → p (get_or xs (first_at p xs) d) ≡ true) → p (get_or (x ∷ xs) (first_at p (x ∷ xs)) d) ≡ true
      go true e h ih = rw (first_at_here p x xs e) e
      go false e h ih =
          rw (first_at_later p x xs e) (ih (omega (arith, first_at_later p x xs e)))

  skips : (p : A → Bool) (d : A) (xs : List A) (k : ℕ) → k < first_at p xs → p (get_or xs k d) ≡ false
  unfolding first_at
  skips p d [] k h = absurd (omega arith)
  skips p d (x ∷ xs) k h = go (p x) refl k h (λ i. skips p d xs i)
    where
      go : (b : Bool) → p x ≡ b → (k : ℕ) → k < first_at p (x ∷ xs) → ((i : ℕ) → i < first_at p xs → p (get_or xs i d) ≡ false) → p (get_or (x ∷ xs) k d) ≡ false
      go true e k h ih = absurd (omega (arith, first_at_here p x xs e))
      go false e zero h ih = e
      go false e (suc k) h ih = ih k (omega (arith, first_at_later p x xs e))

  element : (d : A) (xs : List A) (i : ℕ) → i < length xs → get_elem? xs i ≡ some (get_or xs i d)
  element d [] i h = absurd (omega arith)
  element d (x ∷ xs) zero h = refl
  element d (x ∷ xs) (suc i) h = element d xs i (omega arith)

  -- what fails p fails q: to the first that passes p nothing passes q
  jump : (p q : A → Bool) (xs : List A) → ((x : A) → p x ≡ false → q x ≡ false) → first_at p xs + first_at q (drop (first_at p xs) xs) ≡ first_at q xs
  unfolding first_at
  jump p q [] f = refl
  jump p q (x ∷ xs) f = go (p x) refl (jump p q xs f)
    where
      go : (b : Bool) → p x ≡ b → first_at p xs + first_at q (drop (first_at p xs) xs) ≡ first_at q xs → first_at p (x ∷ xs) + first_at q (drop (first_at p (x ∷ xs)) (x ∷ xs)) ≡ first_at q (x ∷ xs)
      go true e ih = rw (first_at_here p x xs e) (zero-add (first_at q (x ∷ xs)))
      go false e ih =
          rw (first_at_later p x xs e, first_at_later q x xs (f x e)) (omega arith)

module _ {A : Type 0} (p : A → Bool) (xs : List A) where
  -- it passes at i
  pub next_here : (d : A) (i : ℕ) → i < length xs → p (get_or xs i d) ≡ true → i ≡ next_with p xs i
  unfolding next_with
  next_here d i h e = rw (drop-cons xs i d h, first_at_here p (get_or xs i d) (drop (suc i) xs) e) (sym (add-zero i))

  -- it does not pass at i
  pub next_step : (d : A) (i : ℕ) → i < length xs → p (get_or xs i d) ≡ false → next_with p xs (suc i) ≡ next_with p xs i
  unfolding next_with
  next_step d i h e = rw (drop-cons xs i d h, first_at_later p (get_or xs i d) (drop (suc i) xs) e) (omega arith)

  pub next_end : (i : ℕ) → length xs ≤ i → i ≡ next_with p xs i
  unfolding next_with
  next_end i h = rw (drop_of_length-le xs h, at_nil p) (sym (add-zero i))

  pub next_least : (i : ℕ) → i ≤ next_with p xs i
  unfolding next_with
  next_least i = omega arith

  pub next_most : (i : ℕ) → i ≤ length xs → next_with p xs i ≤ length xs
  unfolding next_with
  next_most i h = omega (arith, first_at_most p (drop i xs), length-drop i xs)

  -- the first that passes does pass, and none before it
  pub next_passes : (d : A) (i : ℕ) → next_with p xs i < length xs → p (get_or xs (next_with p xs i) d) ≡ true
  unfolding next_with
  next_passes d i h = rw (get_or-drop i xs (first_at p (drop i xs)) d) at (passes p d (drop i xs) (omega (arith, length-drop i xs)))

  pub next_skips : (d : A) (i k : ℕ) → i ≤ k → k < next_with p xs i → p (get_or xs k d) ≡ false
  unfolding next_with
  next_skips d i k h l =
      let m : i + (k - i) ≡ k = omega arith in
      rw m at (rw (get_or-drop i xs (k - i) d) at (skips p d (drop i xs) (k - i) (omega arith)))

  -- from the start it is the first of all
  pub next_all : next_with p xs 0 ≡ first_at p xs
  unfolding next_with
  next_all = zero-add (first_at p xs)

  -- one passes from i on; the first of these
  pub any_yes : (i : ℕ) → next_with p xs i < length xs → any_of p (drop i xs) ≡ true
  unfolding next_with
  any_yes i h = any_first p (drop i xs) ∙ lt-ltb (first_at p (drop i xs)) (length (drop i xs)) (omega (arith, length-drop i xs))

  pub any_no : (i : ℕ) → length xs ≤ next_with p xs i → any_of p (drop i xs) ≡ false
  unfolding next_with
  any_no i h = any_first p (drop i xs) ∙ le-ltb (first_at p (drop i xs)) (length (drop i xs)) (omega (arith, length-drop i xs))

  pub find_yes : (d : A) (i : ℕ) → next_with p xs i < length xs → find p (drop i xs) ≡ some (get_or xs (next_with p xs i) d)
  unfolding next_with
  find_yes d i h =
      find_first p (drop i xs) ∙ element d (drop i xs) (first_at p (drop i xs)) (omega (arith, length-drop i xs))
      ∙ ap some (get_or-drop i xs (first_at p (drop i xs)) d)

  pub find_no : (i : ℕ) → length xs ≤ next_with p xs i → find p (drop i xs) ≡ none
  find_no i h = find_any p (drop i xs) (any_no i h)

  -- one passes before number m
  pub earlier_yes : (m : ℕ) → m ≤ length xs → next_with p xs 0 < m → earlier p m xs ≡ true
  earlier_yes m h l = any_take p xs m h ∙ lt-ltb (first_at p xs) m (omega (arith, next_all))

  pub earlier_no : (m : ℕ) → m ≤ length xs → m ≤ next_with p xs 0 → earlier p m xs ≡ false
  earlier_no m h l = any_take p xs m h ∙ le-ltb (first_at p xs) m (omega (arith, next_all))

-- what passes q passes p too: so a search for q may go from one that passes p to the next
module _ {A : Type 0} (p q : A → Bool) (f : (x : A) → q x ≡ true → p x ≡ true) where
  fails : (x : A) → p x ≡ false → q x ≡ false
  fails x e = go (q x) refl
    where
      go : (b : Bool) → q x ≡ b → q x ≡ false
      go true u = absurd (true≢false (sym (f x u) ∙ e))
      go false u = u

  pub next_jump : (xs : List A) (i : ℕ) → next_with q xs (next_with p xs i) ≡ next_with q xs i
  unfolding next_with
  next_jump xs i =
      rw (← (drop-drop (first_at p (drop i xs)) i xs))
      (add_assoc i (first_at p (drop i xs)) (first_at q (drop (first_at p (drop i xs)) (drop i xs))) ∙ ap (λ (k : ℕ). i + k) (jump p q (drop i xs) fails))

  pub any_jump : (xs : List A) (i : ℕ) → any_of q (drop i xs) ≡ any_of q (drop (next_with p xs i) xs)
  any_jump xs i = go (dec_lt (next_with q xs i) (length xs))
    where
      go : Dec (next_with q xs i < length xs) → any_of q (drop i xs) ≡ any_of q (drop (next_with p xs i) xs)
      go (yes h) = any_yes q xs i h ∙ sym (any_yes q xs (next_with p xs i) (omega (arith, next_jump xs i)))
      go (no h) = any_no q xs i (omega arith) ∙ sym (any_no q xs (next_with p xs i) (omega (arith, next_jump xs i)))

  pub find_jump : (d : A) (xs : List A) (i : ℕ) → find q (drop i xs) ≡ find q (drop (next_with p xs i) xs)
  find_jump d xs i = go (dec_lt (next_with q xs i) (length xs))
    where
      go : Dec (next_with q xs i < length xs) → find q (drop i xs) ≡ find q (drop (next_with p xs i) xs)
      go (yes h) = find_yes q xs d i h ∙ sym (rw (next_jump xs i) at (find_yes q xs d (next_with p xs i) (omega (arith, next_jump xs i))))
      go (no h) = find_no q xs i (omega arith) ∙ sym (find_no q xs (next_with p xs i) (omega (arith, next_jump xs i)))
