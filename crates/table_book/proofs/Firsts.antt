-- The first of a list's entries that passes a test.
use mathlib.Core.Path.{◌≡◌, refl, sym, ap, ◌∙◌}
use mathlib.Core.Bool.{Bool, true, false}
use mathlib.Core.List.{List, [], ◌∷◌}
use Prim.Native.Nat.{ℕ, suc, ◌+◌, ◌<◌, ◌≤◌}
use native.Mathlib.Nat.{add-zero, add_assoc, zero-add}
use native.Mathlib.Omega.{arith}
use lib.ListN.{length, drop, get_or, drop_of_length-le, length-drop}
use lib.Seq.{drop-cons, drop-drop, get_or-drop}
use Rattle.paper_table.specs.Lists.{first_at}
use Rattle.paper_table.proofs.ListsLaws.{first_at_here, first_at_later, first_at_most}
use Rattle.table_book.specs.Book.{Key, no_key, first_from}

abbrev Test : Type 0
Test = Key → Bool

at_nil : (p : Test) → first_at p [] ≡ 0
unfolding first_at
at_nil p = refl

-- it passes at i
pub first_here : (p : Test) (keys : List Key) (i : ℕ) → i < length keys → p (get_or keys i no_key) ≡ true → i ≡ first_from p keys i
unfolding first_from
first_here p keys i h e = rw (drop-cons keys i no_key h, first_at_here p (get_or keys i no_key) (drop (suc i) keys) e) (sym (add-zero i))

-- it does not pass at i
pub first_step : (p : Test) (keys : List Key) (i : ℕ) → i < length keys → p (get_or keys i no_key) ≡ false → first_from p keys (suc i) ≡ first_from p keys i
unfolding first_from
first_step p keys i h e = rw (drop-cons keys i no_key h, first_at_later p (get_or keys i no_key) (drop (suc i) keys) e) (omega arith)

pub first_end : (p : Test) (keys : List Key) (i : ℕ) → length keys ≤ i → i ≡ first_from p keys i
unfolding first_from
first_end p keys i h = rw (drop_of_length-le keys h, at_nil p) (sym (add-zero i))

pub first_all : (p : Test) (keys : List Key) → first_from p keys 0 ≡ first_at p keys
unfolding first_from
first_all p keys = zero-add (first_at p keys)

pub first_most : (p : Test) (keys : List Key) (i : ℕ) → i ≤ length keys → first_from p keys i ≤ length keys
unfolding first_from
first_most p keys i h = omega (arith, first_at_most p (drop i keys), length-drop i keys)

pub first_least : (p : Test) (keys : List Key) (i : ℕ) → i ≤ first_from p keys i
unfolding first_from
first_least p keys i = omega arith

-- what fails q fails p: to the first that passes q nothing passes p
jump : (p q : Test) (xs : List Key) → ((x : Key) → q x ≡ false → p x ≡ false) → first_at q xs + first_at p (drop (first_at q xs) xs) ≡ first_at p xs
unfolding first_at
jump p q [] f = refl
jump p q (x ∷ xs) f = let ih : first_at q xs + first_at p (drop (first_at q xs) xs) ≡ first_at p xs = jump p q xs f in go (q x) refl ih
  where
    go : (b : Bool) → q x ≡ b → first_at q xs + first_at p (drop (first_at q xs) xs) ≡ first_at p xs → first_at q (x ∷ xs) + first_at p (drop (first_at q (x ∷ xs)) (x ∷ xs)) ≡ first_at p (x ∷ xs)
    go true e ih = rw (first_at_here q x xs e) (zero-add (first_at p (x ∷ xs)))
    go false e ih =
        rw (first_at_later q x xs e, first_at_later p x xs (f x e)) (omega arith)

pub first_jump : (p q : Test) (keys : List Key) (i : ℕ) → ((x : Key) → q x ≡ false → p x ≡ false) → first_from p keys (first_from q keys i) ≡ first_from p keys i
unfolding first_from
first_jump p q keys i f = rw (← (drop-drop (first_at q (drop i keys)) i keys)) (add_assoc i (first_at q (drop i keys)) (first_at p (drop (first_at q (drop i keys)) (drop i keys))) ∙ ap (λ (k : ℕ). i + k) (jump p q (drop i keys) f))

passes : (q : Test) (xs : List Key) → first_at q xs < length xs → q (get_or xs (first_at q xs) no_key) ≡ true
unfolding first_at
passes q [] h = absurd (omega arith)
passes q (x ∷ xs) h = go (q x) refl h (λ r. passes q xs r)
  where
    go : (b : Bool) → q x ≡ b → first_at q (x ∷ xs) < length (x ∷ xs) → (first_at q xs < length xs → q (get_or xs (first_at q xs) no_key) ≡ true) → q (get_or (x ∷ xs) (first_at q (x ∷ xs)) no_key) ≡ true
    go true e h ih = rw (first_at_here q x xs e) e
    go false e h ih =
        rw (first_at_later q x xs e) (ih (omega (arith, first_at_later q x xs e)))

-- the first that passes does pass
pub first_passes : (q : Test) (keys : List Key) (i : ℕ) → first_from q keys i < length keys → q (get_or keys (first_from q keys i) no_key) ≡ true
unfolding first_from
first_passes q keys i h = rw (get_or-drop i keys (first_at q (drop i keys)) no_key) at (passes q (drop i keys) (omega (arith, length-drop i keys)))
