-- A walk from one that passes p to the next, in search of the first that passes q: how it begins, goes on and ends.
use mathlib.Core.Path.{◌≡◌, refl, sym, ◌∙◌}
use mathlib.Core.Bool.{Bool, true, false, ◌&&◌, true≢false}
use mathlib.Core.Option.{none, some}
use mathlib.Core.List.{List}
use Prim.Native.Nat.{ℕ, suc, ◌<◌, ◌≤◌}
use native.Mathlib.Decide.{dec_lt}
use native.Mathlib.Omega.{arith}
use lib.ListN.{length, drop, get_or}
use lib.Dec.{eqb}
use borrow.Author.Tests.{eqb-true, eqb-false}
use Rattle.paper_table.specs.Lists.{any_of, first_at, find, earlier}
use Rattle.query_links.specs.Links.{next_with}
use Rattle.query_links.proofs.Nexts.{next_here, next_step, next_end, next_least, next_most, next_passes, next_skips, next_all, next_jump, any_yes, any_no, find_yes, find_no, earlier_yes, earlier_no}

-- for the field `within` of a walk, and for a test that leaves out what each on the way passes
pub and_known : (a b : Bool) → a ≡ true → a && b ≡ b
and_known true b e = refl
and_known false b e = absurd (true≢false (sym e))

-- what a walk over the n elements xs knows that began at i and is at j: the first from j on is the first from i on
pub record Walk {A : Type 0} (d : A) (p q : A → Bool) (xs : List A) (n i j : ℕ) : Type 0 where
  pub counted : length xs ≡ n
  pub within : (x : A) → q x ≡ true → p x ≡ true
  pub least : i ≤ j
  pub most : j ≤ n
  pub on : j < n → p (get_or xs j d) ≡ true
  pub same : next_with q xs j ≡ next_with q xs i

module _ {A : Type 0} (d : A) (p q : A → Bool) (xs : List A) (n i : ℕ) where
  pub walk_start : (j : ℕ) → length xs ≡ n → i ≤ n → ((x : A) → q x ≡ true → p x ≡ true) → j ≡ next_with p xs i → Walk d p q xs n i j
  walk_start j e h f z = record {
    counted = e;
    within = f;
    least = omega (arith, next_least p xs i);
    most = omega (arith, next_most p xs i (omega arith));
    on = λ l. rw (← z) at (next_passes p xs d i (omega arith));
    same = rw z (next_jump p q f xs i);
  }

  module _ (j : ℕ) (w : Walk d p q xs n i j) where
    pub walk_next : (k : ℕ) → j < n → q (get_or xs j d) ≡ false → k ≡ next_with p xs (suc j) → Walk d p q xs n i k
    walk_next k l e z = record {
      counted = w.counted;
      within = w.within;
      least = omega (arith, next_least p xs (suc j));
      most = omega (arith, next_most p xs (suc j) (omega arith));
      on = λ m. rw (← z) at (next_passes p xs d (suc j) (omega arith));
      same = rw z (next_jump p q w.within xs (suc j) ∙ next_step q xs d j (omega arith) e ∙ w.same);
    }

    -- it passes here
    found : j < n → q (get_or xs j d) ≡ true → j ≡ next_with q xs i
    found l e = next_here q xs d j (omega arith) e ∙ w.same

    pub walk_any : j < n → q (get_or xs j d) ≡ true → true ≡ any_of q (drop i xs)
    walk_any l e = sym (any_yes q xs i (omega (arith, found l e)))

    pub walk_at : j < n → q (get_or xs j d) ≡ true → j ≡ next_with q xs i
    walk_at l e = found l e

    pub walk_find : j < n → q (get_or xs j d) ≡ true → find q (drop i xs) ≡ some (get_or xs j d)
    walk_find l e = rw (← found l e) at (find_yes q xs d i (omega (arith, found l e)))

    -- the walk is over
    over : n ≤ j → j ≡ next_with q xs i
    over h = next_end q xs j (omega arith) ∙ w.same

    pub end_any : n ≤ j → false ≡ any_of q (drop i xs)
    end_any h = sym (any_no q xs i (omega (arith, over h)))

    pub end_at : n ≤ j → j ≡ next_with q xs i
    end_at h = over h

    pub end_find : n ≤ j → find q (drop i xs) ≡ none
    end_find h = find_no q xs i (omega (arith, over h))

-- a walk from the start: the first of all; and one that ends before number m
module _ {A : Type 0} (d : A) (p q : A → Bool) (xs : List A) (n j : ℕ) (w : Walk d p q xs n 0 j) where
  pub walk_first : j < n → q (get_or xs j d) ≡ true → j ≡ first_at q xs
  walk_first l e = walk_at d p q xs n 0 j w l e ∙ next_all q xs

  pub end_first : n ≤ j → j ≡ first_at q xs
  end_first h = end_at d p q xs n 0 j w h ∙ next_all q xs

  pub walk_earlier : (m : ℕ) → m ≤ n → j < m → q (get_or xs j d) ≡ true → true ≡ earlier q m xs
  walk_earlier m h l e = sym (earlier_yes q xs m (omega (arith, w.counted)) (omega (arith, walk_at d p q xs n 0 j w (omega arith) e)))

  pub end_earlier : (m : ℕ) → m ≤ n → m ≤ j → false ≡ earlier q m xs
  end_earlier m h l = sym (earlier_no q xs m (omega (arith, w.counted)) (omega (arith, w.same, next_least q xs j)))

-- What a walk that passes over all of p has done: D holds of each that passes p, from i up to j.
pub record Each {A : Type 0} (d : A) (p : A → Bool) (xs : List A) (D : ℕ → Type 0) (n i j : ℕ) : Type 0 where
  pub counted : length xs ≡ n
  pub most : j ≤ n
  pub on : j < n → p (get_or xs j d) ≡ true
  pub done : (k : ℕ) → i ≤ k → k < j → p (get_or xs k d) ≡ true → D k

module _ {A : Type 0} (d : A) (p : A → Bool) (xs : List A) (n i : ℕ) where
  pub each_start : (D : ℕ → Type 0) (j : ℕ) → length xs ≡ n → i ≤ n → j ≡ next_with p xs i → Each d p xs D n i j
  each_start D j e h z = record {
    counted = e;
    most = omega (arith, next_most p xs i (omega arith));
    on = λ l. rw (← z) at (next_passes p xs d i (omega arith));
    done = λ k u v t. absurd (true≢false (sym t ∙ next_skips p xs d i k u (omega arith)));
  }

  -- what was done stays done, j is done
  pub each_next : (D D' : ℕ → Type 0) (j k : ℕ) → Each d p xs D n i j → j < n → ((m : ℕ) → D m → D' m) → D' j → k ≡ next_with p xs (suc j) → Each d p xs D' n i k
  each_next D D' j k w l f x z = record {
    counted = w.counted;
    most = omega (arith, w.counted, w.most, next_most p xs (suc j) (omega (arith, w.counted)));
    on = λ m. rw (← z) at (next_passes p xs d (suc j) (omega (arith, w.counted)));
    done = λ m u v t. go m u v t (eqb m j) refl (dec_lt m j);
  }
    where
      go : (m : ℕ) → i ≤ m → m < k → p (get_or xs m d) ≡ true → (b : Bool) → eqb m j ≡ b → Dec (m < j) → D' m
      go m u v t true e o = rw (eqb-true m j e) x
      go m u v t false e (yes o) = f m (w.done m u o t)
      go m u v t false e (no o) =
          let y : m ≡ j → ⊥ = eqb-false m j e in
          absurd (true≢false (sym t ∙ next_skips p xs d (suc j) m (omega arith) (omega arith)))

  pub each_end : (D : ℕ → Type 0) (j : ℕ) → Each d p xs D n i j → n ≤ j → (k : ℕ) → i ≤ k → k < n → p (get_or xs k d) ≡ true → D k
  each_end D j w h k u v t = w.done k u (omega arith) t
