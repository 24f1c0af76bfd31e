-- How chains are made: all are ended, then one more from the last to the first is put in front of the chain of its key.
use mathlib.Core.Path.{◌≡◌, refl, sym, ap, ◌∙◌}
use mathlib.Core.Bool.{Bool, true, false}
use mathlib.Core.List.{List}
use Prim.Native.Nat.{ℕ, suc, ◌<◌, ◌≤◌}
use native.Mathlib.Omega.{arith}
use lib.ListN.{length, get_or, set, replicate, length-set, length-replicate, get_or-replicate}
use lib.Seq.{get_or-set_same, get_or-set_other}
use lib.Dec.{eqb}
use borrow.Author.Tests.{eq-eqb, ne_eqb, eqb-true, eqb-false}
use Rattle.paper.specs.Numbers.{most_rows}
use Rattle.query_rows.specs.Rowed.{room_of}
use Rattle.query_rows.proofs.Rooms.{room_enough}
use Rattle.query_links.specs.Links.{next_with}
use Rattle.query_links.proofs.Nexts.{next_here, next_step, next_end}

-- of this key
abbrev pub keyed : {A : Type 0} → (A → ℕ) → ℕ → A → Bool
keyed key k x = eqb (key x) k

-- the elements from number i on are linked by their keys; keys from `size` on are not
pub record Chains {A : Type 0} (d : A) (key : A → ℕ) (size : ℕ) (xs : List A) (first next : List ℕ) (i : ℕ) : Type 0 where
  pub firsts : length first ≡ size
  pub nexts : length next ≡ room_of (length xs)
  pub few : length xs ≤ most_rows
  pub least : i ≤ length xs
  pub head : (k : ℕ) → k < size → get_or first k 0 ≡ next_with (keyed key k) xs i
  pub tail : (j : ℕ) → i ≤ j → j < length xs → key (get_or xs j d) < size → get_or next j 0 ≡ next_with (keyed key (key (get_or xs j d))) xs (suc j)

module _ {A : Type 0} (d : A) (key : A → ℕ) (size : ℕ) (xs : List A) where
  pub chains_none : (first next : List ℕ) (n : ℕ) → n ≡ length xs → n ≤ most_rows → length next ≡ room_of n → first ≡ replicate size n → Chains d key size xs first next n
  chains_none first next n e m l f = record {
    firsts = ap length f ∙ length-replicate size n;
    nexts = l ∙ ap room_of e;
    few = omega arith;
    least = omega arith;
    head = λ k w. ap (λ (z : List ℕ). get_or z k 0) f ∙ get_or-replicate size k n 0 w ∙ next_end (keyed key k) xs n (omega arith);
    tail = λ j u v w. absurd (omega arith);
  }

  module _ (first next first' next' : List ℕ) (i j k : ℕ) (c : Chains d key size xs first next i) (z : i ≡ suc j) (e : k ≡ key (get_or xs j d)) where
    -- element j has a key that is not linked
    pub chains_skip : size ≤ k → Chains d key size xs first next j
    chains_skip h = record {
      firsts = c.firsts;
      nexts = c.nexts;
      few = c.few;
      least = omega (arith, c.least);
      head = λ m w. c.head m w ∙ rw z (next_step (keyed key m) xs d j (omega (arith, c.least)) (ne_eqb (key (get_or xs j d)) m (λ q. omega arith)));
      tail = λ m u v w. go m u v w (eqb m j) refl;
    }
      where
        go : (m : ℕ) → j ≤ m → m < length xs → key (get_or xs m d) < size → (b : Bool) → eqb m j ≡ b → get_or next m 0 ≡ next_with (keyed key (key (get_or xs m d))) xs (suc m)
        go m u v w true q = absurd (omega (arith, ap (λ (y : ℕ). key (get_or xs y d)) (eqb-true m j q)))
        go m u v w false q = c.tail m (let y : m ≡ j → ⊥ = eqb-false m j q in omega arith) v w

    -- it is put in front of the chain of its key
    module _ (h : k < size) (f : first' ≡ set first k j) (g : next' ≡ set next j (get_or first k 0)) where
      in_room : j < length next
      in_room = omega (arith, c.least, c.nexts, room_enough (length xs) c.few)

      new_head : (m : ℕ) → m < size → get_or first' m 0 ≡ next_with (keyed key m) xs j
      new_head m w = rw f (go (eqb m k) refl)
        where
          go : (b : Bool) → eqb m k ≡ b → get_or (set first k j) m 0 ≡ next_with (keyed key m) xs j
          go true q =
              rw (eqb-true m k q)
              (get_or-set_same first k j 0 (omega (arith, c.firsts)) ∙ next_here (keyed key k) xs d j (omega (arith, c.least)) (eq-eqb (key (get_or xs j d)) k (sym e)))
          go false q =
              let y : m ≡ k → ⊥ = eqb-false m k q in
              get_or-set_other first k m j 0 y ∙ c.head m w
              ∙ rw z (next_step (keyed key m) xs d j (omega (arith, c.least)) (ne_eqb (key (get_or xs j d)) m (λ r. y (sym (e ∙ r)))))

      new_tail : (m : ℕ) → j ≤ m → m < length xs → key (get_or xs m d) < size → get_or next' m 0 ≡ next_with (keyed key (key (get_or xs m d))) xs (suc m)
      new_tail m u v w = rw g (go (eqb m j) refl)
        where
          go : (b : Bool) → eqb m j ≡ b → get_or (set next j (get_or first k 0)) m 0 ≡ next_with (keyed key (key (get_or xs m d))) xs (suc m)
          go true q =
              rw (eqb-true m j q, ← e, ← z) (get_or-set_same next j (get_or first k 0) 0 in_room ∙ c.head k h)
          go false q =
              let y : m ≡ j → ⊥ = eqb-false m j q in
              get_or-set_other next j m (get_or first k 0) 0 y ∙ c.tail m (omega arith) v w

      pub chains_more : Chains d key size xs first' next' j
      chains_more = record {
        firsts = ap length f ∙ length-set first k j ∙ c.firsts;
        nexts = ap length g ∙ length-set next j (get_or first k 0) ∙ c.nexts;
        few = c.few;
        least = omega (arith, c.least);
        head = new_head;
        tail = new_tail;
      }
