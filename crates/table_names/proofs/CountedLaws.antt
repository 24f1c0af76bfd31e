-- One of the first so many passes: found by a walk that counts.
use mathlib.Core.Path.{◌≡◌, refl, sym, ap, ◌∙◌}
use mathlib.Core.Bool.{Bool, true, false, ◌||◌}
use mathlib.Core.List.{List, [], ◌∷◌}
use Prim.Native.Nat.{ℕ, zero, suc, ◌+◌, ◌-◌, ◌≤◌, ◌<◌}
use native.Mathlib.Omega.{arith}
use lib.ListN.{take}
use Rattle.paper_table.specs.Lists.{any_of}
use Rattle.table_members.specs.Members.{First}

module _ {A : Type 0} (p : A → Bool) where
  any_zero : (xs : List A) → any_of p (take 0 xs) ≡ false
  unfolding any_of
  any_zero xs = refl

  any_empty : (k : ℕ) → any_of p (take k []) ≡ false
  unfolding any_of
  any_empty zero = refl
  any_empty (suc k) = refl

  any_first : (k : ℕ) (x : A) (xs : List A) → 0 < k → any_of p (take k (x ∷ xs)) ≡ (p x || any_of p (take (k - 1) xs))
  unfolding any_of
  any_first zero x xs h = absurd (omega arith)
  any_first (suc k) x xs h = ap (λ (n : ℕ). p x || any_of p (take n xs)) (let e : k ≡ suc k - 1 = omega arith in e)

-- what a walk at i knows that has looked at k of the first so many
pub record Counting {A : Type 0} (p : A → Bool) (at end i count k : ℕ) (all left : List A) : Type 0 where
  pub within : i ≤ end
  pub same : any_of p (take count all) ≡ any_of p (take (count - k) left)

pub counting_start : {A : Type 0} (p : A → Bool) (at end count : ℕ) (all : List A) → at ≤ end → Counting p at end at count 0 all all
counting_start p at end count all h = record { within = h; same = ap (λ (n : ℕ). any_of p (take n all)) (let e : count ≡ count - 0 = omega arith in e) }

module _ {A : Type 0} (p : A → Bool) (at end i count k : ℕ) (all left : List A) (w : Counting p at end i count k all left) where
  pub counting_none : left ≡ [] → false ≡ any_of p (take count all)
  counting_none e = sym (w.same ∙ ap (λ (xs : List A). any_of p (take (count - k) xs)) e ∙ any_empty p (count - k))

  pub counting_end : count ≤ k → false ≡ any_of p (take count all)
  counting_end h = sym (w.same ∙ ap (λ (n : ℕ). any_of p (take n left)) (let e : count - k ≡ 0 = omega arith in e) ∙ any_zero p left)

  module _ (start stop : ℕ) (one : A) (others : List A) (f : First i end start stop left one others) (h : k < count) where
    opened : any_of p (take count all) ≡ (p one || any_of p (take (count - (k + 1)) others))
    opened =
        let e : count - k - 1 ≡ count - (k + 1) = omega arith in
        w.same ∙ ap (λ (xs : List A). any_of p (take (count - k) xs)) f.all_are ∙ any_first p (count - k) one others (omega arith) ∙ ap (λ (n : ℕ). p one || any_of p (take n others)) e

    pub counting_found : p one ≡ true → true ≡ any_of p (take count all)
    counting_found e = sym (opened ∙ rw e)

    pub counting_more : p one ≡ false → Counting p at end stop count (k + 1) all others
    counting_more e = record { within = f.lies.within; same = opened ∙ rw e }
