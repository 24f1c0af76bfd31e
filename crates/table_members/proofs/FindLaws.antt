-- The first member, or argument, of a name; an implemented name.
use mathlib.Core.Path.{◌≡◌, refl, sym, ap, ◌∙◌}
use mathlib.Core.Bool.{Bool, true, false}
use mathlib.Core.Option.{none, some}
use mathlib.Core.List.{List, [], ◌∷◌}
use Prim.Native.Nat.{ℕ, ◌≤◌, ◌<◌}
use native.Mathlib.Omega.{arith}
use Rattle.paper_table.specs.Lists.{any_of, find}
use Rattle.table_members.specs.Members.{First, Finds}

pub find_nil : {A : Type 0} (p : A → Bool) → find p [] ≡ none
unfolding find
find_nil p = refl

pub find_here : {A : Type 0} (p : A → Bool) (x : A) (xs : List A) → p x ≡ true → find p (x ∷ xs) ≡ some x
unfolding find
find_here p x xs e = rw e

pub find_on : {A : Type 0} (p : A → Bool) (x : A) (xs : List A) → p x ≡ false → find p (x ∷ xs) ≡ find p xs
unfolding find
find_on p x xs e = rw e

any_nil : {A : Type 0} (p : A → Bool) → any_of p [] ≡ false
unfolding any_of
any_nil p = refl

any_here : {A : Type 0} (p : A → Bool) (x : A) (xs : List A) → p x ≡ true → any_of p (x ∷ xs) ≡ true
unfolding any_of
any_here p x xs e = rw e

any_on : {A : Type 0} (p : A → Bool) (x : A) (xs : List A) → p x ≡ false → any_of p (x ∷ xs) ≡ any_of p xs
unfolding any_of
any_on p x xs e = rw e

-- what a search at i knows: what is found from there on is what is found from `at` on
pub record Sought {B : Type 0} (at end i : ℕ) (all left : B) : Type 0 where
  pub begun : at ≤ i
  pub within : i ≤ end
  pub same : all ≡ left

pub sought_start : {B : Type 0} (at end : ℕ) (all : B) → at ≤ end → Sought at end at all all
sought_start at end all h = record { begun = omega arith; within = h; same = refl }

module _ {A : Type 0} (p : A → Bool) (at end i : ℕ) (all left : List A) where
  module _ (h : Sought at end i (find p all) (find p left)) where
    pub find_none : left ≡ [] → find p all ≡ none
    find_none e = h.same ∙ ap (find p) e ∙ find_nil p

    module _ (start stop : ℕ) (one : A) (others : List A) (f : First i end start stop left one others) where
      pub find_found : p one ≡ true → Finds at end start stop (find p all) one
      find_found e = record {
        lies = record { begins = omega (arith, h.begun, f.lies.begins); order = f.lies.order; within = f.lies.within };
        is = h.same ∙ ap (find p) f.all_are ∙ find_here p one others e;
      }

      pub find_more : p one ≡ false → Sought at end stop (find p all) (find p others)
      find_more e = record {
        begun = omega (arith, h.begun, f.lies.begins, f.lies.order);
        within = f.lies.within;
        same = h.same ∙ ap (find p) f.all_are ∙ find_on p one others e;
      }

  module _ (h : Sought at end i (any_of p all) (any_of p left)) where
    pub any_none : left ≡ [] → false ≡ any_of p all
    any_none e = sym (h.same ∙ ap (any_of p) e ∙ any_nil p)

    module _ (start stop : ℕ) (one : A) (others : List A) (f : First i end start stop left one others) where
      pub any_found : p one ≡ true → true ≡ any_of p all
      any_found e = sym (h.same ∙ ap (any_of p) f.all_are ∙ any_here p one others e)

      pub any_more : p one ≡ false → Sought at end stop (any_of p all) (any_of p others)
      any_more e = record {
        begun = omega (arith, h.begun, f.lies.begins, f.lies.order);
        within = f.lies.within;
        same = h.same ∙ ap (any_of p) f.all_are ∙ any_on p one others e;
      }

pub first_moves : {A : Type 0} (i end start stop : ℕ) (all : List A) (one : A) (others : List A) → First i end start stop all one others → i < stop
first_moves i end start stop all one others f = omega (arith, f.lies.begins, f.lies.order)
