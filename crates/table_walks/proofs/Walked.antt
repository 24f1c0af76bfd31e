-- A walk by numbers over what stands in a content: the first place that it meets.
use mathlib.Core.Path.{◌≡◌, refl, sym, ap, ◌∙◌}
use mathlib.Core.Bool.{Bool, true, false}
use mathlib.Core.Option.{Option, none, some}
use mathlib.Core.List.{List, [], ◌∷◌, ◌++◌, head?}
use Prim.Native.Nat.{ℕ, suc, ◌+◌, ◌≤◌}
use native.Mathlib.Omega.{arith}
use Rattle.paper_table.specs.Lists.{each_from, each, only_if}
use Rattle.paper_table.specs.Places.{Place}
use Rattle.paper_table.proofs.ListsLaws.{head_right, each_from_nil, each_from_cons}
use Rattle.table_members.specs.Members.{First}
use Rattle.table_places.specs.Placed.{placed, code_place}
use Prim.{tt}
use Rattle.std.specs.Prelude.{Ok, Err}
use Rattle.table_places.specs.declared.Place.{Place as CodePlace}

-- Ok is said of no place
pub kept_none : (o : Option Place) → Ok tt ≡ placed o → o ≡ none
kept_none none e = refl
kept_none (some q) e = let z : Ok tt ≡ Err (code_place q) = e in cc

-- a test's place
pub only_true : (b : Bool) (q : Place) → b ≡ true → Err (code_place q) ≡ placed (head? (only_if b q))
only_true b q e = rw e refl

pub only_false : (b : Bool) (q : Place) → b ≡ false → Ok tt ≡ placed (head? (only_if b q))
only_false b q e = rw e refl

-- places of two lists: the first's, or else the second's
pub placed_left : (xs ys : List Place) (x : CodePlace) → Err x ≡ placed (head? xs) → Err x ≡ placed (head? (xs ++ ys))
placed_left [] ys x e = let z : Err x ≡ Ok tt = e in cc
placed_left (q ∷ xs) ys x e = e

pub placed_right : (xs ys : List Place) → Ok tt ≡ placed (head? xs) → placed (head? (xs ++ ys)) ≡ placed (head? ys)
placed_right xs ys e = ap placed (head_right xs ys (kept_none (head? xs) e))

-- what a walk at i knows, where m were met: what is met first from there on is what is met first of all
pub record Walking {A : Type 0} (f : ℕ → A → List Place) (at end i m : ℕ) (all left : List A) : Type 0 where
  pub begun : at + m ≤ i
  pub within : i ≤ end
  pub same : placed (head? (each f all)) ≡ placed (head? (each_from m f left))

module _ {A : Type 0} (f : ℕ → A → List Place) where
  pub walking_start : (at end : ℕ) (all : List A) → at ≤ end → Walking f at end at 0 all all
  walking_start at end all h = record { begun = omega arith; within = h; same = refl }

  module _ (at end i m : ℕ) (all left : List A) (w : Walking f at end i m all left) where
    pub walking_end : left ≡ [] → Ok tt ≡ placed (head? (each f all))
    walking_end e = sym (w.same ∙ ap (λ (xs : List A). placed (head? (each_from m f xs))) e ∙ ap (λ (ps : List Place). placed (head? ps)) (each_from_nil m f))

    module _ (start stop : ℕ) (one : A) (others : List A) (n : First i end start stop left one others) where
      opened : placed (head? (each f all)) ≡ placed (head? (f m one ++ each_from (suc m) f others))
      opened = w.same ∙ ap (λ (xs : List A). placed (head? (each_from m f xs))) n.all_are ∙ ap (λ (ps : List Place). placed (head? ps)) (each_from_cons m f one others)

      pub walking_here : (x : CodePlace) → Err x ≡ placed (head? (f m one)) → Err x ≡ placed (head? (each f all))
      walking_here x e = placed_left (f m one) (each_from (suc m) f others) x e ∙ sym opened

      pub walking_on : Ok tt ≡ placed (head? (f m one)) → Walking f at end stop (m + 1) all others
      walking_on e = record {
        begun = omega (arith, w.begun, n.lies.begins, n.lies.order);
        within = n.lies.within;
        same =
            opened ∙ placed_right (f m one) (each_from (suc m) f others) e
            ∙ ap (λ (k : ℕ). placed (head? (each_from k f others))) (let q : suc m ≡ m + 1 = omega arith in q);
      }
