-- A numbered walk over a content, which ends at the first element that shows something.
use mathlib.Core.Path.{◌≡◌, refl, sym, ap, ◌∙◌}
use mathlib.Core.Bool.{Bool, true, false}
use mathlib.Core.Option.{Option, none, some}
use mathlib.Core.List.{List, [], ◌∷◌, ◌++◌, head?}
use Prim.Native.Nat.{ℕ, suc, ◌+◌, ◌≤◌}
use native.Mathlib.Omega.{arith}
use Rattle.paper_table.specs.Lists.{all_of, only_if, each_from}
use Rattle.paper_table.specs.Places.{Place, part_argument_at}
use Rattle.paper_table.proofs.ListsLaws.{head_right, each_from_nil, each_from_cons}
use Rattle.table_places.specs.Placed.{placed, code_place}
use Prim.{tt}
use Rattle.std.specs.Prelude.{Ok, Err}
use Rattle.table_places.specs.declared.Place.{Place as CodePlace}
use Rattle.table_members.specs.Members.{First}
use Rattle.table_types.proofs.SlimLaws.{all_head, all_tail}

-- a test's place
pub only_here : (m p a : ℕ) {r b : Bool} → r ≡ b → r ≡ true → Err (code_place (part_argument_at m p a)) ≡ placed (head? (only_if b (part_argument_at m p a)))
only_here m p a e h = rw (← e, h)

pub only_kept : (q : Place) {r b : Bool} → r ≡ b → r ≡ false → Ok tt ≡ placed (head? (only_if b q))
only_kept q e h = rw (← e, h)

-- at i, before element number k: what is shown from there on is what is shown from `at` on, and all that is left passes the test p
pub record Walking {A : Type 0} (f : ℕ → A → List Place) (p : A → Bool) (at end i k : ℕ) (all left : List A) : Type 0 where
  pub begun : at ≤ i
  pub within : i ≤ end
  pub few : k ≤ i
  pub same : head? (each_from 0 f all) ≡ head? (each_from k f left)
  pub pass : all_of p left ≡ true

pub walking_start : {A : Type 0} (f : ℕ → A → List Place) (p : A → Bool) (at end : ℕ) (all : List A) → at ≤ end → all_of p all ≡ true → Walking f p at end at 0 all all
walking_start f p at end all h e = record { begun = omega arith; within = h; few = omega arith; same = refl; pass = e }

-- a place that is none
pub placed_none : (o : Option Place) → Ok tt ≡ placed o → o ≡ none
placed_none none e = refl
placed_none (some q) e = let z : Ok tt ≡ Err (code_place q) = e in cc

-- a place of the first list is that of the two joined
pub placed_left : (xs ys : List Place) (x : CodePlace) → Err x ≡ placed (head? xs) → Err x ≡ placed (head? (xs ++ ys))
placed_left [] ys x e = let z : Err x ≡ Ok tt = e in cc
placed_left (q ∷ xs) ys x e = e

module _ {A : Type 0} {f : ℕ → A → List Place} {p : A → Bool} {at end i k : ℕ} {all left : List A} (h : Walking f p at end i k all left) where
  pub walking_none : left ≡ [] → Ok tt ≡ placed (head? (each_from 0 f all))
  walking_none e = ap placed (sym (h.same ∙ ap (λ (xs : List A). head? (each_from k f xs)) e ∙ ap head? (each_from_nil k f)))

  module _ {start stop : ℕ} {one : A} {others : List A} (w : First i end start stop left one others) where
    next : head? (each_from 0 f all) ≡ head? (f k one ++ each_from (suc k) f others)
    next = h.same ∙ ap (λ (xs : List A). head? (each_from k f xs)) w.all_are ∙ ap head? (each_from_cons k f one others)

    pub walking_pass : p one ≡ true
    walking_pass = all_head p one others (ap (all_of p) (sym w.all_are) ∙ h.pass)

    pub walking_here : (x : CodePlace) → Err x ≡ placed (head? (f k one)) → Err x ≡ placed (head? (each_from 0 f all))
    walking_here x e = placed_left (f k one) (each_from (suc k) f others) x e ∙ ap placed (sym next)

    pub walking_on : Ok tt ≡ placed (head? (f k one)) → Walking f p at end stop (k + 1) all others
    walking_on e =
        let n : k + 1 ≡ suc k = omega arith in
        record {
          begun = omega (arith, h.begun, w.lies.begins, w.lies.order);
          within = w.lies.within;
          few = omega (arith, h.few, w.lies.begins, w.lies.order);
          same = rw n (next ∙ head_right (f k one) (each_from (suc k) f others) (placed_none (head? (f k one)) e));
          pass = all_tail p one others (ap (all_of p) (sym w.all_are) ∙ h.pass);
        }
