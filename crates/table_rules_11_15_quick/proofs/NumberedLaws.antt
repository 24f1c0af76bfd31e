-- A walk to the first argument of a name, which counts.
use mathlib.Core.Path.{◌≡◌, refl, ap, ◌∙◌}
use mathlib.Core.Bool.{Bool, true, false}
use mathlib.Core.Option.{none}
use mathlib.Core.List.{List, []}
use Prim.Native.Nat.{ℕ, suc, ◌+◌, ◌≤◌}
use native.Mathlib.Omega.{arith}
use lib.ListN.{length}
use Rattle.paper_table.specs.Lists.{first_at, find}
use Rattle.paper_table.proofs.ListsLaws.{first_at_here, first_at_later}
use Rattle.table_members.specs.Members.{First}
use Rattle.table_members.proofs.FindLaws.{find_nil, find_here, find_on}
use Rattle.table_rules_11_15_quick.specs.Numbered.{FirstOf}

-- what a walk at i knows, m passed: what is found from here on is what is found of all, m numbers further
pub record Passing {A : Type 0} (p : A → Bool) (end i m : ℕ) (all left : List A) : Type 0 where
  pub within : i ≤ end
  pub few : m ≤ i
  pub found_is : find p all ≡ find p left
  pub number_is : first_at p all ≡ m + first_at p left
  pub size_is : length all ≡ m + length left

pub passing_start : {A : Type 0} (p : A → Bool) (at end : ℕ) (all : List A) → at ≤ end → Passing p end at 0 all all
passing_start p at end all h = record { within = h; few = omega arith; found_is = refl; number_is = omega arith; size_is = omega arith }

module _ {A : Type 0} (p : A → Bool) (end i m : ℕ) (all left : List A) (w : Passing p end i m all left) where
  pub passing_none : left ≡ [] → find p all ≡ none
  passing_none e = w.found_is ∙ ap (find p) e ∙ find_nil p

  module _ (start stop : ℕ) (one : A) (others : List A) (f : First i end start stop left one others) where
    size : length left ≡ suc (length others)
    size = ap (λ (xs : List A). length xs) f.all_are

    pub passing_here : p one ≡ true → FirstOf p all m one
    passing_here q =
        let e : first_at p left ≡ 0 = ap (first_at p) f.all_are ∙ first_at_here p one others q in
        record {
          number_is = omega (arith, w.number_is, e);
          below = omega (arith, w.size_is, size);
          is = w.found_is ∙ ap (find p) f.all_are ∙ find_here p one others q;
        }

    pub passing_on : p one ≡ false → Passing p end stop (m + 1) all others
    passing_on q =
        let e : first_at p left ≡ suc (first_at p others) = ap (first_at p) f.all_are ∙ first_at_later p one others q in
        record {
          within = f.lies.within;
          few = omega (arith, w.few, f.lies.begins, f.lies.order);
          found_is = w.found_is ∙ ap (find p) f.all_are ∙ find_on p one others q;
          number_is = omega (arith, w.number_is, e);
          size_is = omega (arith, w.size_is, size);
        }
