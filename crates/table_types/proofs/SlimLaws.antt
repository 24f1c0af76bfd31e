-- What holds of each element of a list holds of those found in it.
use mathlib.Core.Path.{◌≡◌, refl, sym, ap, ◌∙◌}
use mathlib.Core.Bool.{Bool, true, false, cond}
use mathlib.Core.Option.{Option, none, some}
use mathlib.Core.List.{List, [], ◌∷◌}
use Prim.Native.Nat.{ℕ, zero, suc, ◌≤◌, ◌<◌}
use native.Mathlib.Omega.{arith}
use lib.ListN.{length, get_or}
use lib.Dec.{leb}
use borrow.Author.Tests.{leb-true}
use Rattle.paper.proofs.Bools.{and_left, and_right}
use Rattle.paper.specs.Numbers.{most_wrappers}
use Rattle.paper_table.specs.Lists.{all_of, find}
use Rattle.paper_table.specs.Types.{Argument, Member, Definition, table_of}
use Rattle.paper_table.proofs.ReferenceSizes.{wrappers as wrapperCount}
use Rattle.table_book.specs.Book.{count_in}
use Rattle.table_members.specs.Members.{members_in}
use Rattle.table_types.specs.Booked.{Booked, start_in, end_in}
use Rattle.table_types.specs.Sizes.{slim_argument, slim_member, slim_definition, Slim}

module _ {A : Type 0} (p : A → Bool) where
  pub all_head : (x : A) (xs : List A) → all_of p (x ∷ xs) ≡ true → p x ≡ true
  unfolding all_of
  all_head x xs e = and_left (p x) (all_of p xs) e

  pub all_tail : (x : A) (xs : List A) → all_of p (x ∷ xs) ≡ true → all_of p xs ≡ true
  unfolding all_of
  all_tail x xs e = and_right (p x) (all_of p xs) e

  pub all_at : (xs : List A) (i : ℕ) (d : A) → i < length xs → all_of p xs ≡ true → p (get_or xs i d) ≡ true
  all_at [] i d h e = absurd (omega arith)
  all_at (x ∷ xs) zero d h e = all_head x xs e
  all_at (x ∷ xs) (suc i) d h e = all_at xs i d (omega arith) (all_tail x xs e)

  pub all_found : (q : A → Bool) (xs : List A) (x : A) → find q xs ≡ some x → all_of p xs ≡ true → p x ≡ true
  unfolding find
  all_found q [] x f e = let z : ◌≡◌ {A = Option A} none (some x) = f in cc
  all_found q (y ∷ xs) x f e = go (q y) f (λ g. all_found q xs x g (all_tail y xs e))
    where
      here : ◌≡◌ {A = Option A} (some y) (some x) → p x ≡ true
      here g = let z : y ≡ x = cc in rw (← z) (all_head y xs e)

      go : (b : Bool) → cond b (some y) (find q xs) ≡ some x → (find q xs ≡ some x → p x ≡ true) → p x ≡ true
      go true g ih = here g
      go false g ih = ih g

pub all_any : {A : Type 0} (xs : List A) → all_of (λ x. true) xs ≡ true
unfolding all_of
all_any [] = refl
all_any (x ∷ xs) = all_any xs

pub slim_argument_is : (x : Argument) → slim_argument x ≡ true → wrapperCount x.type ≤ most_wrappers
slim_argument_is x e = leb-true (wrapperCount x.type) most_wrappers e

pub slim_type : (e : Member) → slim_member e ≡ true → wrapperCount e.type ≤ most_wrappers
slim_type e h = leb-true (wrapperCount e.type) most_wrappers (and_left (leb (wrapperCount e.type) most_wrappers) (all_of slim_argument e.arguments) h)

pub slim_arguments : (e : Member) → slim_member e ≡ true → all_of slim_argument e.arguments ≡ true
slim_arguments e h = and_right (leb (wrapperCount e.type) most_wrappers) (all_of slim_argument e.arguments) h

-- the members of a table's definition, by its entry in the book
pub entry_slim : (t book : List ℕ) (b : Booked t book) → Slim (table_of t) → (i : ℕ) → i < count_in book → all_of slim_member (members_in t (start_in book i) (end_in book i)) ≡ true
entry_slim t book b s i h =
    ap (λ (d : Definition). all_of slim_member d.members) (sym (b.entered i h).is) ∙ all_at slim_definition (table_of t) i _ (let c = b.count in omega (arith, h, c)) s
