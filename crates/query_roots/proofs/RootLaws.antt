-- The roots of a table: where record 8 stands, and what its members are.
use mathlib.Core.Path.{◌≡◌, refl, ap, ◌∙◌}
use mathlib.Core.Bool.{Bool, true, false, cond}
use mathlib.Core.Option.{Option, none, some}
use mathlib.Core.List.{List, [], ◌∷◌}
use Prim.Native.Nat.{ℕ, suc, ◌+◌, ◌≤◌, ◌<◌}
use native.Mathlib.Omega.{arith}
use lib.ListN.{length, get_or}
use borrow.Author.Tests.{ne_eqb, le-ltb}
use Rattle.paper_table.specs.TableNumbers.{tag_query_root}
use Rattle.paper_table.specs.Lists.{bytes, first_at, find}
use Rattle.paper_table.specs.Types.{Member, Definition, table_of, is_roots, blank_definition, tag_nothing, name_only, roots_in, roots_of}
use Rattle.paper_table.proofs.ListsLaws.{first_at_later, any_first, find_any}
use Rattle.paper_query.specs.Enclosing.{then, composite_of, root_of}
use Rattle.table_book.specs.Book.{count_in}
use Rattle.table_members.specs.Members.{members_in, member_from, Finds}
use Rattle.table_types.specs.Booked.{start_in, end_in, Booked}
use Rattle.query_roots.specs.Rooted.{tagged, RootWritten}

find_at : {A : Type 0} (p : A → Bool) (d : A) (xs : List A) → first_at p xs < length xs → find p xs ≡ some (get_or xs (first_at p xs) d)
unfolding find first_at
find_at p d [] h = absurd (omega arith)
find_at p d (x ∷ xs) h = go (p x) refl h (λ l. find_at p d xs l)
  where
    go : (b : Bool) → p x ≡ b → first_at p (x ∷ xs) < length (x ∷ xs) → (first_at p xs < length xs → find p xs ≡ some (get_or xs (first_at p xs) d)) → cond b (some x) (find p xs) ≡ some (get_or (x ∷ xs) (cond b 0 (suc (first_at p xs))) d)
    go true e h ih = refl
    go false e h ih = ih (omega (arith, first_at_later p x xs e))

module _ (t book : List ℕ) (b : Booked t book) (k : ℕ) (e : k ≡ first_at is_roots (table_of t)) where
  -- no record 8
  module _ (h : count_in book ≤ k) where
    query_alone : roots_of (table_of t) ≡ name_only tag_query_root (bytes "Query") ∷ []
    unfolding roots_of
    query_alone = ap roots_in (find_any is_roots (table_of t) (any_first is_roots (table_of t) ∙ le-ltb (first_at is_roots (table_of t)) (length (table_of t)) (omega (arith, e, b.count))))

    pub query_root : (x : ℕ) → x ≡ 0 → root_of (table_of t) x ≡ some (name_only tag_query_root (bytes "Query"))
    unfolding root_of find
    query_root x z = rw (z, query_alone)

    pub by_no_root : (x : ℕ) → (x ≡ 0 → ⊥) → root_of (table_of t) x ≡ none
    unfolding root_of find
    by_no_root x z = rw (query_alone, ne_eqb tag_query_root (tag_query_root + x) (λ q. z (omega arith)))

  -- record 8 has this content
  module _ (h : k < count_in book) (start end : ℕ) (p : start ≡ start_in book k) (q : end ≡ end_in book k) where
    roots_are : roots_of (table_of t) ≡ members_in t start end
    unfolding roots_of
    roots_are =
        ap roots_in (find_at is_roots (blank_definition tag_nothing) (table_of t) (omega (arith, e, b.count)))
        ∙ rw (← e, p, q) (ap (λ (d : Definition). d.members) (b.entered k h).is)

    pub written_root : (x tag from to : ℕ) → Finds start end from to (find (tagged (tag_query_root + x)) (members_in t start end)) (member_from t tag from to) → RootWritten t x tag from to
    unfolding root_of
    written_root x tag from to f = record {
      is = ap (find (tagged (tag_query_root + x))) roots_are ∙ f.is;
      bounds = record { order = f.lies.order; within = omega (arith, f.lies.within, q, (b.entered k h).within); most = b.short };
    }

    pub unwritten_root : (x : ℕ) → find (tagged (tag_query_root + x)) (members_in t start end) ≡ none → root_of (table_of t) x ≡ none
    unfolding root_of
    unwritten_root x f = ap (find (tagged (tag_query_root + x))) roots_are ∙ f

-- the root's type
module _ (t : List ℕ) (x : ℕ) where
  pub root_typed : (m : Member) → root_of (table_of t) x ≡ some m → (n : List ℕ) → n ≡ m.name → {r : Option ℕ} → r ≡ composite_of (table_of t) n → r ≡ then (root_of (table_of t) x) (λ m. composite_of (table_of t) m.name)
  root_typed m e n q f = rw e (f ∙ ap (composite_of (table_of t)) q)

  pub root_untyped : root_of (table_of t) x ≡ none → none ≡ then (root_of (table_of t) x) (λ m. composite_of (table_of t) m.name)
  root_untyped e = rw e
