-- The variables that are held, and the one of a name.
use mathlib.Core.Path.{◌≡◌, refl, sym, ap, subst, ◌∙◌}
use mathlib.Core.Bool.{Bool, true, false, cond}
use mathlib.Core.Option.{none, some}
use mathlib.Core.List.{List}
use Prim.Native.Nat.{ℕ, zero, suc, ◌+◌, ◌-◌, ◌≤◌, ◌<◌}
use native.Mathlib.Omega.{arith}
use native.Mathlib.Decide.{dec_lt}
use lib.ListN.{length}
use lib.Dec.{leb}
use borrow.Author.Tests.{le-leb, lt-leb}
use Rattle.paper.specs.Tokens.{same}
use Rattle.table_book.specs.Book.{part}
use Rattle.query_rows.specs.Rowed.{cell, doc_of}
use Rattle.paper_values.specs.Values.{Name, Tree, Pairs, no_pairs, pair}
use Rattle.paper_values.specs.Coercion.{value_in}
use Rattle.value_kinds.specs.declared.Due.{Due}
use Rattle.value_kinds.specs.Dues.{DueIs, Fits}
use Rattle.value_held.specs.Given.{is_none}
use Rattle.value_held.specs.Holding.{Kept, HeldAt, Holds, Holding, held_from, Names, Knows}

-- ---- the loop over the variables

module _ (s held : List ℕ) (x : Name) where
  pub held_here : (many j : ℕ) → j < many → same x (part s (cell held j 0) (cell held j 1)) ≡ true → held_from s held x (many - j) j ≡ j
  unfolding held_from
  held_here many j l e = let z : many - j ≡ suc (many - (j + 1)) = omega arith in rw (z, e) refl

  pub held_next : (many j : ℕ) → j < many → same x (part s (cell held j 0) (cell held j 1)) ≡ false → held_from s held x (many - j) j ≡ held_from s held x (many - (j + 1)) (j + 1)
  unfolding held_from
  held_next many j l e = let z : many - j ≡ suc (many - (j + 1)) = omega arith in rw (z, e) refl

  pub held_end : (many j : ℕ) → many ≤ j → held_from s held x (many - j) j ≡ j
  unfolding held_from
  held_end many j l = let z : many - j ≡ 0 = omega arith in rw z refl

-- ---- what is held

module _ (t book s rows : List ℕ) (n : ℕ) (s1 rows1 : List ℕ) (n1 : ℕ) (held : List ℕ) where
  holds_least : (j many : ℕ) (ps : Pairs) → Holds t book s rows n s1 rows1 n1 held j many ps → j ≤ many
  holds_least j many no_pairs h = omega (arith, h)
  holds_least j many (pair x y ps) h = let z : j + 1 ≤ many = holds_least (j + 1) many ps h.1 in omega (arith, z)

  holds_names : (j many : ℕ) (ps : Pairs) → Holds t book s rows n s1 rows1 n1 held j many ps → (i : ℕ) → j ≤ i → i < many → cell held i 0 + cell held i 1 ≤ length s
  holds_names j many no_pairs h i a b = absurd (omega (arith, h, a, b))
  holds_names j many (pair x y ps) h i a b = go (dec_lt j i) (λ m. holds_names (j + 1) many ps h.1 i m b)
    where
      go : Dec (j < i) → (j + 1 ≤ i → cell held i 0 + cell held i 1 ≤ length s) → cell held i 0 + cell held i 1 ≤ length s
      go (yes l) f = f (omega arith)
      go (no l) f = let z : j ≡ i = omega arith in rw (← z) h.0.within

  -- variable r is the one of the name x, or there is none
  pub record Looked (ps : Pairs) (x : Name) (many r : ℕ) : Type 0 where
    pub some_is : r < many → (tree : Tree) × (name : Name) × (value_in ps x ≡ some tree) × HeldAt t book s rows n s1 rows1 n1 held r name tree
    pub none_is : many ≤ r → value_in ps x ≡ none

  looks : (ps : Pairs) (x : Name) (m j many : ℕ) → j + m ≡ many → Holds t book s rows n s1 rows1 n1 held j many ps → Looked ps x many (held_from s held x m j)
  unfolding held_from
  looks no_pairs x zero j many e h = record { some_is = λ l. absurd (omega (arith, l, e)); none_is = λ l. refl }
  looks no_pairs x (suc m) j many e h = absurd (omega (arith, e, h))
  looks (pair y tree ps) x zero j many e h = absurd (let z : j + 1 ≤ many = holds_least (j + 1) many ps h.1 in omega (arith, z, e))
  looks (pair y tree ps) x (suc m) j many e h = go (same x (part s (cell held j 0) (cell held j 1))) (ap (same x) (sym h.0.named)) (looks ps x m (j + 1) many (omega (arith, e)) h.1)
    where
      go : (b : Bool) → same x y ≡ b → Looked ps x many (held_from s held x m (j + 1)) → Looked (pair y tree ps) x many (cond b j (held_from s held x m (j + 1)))
      go true q g = record { some_is = λ l. (tree, y, ap (λ (b : Bool). cond b (some tree) (value_in ps x)) q, h.0); none_is = λ l. absurd (omega (arith, l, e)) }
      go false q g = record {
        some_is = λ l. let z = g.some_is l in (z.0, z.1, ap (λ (b : Bool). cond b (some tree) (value_in ps x)) q ∙ z.2, z.3);
        none_is = λ l. ap (λ (b : Bool). cond b (some tree) (value_in ps x)) q ∙ g.none_is l;
      }

  module _ (many : ℕ) (ps : Pairs) (h : Holds t book s rows n s1 rows1 n1 held 0 many ps) where
    pub looked : (x : Name) (r : ℕ) → r ≡ held_from s held x many 0 → Looked ps x many r
    looked x r e = subst (Looked ps x many) (sym e) (looks ps x many 0 many (omega arith) h)

    pub knows : Knows s held many (value_in ps)
    knows x = go (dec_lt r many)
      where
        r : ℕ
        r = held_from s held x many 0

        go : Dec (r < many) → is_none (value_in ps x) ≡ leb many r
        go (yes l) = ap is_none ((looked x r refl).some_is l).2 ∙ sym (lt-leb many r l)
        go (no l) = let z : many ≤ r = omega arith in ap is_none ((looked x r refl).none_is z) ∙ sym (le-leb many r z)

  pub names : (past1 : List ℕ) (many : ℕ) → Holding t book s rows n s1 rows1 n1 past1 held many → Names s held many
  names past1 many h = record { size = h.size; within = λ j l. holds_names 0 many h.pairs h.holds j (omega arith) l }

-- what was read of variable r
module _ (t book s rows : List ℕ) (n : ℕ) (s1 rows1 : List ℕ) (n1 : ℕ) (held : List ℕ) (r : ℕ) (name : Name) (tree : Tree) where
  pub held_due : (due : Due) → (due.sort ≡ cell held r 4) × (due.number ≡ cell held r 5) × (due.wrappers ≡ cell held r 6) → (h : HeldAt t book s rows n s1 rows1 n1 held r name tree) →
      DueIs t book h.ref due.sort due.number due.wrappers × Fits book due.sort due.number due.wrappers
  held_due due e h = rw (e.0, e.1, e.2) (h.is, h.fits)

  module _ (row text : ℕ) (e : row ≡ cell held r 3) (q : text ≡ cell held r 2) where
    pub held_row0 : text ≡ 0 → (h : HeldAt t book s rows n s1 rows1 n1 held r name tree) → Kept t 0 (doc_of s rows n) n row h.ref tree
    held_row0 z h = rw e (h.document (sym q ∙ z))

    pub held_row1 : (text ≡ 0 → ⊥) → (h : HeldAt t book s rows n s1 rows1 n1 held r name tree) → Kept t 1 (doc_of s1 rows1 n1) n1 row h.ref tree
    held_row1 z h = rw e (h.variables (λ y. z (q ∙ y)))
