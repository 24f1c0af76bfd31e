-- What is kept of variables: more of them behind those that are there.
use mathlib.Core.Path.{◌≡◌, refl, sym, ap, ◌∙◌, subst}
use mathlib.Core.List.{List, [], ◌∷◌}
use Prim.Native.Nat.{ℕ, zero, suc, ◌+◌, ◌*◌, ◌≤◌, ◌<◌}
use native.Mathlib.Omega.{arith}
use lib.ListN.{length, get_or, set, length-set}
use lib.Seq.{sets, get_or-set_same, get_or-set_other}
use borrow.Author.Tests.{le-leb}
use Rattle.paper.specs.Numbers.{row_size, most_rows}
use Rattle.paper_table.specs.References.{Ref}
use Rattle.table_book.specs.Book.{part, count_in}
use Rattle.table_types.specs.Booked.{Booked, definition_on}
use Rattle.paper_values.specs.Kinds.{kind_of_definition}
use Rattle.query_rows.specs.Rowed.{cell, doc_of}
use Rattle.paper_values.specs.Values.{Name, Tree, Pairs, no_pairs, pair}
use Rattle.value_kinds.specs.Dues.{DueIs, Fits}
use Rattle.value_held.specs.Holding.{Kept, HeldAt, Holds}
use Rattle.value_coerce.proofs.ObjectLaws.{join_pairs}
use Rattle.value_variables.specs.Variables.{small, Same}

module _ (t book s rows : List ℕ) (n : ℕ) (s1 rows1 : List ℕ) (n1 : ℕ) where
  -- the same numbers hold the same
  module _ (held held' : List ℕ) (m : ℕ) (same : Same m held held') where
    held_same : (j : ℕ) (name : Name) (tree : Tree) → j < m → HeldAt t book s rows n s1 rows1 n1 held j name tree → HeldAt t book s rows n s1 rows1 n1 held' j name tree
    held_same j name tree h a =
        let c : (k : ℕ) → k < row_size → cell held' j k ≡ cell held j k = λ k l. same.cells j k h l in
        let z0 = c 0 (omega arith) in
        let z1 = c 1 (omega arith) in
        let z2 = c 2 (omega arith) in
        let z3 = c 3 (omega arith) in
        let z4 = c 4 (omega arith) in
        let z5 = c 5 (omega arith) in
        let z6 = c 6 (omega arith) in
        record {
          named = rw (z0, z1) a.named;
          within = rw (z0, z1) a.within;
          ref = a.ref;
          is = rw (z4, z5, z6) a.is;
          fits = rw (z4, z5, z6) a.fits;
          document = λ e. rw z3 (a.document (sym z2 ∙ e));
          variables = λ e. rw z3 (a.variables (λ f. e (z2 ∙ f)));
        }

    pub holds_same : (j : ℕ) (ps : Pairs) → Holds t book s rows n s1 rows1 n1 held j m ps → j ≤ m → Holds t book s rows n s1 rows1 n1 held' j m ps
    holds_same j no_pairs h l = h
    holds_same j (pair name tree ps) h l =
        let z : j + 1 ≤ m = later (j + 1) ps h.1 in
        let k : j < m = omega (arith, z) in
        (held_same j name tree k h.0, holds_same (j + 1) ps h.1 (omega (arith, k)))
      where
        later : (i : ℕ) (ps : Pairs) → Holds t book s rows n s1 rows1 n1 held i m ps → i ≤ m
        later i no_pairs q = omega (arith, q)
        later i (pair x y ps) q = let z = later (i + 1) ps q.1 in omega (arith, z)

  -- one after the other
  pub holds_join : (held : List ℕ) (j m k : ℕ) (xs ys : Pairs) → Holds t book s rows n s1 rows1 n1 held j m xs → Holds t book s rows n s1 rows1 n1 held m k ys →
      Holds t book s rows n s1 rows1 n1 held j k (join_pairs xs ys)
  holds_join held j m k no_pairs ys h g = subst (λ (i : ℕ). Holds t book s rows n s1 rows1 n1 held i k ys) (sym h) g
  holds_join held j m k (pair name tree xs) ys h g = (h.0, holds_join held (j + 1) m k xs ys h.1 g)

-- ---- seven numbers stored

pub sets_length : (xs l : List ℕ) (i : ℕ) → length (sets l i xs) ≡ length l
sets_length [] l i = refl
sets_length (x ∷ xs) l i = sets_length xs (set l i x) (suc i) ∙ length-set l i x

sets_before : (xs l : List ℕ) (i j : ℕ) → j < i → get_or (sets l i xs) j 0 ≡ get_or l j 0
sets_before [] l i j h = refl
sets_before (x ∷ xs) l i j h = sets_before xs (set l i x) (suc i) j (omega (arith, h)) ∙ get_or-set_other l i j x 0 (λ (e : j ≡ i). omega (arith, e, h))

sets_at : (xs l : List ℕ) (i k : ℕ) → k < length xs → i + length xs ≤ length l → get_or (sets l i xs) (i + k) 0 ≡ get_or xs k 0
sets_at [] l i k h r = absurd (omega (arith, h))
sets_at (x ∷ xs) l i zero h r =
    ap (λ (m : ℕ). get_or (sets (set l i x) (suc i) xs) m 0) (omega arith) ∙ sets_before xs (set l i x) (suc i) i (omega arith) ∙ get_or-set_same l i x 0 (omega (arith, r))
sets_at (x ∷ xs) l i (suc k) h r =
    ap (λ (m : ℕ). get_or (sets (set l i x) (suc i) xs) m 0) (omega arith) ∙ sets_at xs (set l i x) (suc i) k (omega (arith, h)) (omega (arith, r, length-set l i x))

abbrev seven : ℕ → ℕ → ℕ → ℕ → ℕ → ℕ → ℕ → List ℕ
seven a b c d e f g = a ∷ b ∷ c ∷ d ∷ e ∷ f ∷ g ∷ []

-- the type's numbers, where the definition's is kept small
small_is : (k : ℕ) → k ≤ most_rows → small k ≡ k
small_is k h = rw (le-leb k most_rows h) refl

module _ (t book : List ℕ) (b : Booked t book) (ref : Ref) (sort number wrappers : ℕ) (is : DueIs t book ref sort number wrappers) (fits : Fits book sort number wrappers) where
  few_number : 7 ≤ sort → small number ≡ number
  few_number h = let m = fits.there h in let r = b.indexed.held.most in small_is number (omega (arith, m, r))

  pub small_due : DueIs t book ref sort (small number) wrappers
  small_due = record {
    sorted = record {
      sort_is = is.sorted.sort_is;
      held = λ h. is.sorted.held h ∙ ap (λ (k : ℕ). kind_of_definition (definition_on t k)) (sym (few_number h));
      there = λ h. subst (λ (k : ℕ). k < count_in book) (sym (few_number h)) (is.sorted.there h);
    };
    packs = is.packs;
  }

  pub small_fits : Fits book sort (small number) wrappers
  small_fits = record { there = λ h. subst (λ (k : ℕ). k < count_in book) (sym (few_number h)) (fits.there h); few = fits.few }

module _ (held held' : List ℕ) (many a b c d e f g : ℕ) (q : held' ≡ sets held (row_size * many) (a ∷ b ∷ c ∷ d ∷ e ∷ f ∷ g ∷ [])) (r : row_size * (many + 1) ≤ length held) where
  pub keep_same : Same many held held'
  keep_same = record {
    size = ap length q ∙ sets_length (seven a b c d e f g) held (row_size * many);
    cells = λ j k h l. ap (λ (x : List ℕ). get_or x (row_size * j + k) 0) q ∙ sets_before (seven a b c d e f g) held (row_size * many) (row_size * j + k) (omega (arith, h, l));
  }

  kept_at : (k : ℕ) → k < 7 → cell held' many k ≡ get_or (seven a b c d e f g) k 0
  kept_at k h = ap (λ (x : List ℕ). get_or x (row_size * many + k) 0) q ∙ sets_at (seven a b c d e f g) held (row_size * many) k h (omega (arith, r))

  module _ (t book s rows : List ℕ) (n : ℕ) (s1 rows1 : List ℕ) (n1 : ℕ) (name : Name) (tree : Tree) (ref : Ref) (named : part s a b ≡ name) (within : a + b ≤ length s)
      (is : DueIs t book ref e f g) (fits : Fits book e f g) where
    pub keep_held : (c ≡ 0 → Kept t 0 (doc_of s rows n) n d ref tree) → ((c ≡ 0 → ⊥) → Kept t 1 (doc_of s1 rows1 n1) n1 d ref tree) → HeldAt t book s rows n s1 rows1 n1 held' many name tree
    keep_held k0 k1 =
        let z0 : cell held' many 0 ≡ a = kept_at 0 (omega arith) in
        let z1 : cell held' many 1 ≡ b = kept_at 1 (omega arith) in
        let z2 : cell held' many 2 ≡ c = kept_at 2 (omega arith) in
        let z3 : cell held' many 3 ≡ d = kept_at 3 (omega arith) in
        let z4 : cell held' many 4 ≡ e = kept_at 4 (omega arith) in
        let z5 : cell held' many 5 ≡ f = kept_at 5 (omega arith) in
        let z6 : cell held' many 6 ≡ g = kept_at 6 (omega arith) in
        record {
          named = rw (z0, z1) named;
          within = rw (z0, z1) within;
          ref = ref;
          is = rw (z4, z5, z6) is;
          fits = rw (z4, z5, z6) fits;
          document = λ x. rw z3 (k0 (sym z2 ∙ x));
          variables = λ x. rw z3 (k1 (λ y. x (z2 ∙ y)));
        }
