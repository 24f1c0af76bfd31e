-- How a record's members are entered in a book, one by one, and found by their names.
use mathlib.Core.Path.{◌≡◌, refl, sym, ap, ◌∙◌}
use mathlib.Core.Bool.{Bool, true, false, cond}
use mathlib.Core.Option.{none, some}
use mathlib.Core.List.{List, [], ◌∷◌}
use Prim.Native.Nat.{ℕ, suc, ◌+◌, ◌≤◌, ◌<◌}
use native.Mathlib.Omega.{arith}
use lib.ListN.{length, drop, get_or, set, length-set, length-drop}
use lib.Seq.{get_or-set_same, get_or-set_other, drop-drop, get_or-drop}
use lib.Dec.{ltb}
use borrow.Author.Tests.{ltb-true, ltb-false, le-leb}
use Rattle.paper_table.specs.Lists.{first_at, find}
use Rattle.paper_table.specs.Types.{Member, name_only, tag_nothing, member_named}
use Rattle.table_book.specs.Book.{no_key, room, cell_name, cell_size, cell_start, cell_end, cell_count, book_size, count_in, keys_of, keyed, Held, Linked}
use Rattle.table_book.proofs.Keys.{keys_count, keys_at, count_kept}
use Rattle.table_members.specs.Members.{members_in, member_from, First, Named, Finds}
use Rattle.table_types.specs.Booked.{start_in, end_in, SameEntry, Put}
use Rattle.table_listing.specs.Listed.{most_tag, member_on, Entered, Listed, Listable, Entering, Collected}

pub entering_is : (t old book : List ℕ) (i tag start stop at n : ℕ) → Named t at n (member_from t tag start stop).name
    → Put old book i tag at n start stop → Entering t old book i tag start stop
entering_is t old book i tag start stop at n m p = record {
  cells = p.cells;
  tag_is = p.tag_is;
  start_is = p.start_is;
  end_is = p.end_is;
  name = rw (p.name_is, p.size_is) m.is;
  name_within = rw (p.name_is, p.size_is) m.within;
  others = p.others;
}

-- an entry that is as it was is that of the same member
entered_same : (t old book : List ℕ) (from end i : ℕ) (m : Member) → SameEntry old book i → Entered t old from end i m → Entered t book from end i m
entered_same t old book from end i m s e = record {
  is = e.is ∙ rw (s.kind, s.start, s.end);
  lies = rw (s.start, s.end) e.lies;
  small = rw s.kind e.small;
  name = rw (s.name, s.size) e.name;
  name_within = rw (s.name, s.size) e.name_within;
}

-- what is behind the first i of a list: one more, or nothing
module _ {A : Type 0} (xs : List A) (i : ℕ) where
  left_none : i ≤ length xs → drop i xs ≡ [] → i ≡ length xs
  left_none h e = let k : length (drop i xs) ≡ 0 = ap length e in omega (arith, k, length-drop i xs)

  module _ (x : A) (ys : List A) (e : drop i xs ≡ x ∷ ys) where
    left_below : i < length xs
    left_below = let k : length (drop i xs) ≡ suc (length ys) = ap length e in omega (arith, k, length-drop i xs)

    left_here : (z : A) → get_or xs i z ≡ x
    left_here z =
        let q : i + 0 ≡ i = omega arith in
        ap (λ (k : ℕ). get_or xs k z) (sym q) ∙ sym (get_or-drop i xs 0 z) ∙ ap (λ (l : List A). get_or l 0 z) e

    left_behind : drop (i + 1) xs ≡ ys
    left_behind = sym (drop-drop 1 i xs) ∙ ap (drop 1) e

-- the first i members are entered, and the others stand from `at` on
pub record Collecting (t book : List ℕ) (from end at i : ℕ) : Type 0 where
  pub cells : length book ≡ book_size
  pub count : i ≤ length (members_in t from end)
  pub begun : from ≤ at
  pub within : at ≤ end
  pub rest : drop i (members_in t from end) ≡ members_in t at end
  pub entered : (j : ℕ) → j < i → Entered t book from end j (member_on t from end j)

pub collecting_start : (t book : List ℕ) (from end : ℕ) → Listable t book from end → Collecting t book from end from 0
collecting_start t book from end l = record {
  cells = l.cells;
  count = omega arith;
  begun = omega arith;
  within = l.bounds.order;
  rest = refl;
  entered = λ j h. absurd (omega arith);
}

module _ (t book : List ℕ) (from end at i : ℕ) (r : Collecting t book from end at i) where
  pub collecting_end : members_in t at end ≡ [] → Collected t book from end i
  collecting_end e = record { cells = r.cells; count_is = left_none (members_in t from end) i r.count (r.rest ∙ e); entered = r.entered }

  module _ (tag start stop : ℕ) (f : First at end start stop (members_in t at end) (member_from t tag start stop) (members_in t stop end)) where
    next_is : drop i (members_in t from end) ≡ member_from t tag start stop ∷ members_in t stop end
    next_is = r.rest ∙ f.all_are

    pub member_below : i < length (members_in t from end)
    member_below = left_below (members_in t from end) i _ _ next_is

    pub collecting_more : (book' : List ℕ) → tag ≤ most_tag → Entering t book book' i tag start stop → Collecting t book' from end stop (i + 1)
    collecting_more book' small e = record {
      cells = e.cells ∙ r.cells;
      count = omega (arith, member_below);
      begun = omega (arith, r.begun, f.lies.begins, f.lies.order);
      within = f.lies.within;
      rest = left_behind (members_in t from end) i _ _ next_is;
      entered = λ j m. go j m (ltb j i) refl;
    }
      where
        here : Entered t book' from end i (member_from t tag start stop)
        here = record {
          is = rw (e.tag_is, e.start_is, e.end_is);
          lies = rw (e.start_is, e.end_is) (record { begins = omega (arith, r.begun, f.lies.begins); order = f.lies.order; within = f.lies.within });
          small = rw e.tag_is small;
          name = e.name;
          name_within = e.name_within;
        }

        go : (j : ℕ) → j < i + 1 → (b : Bool) → ltb j i ≡ b → Entered t book' from end j (member_on t from end j)
        go j m true z =
            let k : j < i = ltb-true j i z in
            entered_same t book book' from end j (member_on t from end j) (e.others j k) (r.entered j k)
        go j m false z =
            let k : i ≤ j = ltb-false j i z in
            let v : j ≡ i = omega arith in
            rw (v, left_here (members_in t from end) i _ _ next_is (name_only tag_nothing [])) here

-- the count is written behind the entries; then they are linked
module _ (t book : List ℕ) (from end n : ℕ) (r : Collected t book from end n) (few : length (members_in t from end) ≤ room) where
  abbrev counted : List ℕ
  counted = set book cell_count n

  counted_is : count_in counted ≡ n
  counted_is = get_or-set_same book cell_count n 0 (omega (arith, r.cells))

  counted_entered : (j : ℕ) → j < n → Entered t counted from end j (member_on t from end j)
  counted_entered j l =
      let h : j < room = omega (arith, r.count_is) in
      entered_same t book counted from end j (member_on t from end j)
      (record {
        kind = get_or-set_other book cell_count j n 0 (λ z. omega arith);
        name = get_or-set_other book cell_count (cell_name + j) n 0 (λ z. omega arith);
        size = get_or-set_other book cell_count (cell_size + j) n 0 (λ z. omega arith);
        start = get_or-set_other book cell_count (cell_start + j) n 0 (λ z. omega arith);
        end = get_or-set_other book cell_count (cell_end + j) n 0 (λ z. omega arith);
      })
      (r.entered j l)

  pub counted_held : Held t counted
  counted_held = record {
    cells = length-set book cell_count n ∙ r.cells;
    most = omega (arith, counted_is, r.count_is);
    within = λ j l. (counted_entered j (omega (arith, counted_is))).name_within;
  }

  pub listed_is : (linked : List ℕ) → Linked t counted linked → Listed t linked from end
  listed_is linked k = record {
    count = e ∙ r.count_is;
    entered = λ j l. let m : j < n = omega (arith, e) in entered_same t counted linked from end j (member_on t from end j) (same_entry j (omega (arith, r.count_is))) (counted_entered j m);
    indexed = k.indexed;
  }
    where
      e : count_in linked ≡ n
      e = count_kept t counted linked k.kept ∙ counted_is

      same_entry : (j : ℕ) → j < room → SameEntry counted linked j
      same_entry j l = record {
        kind = k.kept.entries j (omega arith);
        name = k.kept.entries (cell_name + j) (omega arith);
        size = k.kept.entries (cell_size + j) (omega arith);
        start = k.kept.entries (cell_start + j) (omega arith);
        end = k.kept.entries (cell_end + j) (omega arith);
      }

-- two lists whose elements pass two tests at the same numbers have their first at the same number
first_points : {A B : Type 0} (p : A → Bool) (q : B → Bool) (a : A) (b : B) (xs : List A) (ys : List B) → length xs ≡ length ys
    → ((i : ℕ) → i < length xs → p (get_or xs i a) ≡ q (get_or ys i b)) → first_at p xs ≡ first_at q ys
unfolding first_at
first_points p q a b [] [] e h = refl
first_points p q a b [] (y ∷ ys) e h = absurd (omega arith)
first_points p q a b (x ∷ xs) [] e h = absurd (omega arith)
first_points p q a b (x ∷ xs) (y ∷ ys) e h =
    rw (h 0 (omega arith), first_points p q a b xs ys (omega arith) (λ i l. h (suc i) (omega arith)))

-- what is found stands at the first number
find_at : {A : Type 0} (p : A → Bool) (z : A) (xs : List A) → first_at p xs < length xs → find p xs ≡ some (get_or xs (first_at p xs) z)
unfolding find first_at
find_at p z [] h = absurd (omega arith)
find_at p z (x ∷ xs) h = go (p x) refl h (λ l. find_at p z xs l)
  where
    go : (b : Bool) → p x ≡ b → cond (p x) 0 (suc (first_at p xs)) < suc (length xs) → (first_at p xs < length xs → find p xs ≡ some (get_or xs (first_at p xs) z))
        → cond b (some x) (find p xs) ≡ some (get_or (x ∷ xs) (cond b 0 (suc (first_at p xs))) z)
    go true q l ih = refl
    go false q l ih = let m : suc (first_at p xs) < suc (length xs) = rw q at l in ih (omega arith)

find_none : {A : Type 0} (p : A → Bool) (xs : List A) → length xs ≤ first_at p xs → find p xs ≡ none
unfolding find first_at
find_none p [] h = refl
find_none p (x ∷ xs) h = go (p x) refl h (λ l. find_none p xs l)
  where
    go : (b : Bool) → p x ≡ b → suc (length xs) ≤ cond (p x) 0 (suc (first_at p xs)) → (length xs ≤ first_at p xs → find p xs ≡ none) → cond b (some x) (find p xs) ≡ none
    go true q l ih = let m : suc (length xs) ≤ 0 = rw q at l in absurd (omega arith)
    go false q l ih = let m : suc (length xs) ≤ suc (first_at p xs) = rw q at l in ih (omega arith)

module _ (t book : List ℕ) (from end : ℕ) (b : Listed t book from end) (n : List ℕ) where
  one_test : (i : ℕ) → i < count_in book → keyed 0 most_tag n (get_or (keys_of t book) i no_key) ≡ member_named n (member_on t from end i)
  one_test i l =
      let e = b.entered i l in
      ap (keyed 0 most_tag n) (keys_at t book i l)
      ∙ rw (le-leb 0 (get_or book i 0) (omega arith), le-leb (get_or book i 0) most_tag e.small, e.name)

  listed_first : first_at (keyed 0 most_tag n) (keys_of t book) ≡ first_at (member_named n) (members_in t from end)
  listed_first =
      first_points (keyed 0 most_tag n) (member_named n) no_key (name_only tag_nothing []) (keys_of t book) (members_in t from end) (keys_count t book ∙ b.count)
      (λ i l. one_test i (omega (arith, keys_count t book)))

  module _ {k : ℕ} (e : k ≡ first_at (keyed 0 most_tag n) (keys_of t book)) where
    pub listed_found : k < count_in book → Finds from end (start_in book k) (end_in book k) (find (member_named n) (members_in t from end)) (member_from t (get_or book k 0) (start_in book k) (end_in book k))
    listed_found l =
        let f : first_at (member_named n) (members_in t from end) ≡ k = sym (e ∙ listed_first) in
        record {
          lies = (b.entered k l).lies;
          is =
              find_at (member_named n) (name_only tag_nothing []) (members_in t from end) (omega (arith, f, b.count))
              ∙ rw f (ap (λ (m : Member). some m) (b.entered k l).is);
        }

    pub listed_none : count_in book ≤ k → find (member_named n) (members_in t from end) ≡ none
    listed_none l =
        let f : first_at (member_named n) (members_in t from end) ≡ k = sym (e ∙ listed_first) in
        find_none (member_named n) (members_in t from end) (omega (arith, f, b.count))
