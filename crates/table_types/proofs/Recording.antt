-- How a table's definitions are entered in a book, record by record.
use mathlib.Core.Path.{◌≡◌, refl, sym, ap, ◌∙◌}
use mathlib.Core.Bool.{Bool, true, false}
use mathlib.Core.List.{List, [], ◌∷◌, ◌++◌, map}
use Prim.Native.Nat.{ℕ, zero, suc, ◌+◌, ◌≤◌, ◌<◌}
use native.Mathlib.Omega.{arith}
use lib.ListN.{length, drop, get_or, set, length-set, length-drop, length-map}
use lib.Seq.{slice, get_or-set_same, get_or-set_other, take-length, drop-drop, get_or-drop, ext_get_or}
use lib.Dec.{ltb}
use borrow.Author.Tests.{ltb-true, ltb-false}
use Rattle.paper_table.specs.TableNumbers.{most_table}
use Rattle.paper_table.specs.Lists.{gather}
use Rattle.paper_table.specs.House.{house_field, cut, house_fields}
use Rattle.paper_table.specs.Types.{Definition, definition_of, table_of, name_in, blank_definition, tag_nothing}
use Rattle.table_fields.specs.Fields.{field_at}
use Rattle.std.specs.Prelude.{Some, None}
use Rattle.table_fields.specs.declared.Field.{Field}
use Rattle.table_fields.proofs.FieldLaws.{field_lies}
use Rattle.table_book.specs.Book.{room, cell_name, cell_size, cell_start, cell_end, cell_count, book_size, count_in, key_at, keys_of, Held, Linked, no_key}
use Rattle.table_book.proofs.Keys.{keys_count, keys_at, count_kept}
use Rattle.table_members.specs.Members.{fields_in, definition_from, Named}
use Rattle.table_members.proofs.GatherLaws.{gather_none, gather_torn, gather_field}
use Rattle.table_types.specs.Booked.{key_of, definition_on, Entered, SameEntry, Booked, Bookable, Put, Entering, Recorded}

-- five cells are written
abbrev pub put_in : List ℕ → ℕ → ℕ → ℕ → ℕ → ℕ → ℕ → List ℕ
put_in old i tag name size start end =
    set (set (set (set (set old i tag) (cell_name + i) name) (cell_size + i) size) (cell_start + i) start) (cell_end + i) end

put_length : (old : List ℕ) (i tag name size start end : ℕ) → length (put_in old i tag name size start end) ≡ length old
put_length old i tag name size start end =
    length-set (set (set (set (set old i tag) (cell_name + i) name) (cell_size + i) size) (cell_start + i) start) (cell_end + i) end
    ∙ length-set (set (set (set old i tag) (cell_name + i) name) (cell_size + i) size) (cell_start + i) start
    ∙ length-set (set (set old i tag) (cell_name + i) name) (cell_size + i) size
    ∙ length-set (set old i tag) (cell_name + i) name
    ∙ length-set old i tag

module _ (old : List ℕ) (i tag name size start end : ℕ) (l : length old ≡ book_size) (r : i < room) where
  abbrev b1 : List ℕ
  b1 = set old i tag

  abbrev b2 : List ℕ
  b2 = set b1 (cell_name + i) name

  abbrev b3 : List ℕ
  b3 = set b2 (cell_size + i) size

  abbrev b4 : List ℕ
  b4 = set b3 (cell_start + i) start

  abbrev b5 : List ℕ
  b5 = set b4 (cell_end + i) end

  pub l1 : length b1 ≡ book_size
  l1 = length-set old i tag ∙ l

  pub l2 : length b2 ≡ book_size
  l2 = length-set b1 (cell_name + i) name ∙ l1

  pub l3 : length b3 ≡ book_size
  l3 = length-set b2 (cell_size + i) size ∙ l2

  pub l4 : length b4 ≡ book_size
  l4 = length-set b3 (cell_start + i) start ∙ l3

  -- a cell other than the five
  other : (k : ℕ) → (k ≡ i → ⊥) → (k ≡ cell_name + i → ⊥) → (k ≡ cell_size + i → ⊥) → (k ≡ cell_start + i → ⊥) → (k ≡ cell_end + i → ⊥) → get_or b5 k 0 ≡ get_or old k 0
  other k e f g h m =
      get_or-set_other b4 (cell_end + i) k end 0 m ∙ get_or-set_other b3 (cell_start + i) k start 0 h ∙ get_or-set_other b2 (cell_size + i) k size 0 g
      ∙ get_or-set_other b1 (cell_name + i) k name 0 f ∙ get_or-set_other old i k tag 0 e

  pub put_is : Put old b5 i tag name size start end
  put_is = record {
    cells = put_length old i tag name size start end;
    tag_is =
        get_or-set_other b4 (cell_end + i) i end 0 (λ z. omega arith) ∙ get_or-set_other b3 (cell_start + i) i start 0 (λ z. omega arith)
        ∙ get_or-set_other b2 (cell_size + i) i size 0 (λ z. omega arith) ∙ get_or-set_other b1 (cell_name + i) i name 0 (λ z. omega arith)
        ∙ get_or-set_same old i tag 0 (omega arith);
    name_is =
        get_or-set_other b4 (cell_end + i) (cell_name + i) end 0 (λ z. omega arith) ∙ get_or-set_other b3 (cell_start + i) (cell_name + i) start 0 (λ z. omega arith)
        ∙ get_or-set_other b2 (cell_size + i) (cell_name + i) size 0 (λ z. omega arith) ∙ get_or-set_same b1 (cell_name + i) name 0 (omega (arith, l1));
    size_is =
        get_or-set_other b4 (cell_end + i) (cell_size + i) end 0 (λ z. omega arith) ∙ get_or-set_other b3 (cell_start + i) (cell_size + i) start 0 (λ z. omega arith)
        ∙ get_or-set_same b2 (cell_size + i) size 0 (omega (arith, l2));
    start_is = get_or-set_other b4 (cell_end + i) (cell_start + i) end 0 (λ z. omega arith) ∙ get_or-set_same b3 (cell_start + i) start 0 (omega (arith, l3));
    end_is = get_or-set_same b4 (cell_end + i) end 0 (omega (arith, l4));
    others = λ j h. record {
      kind = other j (λ z. omega arith) (λ z. omega arith) (λ z. omega arith) (λ z. omega arith) (λ z. omega arith);
      name = other (cell_name + j) (λ z. omega arith) (λ z. omega arith) (λ z. omega arith) (λ z. omega arith) (λ z. omega arith);
      size = other (cell_size + j) (λ z. omega arith) (λ z. omega arith) (λ z. omega arith) (λ z. omega arith) (λ z. omega arith);
      start = other (cell_start + j) (λ z. omega arith) (λ z. omega arith) (λ z. omega arith) (λ z. omega arith) (λ z. omega arith);
      end = other (cell_end + j) (λ z. omega arith) (λ z. omega arith) (λ z. omega arith) (λ z. omega arith) (λ z. omega arith);
    };
  }

-- an entry that is as it was is that of the same definition
pub entered_same : (t old book : List ℕ) (i : ℕ) (d : Definition) → SameEntry old book i → Entered t old i d → Entered t book i d
entered_same t old book i d s e = record {
  is = e.is ∙ rw (s.kind, s.start, s.end);
  order = rw (s.start, s.end) e.order;
  within = rw s.end e.within;
  name = rw (s.name, s.size) e.name;
  name_within = rw (s.name, s.size) e.name_within;
}

pub entering_is : (t old book : List ℕ) (i tag start end at n : ℕ) → start ≤ end → end ≤ length t → Named t at n (name_in (fields_in t start end))
    → Put old book i tag at n start end → Entering t old book i tag start end
entering_is t old book i tag start end at n h w m p = record {
  cells = p.cells;
  entered = record {
    is = rw (p.tag_is, p.start_is, p.end_is);
    order = rw (p.start_is, p.end_is) h;
    within = rw p.end_is w;
    name = rw (p.name_is, p.size_is) m.is;
    name_within = rw (p.name_is, p.size_is) m.within;
  };
  others = p.others;
}

-- the first i definitions are entered, and the others stand from `at` on
pub record Recording (t book : List ℕ) (at i : ℕ) : Type 0 where
  pub cells : length book ≡ book_size
  pub count : i ≤ length (table_of t)
  pub within : at ≤ length t
  pub rest : drop i (table_of t) ≡ gather definition_of (fields_in t at (length t))
  pub entered : (j : ℕ) → j < i → Entered t book j (definition_on t j)

table_is : (t : List ℕ) → table_of t ≡ gather definition_of (fields_in t 0 (length t))
unfolding table_of
table_is t = ap (λ (s : List ℕ). gather definition_of (house_fields 0 s)) (sym (take-length t))

definition_cut : (at : ℕ) → definition_of (cut at) ≡ []
unfolding definition_of
definition_cut at = refl

definition_is : (t : List ℕ) (at tag start stop : ℕ) → start ≡ at + 3 → definition_of (house_field at tag (slice start stop t)) ≡ definition_from t tag start stop ∷ []
unfolding definition_of
definition_is t at tag start stop e = rw (← e)

pub recording_start : (t book : List ℕ) → Bookable t book → Recording t book 0 0
recording_start t book b = record {
  cells = b.cells;
  count = omega arith;
  within = omega arith;
  rest = table_is t;
  entered = λ j l. absurd (omega arith);
}

nothing_left : {A : Type 0} (xs : List A) (i : ℕ) → i ≤ length xs → drop i xs ≡ [] → i ≡ length xs
nothing_left xs i h e = let k : length (drop i xs) ≡ 0 = ap length e in omega (arith, k, length-drop i xs)

module _ (t book : List ℕ) (at i : ℕ) (r : Recording t book at i) where
  recorded_at : i ≡ length (table_of t) → Recorded t book i
  recorded_at e = record { cells = r.cells; count_is = e; entered = r.entered }

  pub recording_end : length t ≤ at → Recorded t book i
  recording_end l = recorded_at (nothing_left (table_of t) i r.count (r.rest ∙ gather_none definition_of definition_cut t at (length t) (omega arith) l))

  pub recording_torn : at < length t → field_at t at (length t) ≡ None → Recorded t book i
  recording_torn l q = recorded_at (nothing_left (table_of t) i r.count (r.rest ∙ gather_torn definition_of definition_cut t at (length t) (omega arith) l q))

  module _ (l : at < length t) (it : Field) (q : field_at t at (length t) ≡ Some it) where
    abbrev d : Definition
    d = definition_from t it.tag it.start it.end

    next_is : drop i (table_of t) ≡ d ∷ gather definition_of (fields_in t it.end (length t))
    next_is =
        let f = field_lies t at (length t) it (omega arith) q in
        r.rest ∙ gather_field definition_of definition_cut t at (length t) (omega arith) l it q
        ∙ ap (λ (m : List Definition). m ++ gather definition_of (fields_in t it.end (length t))) (definition_is t at it.tag it.start it.end f.begins)

    pub next_below : i < length (table_of t)
    next_below =
        let k : length (drop i (table_of t)) ≡ suc (length (gather definition_of (fields_in t it.end (length t)))) = ap length next_is in
        omega (arith, k, length-drop i (table_of t))

    pub next_bounds : (it.start ≤ it.end) × (it.end ≤ length t) × (at < it.end)
    next_bounds =
        let f = field_lies t at (length t) it (omega arith) q in
        (f.order, f.within, omega (arith, f.begins, f.order))

    here : definition_on t i ≡ d
    here =
        let z : i + 0 ≡ i = omega arith in
        ap (λ (k : ℕ). get_or (table_of t) k (blank_definition tag_nothing)) (sym z) ∙ sym (get_or-drop i (table_of t) 0 (blank_definition tag_nothing))
        ∙ ap (λ (m : List Definition). get_or m 0 (blank_definition tag_nothing)) next_is

    behind : drop (i + 1) (table_of t) ≡ gather definition_of (fields_in t it.end (length t))
    behind = sym (drop-drop 1 i (table_of t)) ∙ ap (drop 1) next_is

    pub recording_more : (book' : List ℕ) → Entering t book book' i it.tag it.start it.end → Recording t book' it.end (i + 1)
    recording_more book' e = record {
      cells = e.cells ∙ r.cells;
      count = omega (arith, next_below);
      within = next_bounds.1;
      rest = behind;
      entered = λ j m. go j m (ltb j i) refl;
    }
      where
        go : (j : ℕ) → j < i + 1 → (b : Bool) → ltb j i ≡ b → Entered t book' j (definition_on t j)
        go j m true z =
            let k : j < i = ltb-true j i z in
            entered_same t book book' j (definition_on t j) (e.others j k) (r.entered j k)
        go j m false z =
            let k : i ≤ j = ltb-false j i z in
            let v : j ≡ i = omega arith in
            rw (v, here) e.entered

map_keys : (xs : List Definition) (i : ℕ) → get_or (map key_of xs) i no_key ≡ key_of (get_or xs i (blank_definition tag_nothing))
map_keys [] i = refl
map_keys (x ∷ xs) zero = refl
map_keys (x ∷ xs) (suc i) = map_keys xs i

-- the count is written behind the entries; then they are linked
module _ (t book : List ℕ) (n : ℕ) (r : Recorded t book n) (few : length (table_of t) ≤ room) where
  abbrev counted : List ℕ
  counted = set book cell_count n

  pub counted_is : count_in counted ≡ n
  counted_is = get_or-set_same book cell_count n 0 (omega (arith, r.cells))

  counted_same : (j : ℕ) → j < room → SameEntry book counted j
  counted_same j l = record {
    kind = get_or-set_other book cell_count j n 0 (λ z. omega arith);
    name = get_or-set_other book cell_count (cell_name + j) n 0 (λ z. omega arith);
    size = get_or-set_other book cell_count (cell_size + j) n 0 (λ z. omega arith);
    start = get_or-set_other book cell_count (cell_start + j) n 0 (λ z. omega arith);
    end = get_or-set_other book cell_count (cell_end + j) n 0 (λ z. omega arith);
  }

  counted_entered : (j : ℕ) → j < n → Entered t counted j (definition_on t j)
  counted_entered j l = entered_same t book counted j (definition_on t j) (counted_same j (omega (arith, r.count_is))) (r.entered j l)

  pub counted_held : Held t counted
  counted_held = record {
    cells = length-set book cell_count n ∙ r.cells;
    most = omega (arith, counted_is, r.count_is);
    within = λ j l. (counted_entered j (omega (arith, counted_is))).name_within;
  }

  module _ (linked : List ℕ) (k : Linked t counted linked) where
    count_linked : count_in linked ≡ n
    count_linked = count_kept t counted linked k.kept ∙ counted_is

    linked_same : (j : ℕ) → j < room → SameEntry counted linked j
    linked_same j l = record {
      kind = k.kept.entries j (omega arith);
      name = k.kept.entries (cell_name + j) (omega arith);
      size = k.kept.entries (cell_size + j) (omega arith);
      start = k.kept.entries (cell_start + j) (omega arith);
      end = k.kept.entries (cell_end + j) (omega arith);
    }

    linked_entered : (j : ℕ) → j < n → Entered t linked j (definition_on t j)
    linked_entered j l = entered_same t counted linked j (definition_on t j) (linked_same j (omega (arith, r.count_is))) (counted_entered j l)

    one_key : (j : ℕ) → j < n → key_at t linked j ≡ key_of (definition_on t j)
    one_key j l =
        let e = linked_entered j l in
        let u : get_or linked j 0 ≡ (definition_on t j).tag = sym (ap (λ (x : Definition). x.tag) e.is) in
        rw (e.name, u)

    linked_keys : keys_of t linked ≡ map key_of (table_of t)
    linked_keys =
        ext_get_or no_key (keys_of t linked) (map key_of (table_of t)) (keys_count t linked ∙ count_linked ∙ r.count_is ∙ sym (length-map (table_of t) key_of))
        (λ j l.
        let m : j < n = omega (arith, keys_count t linked, count_linked) in
        keys_at t linked j (omega (arith, count_linked)) ∙ one_key j m ∙ sym (map_keys (table_of t) j))

    pub booked_is : length t ≤ most_table → Booked t linked
    booked_is s = record {
      short = s;
      count = count_linked ∙ r.count_is;
      entered = λ i l. linked_entered i (omega (arith, count_linked));
      keys = linked_keys;
      indexed = k.indexed;
    }
