-- The entries of definition after definition.
use mathlib.Core.Path.{◌≡◌, refl, sym, ap, ◌∙◌}
use mathlib.Core.Bool.{Bool, true, false}
use mathlib.Core.List.{List, ◌∷◌}
use Prim.Native.Nat.{ℕ, suc, ◌+◌, ◌≤◌, ◌<◌}
use native.Mathlib.Omega.{arith}
use lib.ListN.{length, drop, get_or, set, length-set}
use lib.Seq.{drop-cons, get_or-set_same, get_or-set_other}
use lib.Dec.{leb, ltb}
use borrow.Author.Tests.{le-leb, lt-leb, ltb-true, ltb-false}
use Rattle.paper_table.specs.TableNumbers.{tag_object, tag_interface, tag_input_object, tag_directive}
use Rattle.paper_table.specs.Types.{Definition, Member, Table, table_of, blank_definition, tag_nothing}
use Rattle.table_book.specs.Book.{count_in, room}
use Rattle.table_types.specs.Booked.{Booked, definition_on}
use Rattle.table_types.proofs.Entries.{tag_entered}
use Rattle.table_entries.specs.Entries.{cells_before, Roomy, entry_at, first_of, has_types, Members, MemberEntry, Entered, Enterable, entries_of, entries_in, entries_on, Written, DefinitionWritten}
use Rattle.table_entries.proofs.Runs.{roomy_less, Same, run_same, member_same}

-- by kinds
pub types_below : (k : ℕ) → k < tag_object → false ≡ has_types k
types_below k h = rw (lt-leb tag_object k)

pub types_composite : (k : ℕ) → tag_object ≤ k → k ≤ tag_interface → true ≡ has_types k
types_composite k h l = rw (le-leb tag_object k h, le-leb k tag_interface l)

pub types_between : (k : ℕ) → tag_interface < k → k < tag_input_object → false ≡ has_types k
types_between k h l = rw (le-leb tag_object k (omega arith), lt-leb k tag_interface h, lt-leb tag_input_object k l)

pub types_inputs : (k : ℕ) → tag_input_object ≤ k → leb k tag_directive ≡ has_types k
types_inputs k h = rw (le-leb tag_object k (omega arith), lt-leb k tag_interface (omega arith), le-leb tag_input_object k h)

-- the test of the kind in the book is that of the definition's
pub typed_is : (t book : List ℕ) → Booked t book → (i : ℕ) → i < count_in book → {k : ℕ} {r : Bool} → k ≡ get_or book i 0 → r ≡ has_types k → has_types (definition_on t i).tag ≡ r
typed_is t book b i l p q = ap has_types (sym (tag_entered t book b i l p)) ∙ sym q

pub some_entries : (d : Definition) → has_types d.tag ≡ true → entries_in d ≡ entries_of d.members
some_entries d q = rw q

-- a definition's entries
module _ (t book old : List ℕ) (e : ℕ) (d : Definition) where
  pub none_written : has_types d.tag ≡ false → DefinitionWritten t book old old e e d
  none_written q = record {
    cells = refl;
    before = λ k h. refl;
    run = λ h. absurd (no (sym q ∙ h));
    size = let z : entries_in d ≡ 0 = rw q in omega (arith, z);
  }
    where
      no : ◌≡◌ {A = Bool} false true → ⊥
      no p = let z : ◌≡◌ {A = ℕ} 0 1 = cc in omega arith

  pub some_written : (es : List ℕ) (f : ℕ) (ms : List Member) → has_types d.tag ≡ true → ms ≡ d.members → Written (MemberEntry t book) entries_of old es e f ms → DefinitionWritten t book old es e f d
  some_written es f ms q z w = record {
    cells = w.cells;
    before = w.before;
    run = λ h. rw z at w.run;
    size = omega (arith, w.size, some_entries d q, ap entries_of z);
  }

-- definitions up to number i are entered, up to entry e
pub record Spanning (t book old es : List ℕ) (i e : ℕ) : Type 0 where
  pub whole : length es ≡ length old
  pub count : i ≤ count_in book
  pub here : first_of es i ≡ e
  pub order : (j : ℕ) → j ≤ i → first_of es j ≤ e
  pub few : Roomy es (e + entries_on (drop i (table_of t)))
  pub are : (j : ℕ) → j < i → has_types (definition_on t j).tag ≡ true → Members t book es (first_of es j) (first_of es (suc j)) (definition_on t j).members

-- entries behind the spans keep what they say
members_kept : (t book old es : List ℕ) (e f : ℕ) (ms : List Member) → Same old es (entry_at e) (entry_at f) → Members t book old e f ms → Members t book es e f ms
members_kept t book old es e f ms s r =
    run_same (MemberEntry t book old) (MemberEntry t book es) old es e f s (λ j m a b d p. member_same t book old es j m b (λ k g h. s k (omega arith) (omega arith)) p) e ms (omega arith) r

entries_cons : (d : Definition) (ds : Table) → entries_on (d ∷ ds) ≡ entries_in d + entries_on ds
unfolding entries_on
entries_cons d ds = refl

pub spanning_start : (t book old es : List ℕ) → Enterable t book es → length (set es 0 0) ≡ length old → Spanning t book old (set es 0 0) 0 0
spanning_start t book old es b q = record {
  whole = q;
  count = omega arith;
  here = z;
  order = λ j h. let q : j ≡ 0 = omega arith in rw q (omega (arith, z));
  few = record { cells = omega (arith, length-set es 0 0, b.few.cells); most = omega (arith, b.few.most) };
  are = λ j l. absurd (omega arith);
}
  where
    z : first_of (set es 0 0) 0 ≡ 0
    z = get_or-set_same es 0 0 0 (omega (arith, b.few.cells))

module _ (t book old es : List ℕ) (b : Booked t book) (i e : ℕ) (w : Spanning t book old es i e) where
  pub spanning_end : count_in book ≤ i → Entered t book es
  spanning_end h = record {
    most = λ j l. roomy_less w.few (omega (arith, w.order j (omega (arith, w.count))));
    are = λ j l. w.are j (omega arith);
  }

  module _ (l : i < count_in book) where
    next_is : drop i (table_of t) ≡ definition_on t i ∷ drop (suc i) (table_of t)
    next_is = drop-cons (table_of t) i (blank_definition tag_nothing) (omega (arith, b.count))

    pub next_few : Roomy es (e + entries_in (definition_on t i) + entries_on (drop (suc i) (table_of t)))
    next_few = roomy_less w.few (omega (arith, ap entries_on next_is, entries_cons (definition_on t i) (drop (suc i) (table_of t))))

    pub next_room : i < room
    next_room = omega (arith, b.indexed.held.most)

    module _ (mid : List ℕ) (f : ℕ) (x : DefinitionWritten t book es mid e f (definition_on t i)) where
      abbrev es' : List ℕ
      es' = set mid (i + 1) f

      mid_cells : cells_before ≤ length mid
      mid_cells = omega (arith, x.cells, w.few.cells)

      first_same : (j : ℕ) → j ≤ i → first_of es' j ≡ first_of es j
      first_same j h = get_or-set_other mid (i + 1) j f 0 (λ z. omega arith) ∙ x.before j (omega (arith, next_room))

      first_next : first_of es' (i + 1) ≡ f
      first_next = get_or-set_same mid (i + 1) f 0 (omega (arith, mid_cells, next_room))

      longer : e ≤ f
      longer = omega (arith, x.size)

      old_same : (lo hi : ℕ) → hi ≤ e → Same es es' (entry_at lo) (entry_at hi)
      old_same lo hi h k g m = get_or-set_other mid (i + 1) k f 0 (λ z. omega (arith, next_room)) ∙ x.before k (omega arith)

      mid_same : (lo hi : ℕ) → Same mid es' (entry_at lo) (entry_at hi)
      mid_same lo hi k g m = get_or-set_other mid (i + 1) k f 0 (λ z. omega (arith, next_room))

      pub spanning_more : Spanning t book old es' (i + 1) f
      spanning_more = record {
        whole = length-set mid (i + 1) f ∙ x.cells ∙ w.whole;
        count = omega arith;
        here = first_next;
        order = λ j h. order_go j h (ltb j (i + 1)) refl;
        few =
            let z : i + 1 ≡ suc i = omega arith in
            let n = next_few in
            rw z (record { cells = omega (arith, length-set mid (suc i) f, x.cells, x.size, n.cells); most = omega (arith, x.size, n.most) });
        are = λ j h. are_go j h (ltb j i) refl;
      }
        where
          order_go : (j : ℕ) → j ≤ i + 1 → (q : Bool) → ltb j (i + 1) ≡ q → first_of es' j ≤ f
          order_go j h true p = let g : j < i + 1 = ltb-true j (i + 1) p in omega (arith, first_same j (omega arith), w.order j (omega arith), longer)
          order_go j h false p =
              let g : i + 1 ≤ j = ltb-false j (i + 1) p in
              let z : j ≡ i + 1 = omega arith in
              rw z (omega (arith, first_next))

          are_go : (j : ℕ) → j < i + 1 → (q : Bool) → ltb j i ≡ q → has_types (definition_on t j).tag ≡ true
              → Members t book es' (first_of es' j) (first_of es' (suc j)) (definition_on t j).members
          are_go j h true p u =
              let g : j < i = ltb-true j i p in
              rw (first_same j (omega arith), first_same (suc j) (omega arith))
              (members_kept t book es es' (first_of es j) (first_of es (suc j)) (definition_on t j).members (old_same (first_of es j) (first_of es (suc j)) (w.order (suc j) (omega arith))) (w.are j g u))
          are_go j h false p u =
              let g : i ≤ j = ltb-false j i p in
              let z : j ≡ i = omega arith in
              let v : has_types (definition_on t i).tag ≡ true = rw z at u in
              let y : suc i ≡ i + 1 = omega arith in
              rw (z, first_same i (omega arith), w.here, y, first_next) (members_kept t book mid es' e f (definition_on t i).members (mid_same e f) (x.run v))
