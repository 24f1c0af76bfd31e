-- Objects, interfaces and unions, by the book of a table.
use mathlib.Core.Path.{◌≡◌, refl, sym, ap, ◌∙◌}
use mathlib.Core.Bool.{Bool, true, false, true≢false}
use mathlib.Core.Option.{Option, none}
use mathlib.Core.List.{List}
use Prim.Native.Nat.{ℕ, ◌+◌, ◌≤◌, ◌<◌}
use native.Mathlib.Numerals.{add-one}
use native.Mathlib.Decide.{dec_lt}
use native.Mathlib.Omega.{arith}
use lib.ListN.{get_or-eq_default}
use borrow.Author.Tests.{lt-ltb, le-ltb, lt-leb}
use Rattle.paper_table.specs.TableNumbers.{tag_object, tag_scalar}
use Rattle.paper_table.specs.Types.{Definition, Meaning, built_in, no_meaning, definition, definition_by, meaning, table_of, type_named, is_built_in, blank_definition, tag_nothing, is_composite}
use Rattle.paper_table.specs.Lists.{first_at}
use Rattle.paper_query.specs.Enclosing.{definition_at, if_composite, composite_of}
use Rattle.table_book.specs.Book.{count_in, room}
use Rattle.table_types.specs.Booked.{Booked, NumberMeant, spoken, kind_in, is_composite_tag}
use Rattle.table_types.proofs.Meanings.{means_definition, means_nothing}
use Rattle.query_types.specs.Coded.{type_coded}

module _ (t book : List ℕ) (b : Booked t book) where
  -- definition k's tag; none behind the last
  pub kind_is : (k : ℕ) → kind_in book k ≡ (definition_at (table_of t) k).tag
  kind_is k = go (dec_lt k (count_in book))
    where
      go : Dec (k < count_in book) → kind_in book k ≡ (definition_at (table_of t) k).tag
      go (yes h) = rw (lt-ltb k (count_in book) h) (sym (ap (λ (d : Definition). d.tag) (b.entered k h).is))
      go (no h) =
          let n : count_in book ≤ k = omega arith in
          rw (le-ltb k (count_in book) n) (sym (ap (λ (d : Definition). d.tag) (get_or-eq_default (table_of t) (blank_definition tag_nothing) (omega (arith, b.count)))))

  -- an object, interface or union is a definition of the table
  pub output_below : (k : ℕ) → is_composite (definition_at (table_of t) k) ≡ true → k < count_in book
  output_below k e = go (dec_lt k (count_in book))
    where
      go : Dec (k < count_in book) → k < count_in book
      go (yes h) = h
      go (no h) =
          let q : definition_at (table_of t) k ≡ blank_definition tag_nothing = get_or-eq_default (table_of t) (blank_definition tag_nothing) (omega (arith, b.count)) in
          absurd (true≢false (sym e ∙ ap is_composite q))

  module _ (k : ℕ) {r : Bool} (e : r ≡ is_composite_tag (kind_in book k)) where
    is_output : r ≡ is_composite (definition_at (table_of t) k)
    is_output = e ∙ ap is_composite_tag (kind_is k)

    pub kind_few : r ≡ true → k < room
    kind_few q = let h = output_below k (sym is_output ∙ q) in omega (arith, h, b.indexed.held.most)

    pub composite_yes : r ≡ true → type_coded (k + 1) ≡ if_composite (table_of t) (definition k)
    composite_yes q = rw (add-one k, sym is_output ∙ q)

    pub composite_no : r ≡ false → none ≡ if_composite (table_of t) (definition k)
    composite_no q = rw (sym is_output ∙ q)

-- by what a name means
module _ (t n : List ℕ) where
  means : (m k : Meaning) → spoken k ≡ spoken m → m ≡ k
  means built_in built_in e = refl
  means built_in no_meaning e = absurd (true≢false cc)
  means built_in (definition k) e = absurd (true≢false cc)
  means no_meaning built_in e = absurd (true≢false cc)
  means no_meaning no_meaning e = refl
  means no_meaning (definition k) e = absurd (true≢false cc)
  means (definition i) built_in e = absurd (true≢false cc)
  means (definition i) no_meaning e = absurd (true≢false cc)
  means (definition i) (definition k) e = let z : i ≡ k = cc in ap definition z

  pub composite_by : (k : Meaning) {r : Option ℕ} → spoken k ≡ spoken (meaning (table_of t) n) → r ≡ if_composite (table_of t) k → r ≡ composite_of (table_of t) n
  unfolding composite_of
  composite_by k e f = f ∙ ap (if_composite (table_of t)) (sym (means (meaning (table_of t) n) k e))

-- what means a built-in scalar or nothing is no such type
low_none : (t : List ℕ) (m : Meaning) → (definition_by (table_of t) m).tag ≤ tag_scalar → if_composite (table_of t) m ≡ none
low_none t built_in h = refl
low_none t no_meaning h = refl
low_none t (definition k) h = rw (lt-leb tag_object (definition_at (table_of t) k).tag (omega arith))

-- by the number of the definition that a name means
pub composite_number : (t book n : List ℕ) (k : ℕ) → Booked t book → NumberMeant t book n k → if_composite (table_of t) (definition k) ≡ composite_of (table_of t) n
unfolding composite_of
composite_number t book n k b m = go (dec_lt k (count_in book))
  where
    go : Dec (k < count_in book) → if_composite (table_of t) (definition k) ≡ if_composite (table_of t) (meaning (table_of t) n)
    go (yes h) = sym (ap (if_composite (table_of t)) (m.number h))
    go (no h) =
        let q : definition_at (table_of t) k ≡ blank_definition tag_nothing = get_or-eq_default (table_of t) (blank_definition tag_nothing) (omega (arith, b.count)) in
        low_none t (definition k) (rw q (omega arith))
        ∙ sym (low_none t (meaning (table_of t) n) (m.none (omega arith)))

-- by the number of the first type of a name, which is no built-in scalar's
pub composite_first : (t book : List ℕ) → Booked t book → (n : List ℕ) {k : ℕ} {r : Option ℕ} → k ≡ first_at (type_named n) (table_of t) → is_built_in n ≡ false
    → r ≡ if_composite (table_of t) (definition k) → r ≡ composite_of (table_of t) n
composite_first t book b n {k} {r} e q f = go (dec_lt k (count_in book))
  where
    go : Dec (k < count_in book) → r ≡ composite_of (table_of t) n
    go (yes h) = composite_by t n (definition k) (means_definition t book b n e q h) f
    go (no h) =
        let l : count_in book ≤ k = omega arith in
        let o : definition_at (table_of t) k ≡ blank_definition tag_nothing = get_or-eq_default (table_of t) (blank_definition tag_nothing) (omega (arith, b.count)) in
        let z : if_composite (table_of t) (definition k) ≡ none = rw o in
        composite_by t n no_meaning (means_nothing t book b n e q l) (f ∙ z)
