-- The type due at a row, by its kind and its parent's; and what is due at an argument or an object's field, by the numbers kept.
use mathlib.Core.Path.{◌≡◌, refl, sym, ap, subst, ◌∙◌}
use mathlib.Core.Bool.{Bool, true, false}
use mathlib.Core.Option.{Option, none, some}
use mathlib.Core.List.{List}
use Prim.Native.Nat.{ℕ, ◌-◌, ◌≤◌, ◌<◌}
use native.Mathlib.Decide.{dec_lt}
use native.Mathlib.Omega.{arith}
use lib.Dec.{eqb}
use borrow.Author.Tests.{eq-eqb, ne_eqb, eqb-true, eqb-false, le-leb, lt-leb, le-ltb}
use Rattle.paper.specs.Numbers.{kind_field, kind_argument, kind_directive, kind_object_field, kind_list, kind_variable, kind_object}
use Rattle.paper_table.specs.TableNumbers.{tag_input_object, tag_scalar}
use Rattle.paper_table.specs.Lists.{bytes, any_of, all_of, find}
use Rattle.paper_table.specs.Types.{Member, Definition, Table, table_of, built_ins, meaning, meant, member_named, argument_named}
use Rattle.paper_query.specs.Constructs.{Doc, kind_of, parent_of, name_of}
use Rattle.paper_query.specs.Enclosing.{FieldIs, typename, member, missing, unknown, then, field_at, enclosing, argument_called}
use Rattle.paper_query.specs.PlaceTypes.{Shape, shape, item_of, input_field_of, argument_place, place_from}
use Rattle.table_book.specs.Book.{count_in}
use Rattle.table_types.specs.Booked.{definition_on, kind_in, Booked, NumberMeant}
use Rattle.table_entries.specs.Entries.{has_types, MeantAnswer}
use Rattle.query_rows.specs.Rowed.{row_in}
use Rattle.query_rows.proofs.RowsIn.{row_none}
use Rattle.query_fields.specs.Kept.{field_typename, field_first, FieldKept}
use Rattle.query_types.proofs.CompositeLaws.{kind_is}
use Rattle.query_place_types.specs.Shapes.{place_unknown, place_first, base_at, coded, Within, Keeps, ArgumentPlace, slim_argument, argument_shape, member_shape}
use Rattle.query_due_types.specs.Dues.{Fitted}
use Rattle.query_place_types.specs.declared.Place.{Place}
use Rattle.query_place_types.proofs.ShapeLaws.{coded_unknown, coded_boolean, coded_base, keeps_unknown}
use Rattle.query_due_types.proofs.FittedLaws.{arguments_slim}

-- a row of a kind is there
pub field_there : (rows : List ℕ) (n p : ℕ) → (row_in rows n p).kind ≡ kind_field → p < n
field_there rows n p e = go (dec_lt p n)
  where
    go : Dec (p < n) → p < n
    go (yes h) = h
    go (no h) = absurd (omega (arith, rw (row_none rows n p (omega arith)) at e))

module _ (t : Table) (d : Doc) (i : ℕ) where
  -- an argument's, by what it is an argument of
  pub argument_of_directive : kind_of d (parent_of d i) ≡ kind_directive → argument_place t d i ≡ some (shape (bytes "Boolean") 0)
  argument_of_directive e = rw (eq-eqb (kind_of d (parent_of d i)) kind_directive e)

  pub argument_of_other : (kind_of d (parent_of d i) ≡ kind_directive → ⊥) → (kind_of d (parent_of d i) ≡ kind_field → ⊥) → argument_place t d i ≡ none
  argument_of_other e f = rw (ne_eqb (kind_of d (parent_of d i)) kind_directive e, ne_eqb (kind_of d (parent_of d i)) kind_field f)

  pub argument_of_field : kind_of d (parent_of d i) ≡ kind_field → argument_place t d i ≡ argument_shape (argument_called (field_at t d (parent_of d i)) (name_of d i))
  argument_of_field e =
      rw (ne_eqb (kind_of d (parent_of d i)) kind_directive (λ z. omega arith), eq-eqb (kind_of d (parent_of d i)) kind_field e)

  -- any row's, by its kind
  module _ (above : Option Shape) where
    pub from_argument : kind_of d i ≡ kind_argument → place_from t d i above ≡ argument_place t d i
    unfolding place_from
    from_argument e = rw (eq-eqb (kind_of d i) kind_argument e)

    pub from_object_field : kind_of d i ≡ kind_object_field → place_from t d i above ≡ then above (input_field_of t (name_of d i))
    unfolding place_from
    from_object_field e = rw (ne_eqb (kind_of d i) kind_argument (λ z. omega arith), eq-eqb (kind_of d i) kind_object_field e)

    module _ (a : kind_of d i ≡ kind_argument → ⊥) (b : kind_of d i ≡ kind_object_field → ⊥) where
      pub from_lower : kind_of d i < kind_variable → place_from t d i above ≡ none
      unfolding place_from
      from_lower h = rw (ne_eqb (kind_of d i) kind_argument a, ne_eqb (kind_of d i) kind_object_field b, lt-leb kind_variable (kind_of d i) h)

      module _ (h : kind_variable ≤ kind_of d i) where
        pub from_higher : kind_object < kind_of d i → place_from t d i above ≡ none
        unfolding place_from
        from_higher l =
            rw (ne_eqb (kind_of d i) kind_argument a, ne_eqb (kind_of d i) kind_object_field b, le-leb kind_variable (kind_of d i) h, lt-leb (kind_of d i) kind_object l)

        module _ (l : kind_of d i ≤ kind_object) where
          pub from_item : kind_of d (parent_of d i) ≡ kind_list → place_from t d i above ≡ then above item_of
          unfolding place_from
          from_item e =
              rw (ne_eqb (kind_of d i) kind_argument a, ne_eqb (kind_of d i) kind_object_field b, le-leb kind_variable (kind_of d i) h, le-leb (kind_of d i) kind_object l, eq-eqb (kind_of d (parent_of d i)) kind_list e)

          pub from_value : (kind_of d (parent_of d i) ≡ kind_list → ⊥) → place_from t d i above ≡ above
          unfolding place_from
          from_value e =
              rw (ne_eqb (kind_of d i) kind_argument a, ne_eqb (kind_of d i) kind_object_field b, le-leb kind_variable (kind_of d i) h, le-leb (kind_of d i) kind_object l, ne_eqb (kind_of d (parent_of d i)) kind_list e)

-- a field as it is kept: no member
none_of_leaf : {t book es : List ℕ} (at : ℕ) (n : List ℕ) (f : FieldIs) → FieldKept t book es f at → at ≤ field_typename → argument_called f n ≡ none
none_of_leaf at n unknown k h = refl
none_of_leaf at n missing k h = refl
none_of_leaf at n typename k h = refl
none_of_leaf at n (member m) k h = absurd (omega (arith, k.kept.first))

module _ (t book es : List ℕ) (d : Doc) (i at : ℕ) (e : kind_of d (parent_of d i) ≡ kind_field) (k : FieldKept t book es (field_at (table_of t) d (parent_of d i)) at) (r : Place) where
  -- an argument of what is no member
  pub argument_of_leaf : at ≤ field_typename → r.at ≡ place_unknown → Keeps t book es (argument_place (table_of t) d i) r
  argument_of_leaf h z =
      rw (argument_of_field (table_of t) d i e, none_of_leaf at (name_of d i) (field_at (table_of t) d (parent_of d i)) k h) (keeps_unknown t book es r z)

  -- an argument of a member
  pub argument_of_member : Fitted t → field_typename < at → ArgumentPlace t book es (at - field_first) (name_of d i) r → Keeps t book es (argument_place (table_of t) d i) r
  argument_of_member w h a = rw (argument_of_field (table_of t) d i e) (go (field_at (table_of t) d (parent_of d i)) refl k)
    where
      go : (f : FieldIs) → field_at (table_of t) d (parent_of d i) ≡ f → FieldKept t book es f at → Keeps t book es (argument_shape (argument_called f (name_of d i))) r
      go unknown q x = absurd (omega (arith, x.kept))
      go missing q x = absurd (omega (arith, x.kept))
      go typename q x = absurd (omega (arith, x.kept))
      go (member m) q x =
          let s = x.kept.stands in
          let l : all_of slim_argument m.arguments ≡ true = arguments_slim t w (enclosing (table_of t) d (parent_of d i)) (name_of d (parent_of d i)) m q in
          subst (λ (y : Member). Keeps t book es (argument_shape (find (argument_named (name_of d i)) y.arguments)) r) x.kept.is (a s.member s.is (rw x.kept.is l))

-- an object's field, by the definition that the base means
module _ (t : Table) (n base : List ℕ) (w : ℕ) where
  field_of_other : ((meant t base).tag ≡ tag_input_object → ⊥) → input_field_of t n (shape base w) ≡ none
  unfolding input_field_of
  field_of_other e = rw (ne_eqb (meant t base).tag tag_input_object e)

  field_of_object : (meant t base).tag ≡ tag_input_object → input_field_of t n (shape base w) ≡ member_shape (find (member_named n) (meant t base).members)
  unfolding input_field_of
  field_of_object e = rw (eq-eqb (meant t base).tag tag_input_object e)

-- Boolean is no input object
boolean_scalar : (t : Table) → (meant t (bytes "Boolean")).tag ≡ tag_scalar
unfolding meaning built_ins any_of
boolean_scalar t = refl

module _ (t book es : List ℕ) (b : Booked t book) (n : List ℕ) (p r : Place) where
  pub input_of_none : p.at < place_first → r.at ≡ place_unknown → Keeps t book es (then (coded t es p) (input_field_of (table_of t) n)) r
  input_of_none h z = rw (go (eqb p.at place_unknown) refl) (keeps_unknown t book es r z)
    where
      go : (a : Bool) → eqb p.at place_unknown ≡ a → then (coded t es p) (input_field_of (table_of t) n) ≡ none
      go true q = rw (coded_unknown t es p (eqb-true p.at place_unknown q))
      go false q =
          rw (coded_boolean t es p (omega (arith, eqb-false p.at place_unknown q)))
          (field_of_other (table_of t) n (bytes "Boolean") p.wrappers (λ e. omega (arith, boolean_scalar (table_of t))))

  module _ (h : place_first ≤ p.at) (w : Within t book es p) (k : ℕ) (a : MeantAnswer es (p.at - place_first) k) where
    meant_is : NumberMeant t book (base_at t es (p.at - place_first)) k
    meant_is = let s = w h in rw s.is.typed.base (a t book s.name s.type s.is)

    base_is : then (coded t es p) (input_field_of (table_of t) n) ≡ input_field_of (table_of t) n (shape (base_at t es (p.at - place_first)) p.wrappers)
    base_is = ap (λ (o : Option Shape). then o (input_field_of (table_of t) n)) (coded_base t es p h)

    pub input_of_other : (kind_in book k ≡ tag_input_object → ⊥) → r.at ≡ place_unknown → Keeps t book es (then (coded t es p) (input_field_of (table_of t) n)) r
    input_of_other e z =
        rw (base_is ∙ field_of_other (table_of t) n (base_at t es (p.at - place_first)) p.wrappers (λ q. go q (dec_lt k (count_in book)))) (keeps_unknown t book es r z)
      where
        go : (meant (table_of t) (base_at t es (p.at - place_first))).tag ≡ tag_input_object → Dec (k < count_in book) → ⊥
        go q (yes l) = e (kind_is t book b k ∙ ap (λ (d : Definition). d.tag) (sym (meant_is.is l)) ∙ q)
        go q (no l) = omega (arith, meant_is.none (omega arith))

    module _ (e : kind_in book k ≡ tag_input_object) where
      pub input_below : k < count_in book
      input_below = go (dec_lt k (count_in book))
        where
          go : Dec (k < count_in book) → k < count_in book
          go (yes l) = l
          go (no l) = let o : count_in book ≤ k = omega arith in absurd (omega (arith, rw (le-ltb k (count_in book) o) at e))

      tag_is : (definition_on t k).tag ≡ tag_input_object
      tag_is = sym (kind_is t book b k) ∙ e

      pub input_typed : has_types (definition_on t k).tag ≡ true
      input_typed = rw tag_is

      pub input_of_object : Keeps t book es (member_shape (find (member_named n) (definition_on t k).members)) r → Keeps t book es (then (coded t es p) (input_field_of (table_of t) n)) r
      input_of_object y =
          let a = meant_is.is input_below in
          rw (base_is ∙ field_of_object (table_of t) n (base_at t es (p.at - place_first)) p.wrappers (ap (λ (d : Definition). d.tag) a ∙ tag_is)
          ∙ ap (λ (d : Definition). member_shape (find (member_named n) d.members)) a) y
