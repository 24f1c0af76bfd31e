-- The content of a field of a name in a type, by the table's bytes.
use mathlib.Core.Path.{◌≡◌, refl, sym, ap, subst, ◌∙◌}
use mathlib.Core.Bool.{Bool, true, false, ◌&&◌, ◌||◌, true≢false}
use mathlib.Core.Option.{none}
use mathlib.Core.List.{List, []}
use Prim.Native.Nat.{ℕ, ◌-◌, ◌≤◌, ◌<◌}
use native.Mathlib.Omega.{arith}
use lib.ListN.{get_or}
use lib.Dec.{eqb, leb}
use borrow.Author.Tests.{eq-eqb, ne_eqb, eqb-true, eqb-false, leb-true}
use Rattle.paper_table.specs.TableNumbers.{tag_object, tag_interface, tag_union, tag_field}
use Rattle.paper_table.specs.Lists.{all_of, find}
use Rattle.paper_table.specs.Types.{Member, Definition, table_of, is_object, is_interface, blank_definition, tag_nothing, name_only, type_in as type_of, member_named}
use Rattle.paper_table.specs.Rule7NoType.{is_field}
use Rattle.paper_table.proofs.ListsLaws.{find_some}
use Rattle.paper_query.proofs.EnclosingLaws.{Composite}
use Rattle.paper_query.specs.Enclosing.{typename, member, missing, unknown, definition_at, composite_of, field_of, is_typename, or_missing, field_named, selections_type}
use Rattle.table_fields.specs.Fields.{Bounds}
use Rattle.table_book.specs.Book.{part, count_in}
use Rattle.table_members.specs.Members.{fields_in, members_in, member_from, Typed, Finds}
use Rattle.table_members.proofs.MemberLaws.{field_is, member_tag}
use Rattle.table_types.specs.Booked.{start_in, end_in, Booked}
use Rattle.table_types.proofs.Fitting.{all_at}
use Rattle.query_types.specs.Coded.{type_coded}
use Rattle.query_fields.specs.Kept.{fields_only, Fielded}
use Rattle.query_fields.proofs.FieldLaws.{type_some, number_below}
use Rattle.value_fields.specs.Wants.{Contains, ContentTyped}

-- what is no member has no content
module _ (t book : List ℕ) (b : Booked t book) where
  empty : Bounds t 0 0
  empty = record { order = omega arith; within = omega arith; most = b.short }

  pub none_unknown : Contains t unknown 0 0
  none_unknown = record { bounds = empty; ends = λ z. refl; none = λ z m e. apart e; is = λ h. absurd (omega arith) }
    where
      apart : {m : Member} → unknown ≡ member m → ⊥
      apart e = let y : true ≡ false = cc in true≢false y

  pub none_missing : Contains t missing 0 0
  none_missing = record { bounds = empty; ends = λ z. refl; none = λ z m e. apart e; is = λ h. absurd (omega arith) }
    where
      apart : {m : Member} → missing ≡ member m → ⊥
      apart e = let y : true ≡ false = cc in true≢false y

  pub none_typename : Contains t typename 0 0
  none_typename = record { bounds = empty; ends = λ z. refl; none = λ z m e. apart e; is = λ h. absurd (omega arith) }
    where
      apart : {m : Member} → typename ≡ member m → ⊥
      apart e = let y : true ≡ false = cc in true≢false y

  -- definition k is an object, interface or union
  module _ (k : ℕ) (o : Composite (table_of t) k) where
    below : k < count_in book
    below = number_below t book b k o

    tag_is : (definition_at (table_of t) k).tag ≡ get_or book k 0
    tag_is = ap (λ (d : Definition). d.tag) (b.entered k below).is

    -- its field of a name
    module _ (n : List ℕ) where
      pub union_lacks : get_or book k 0 ≡ tag_union → Contains t (or_missing (field_of (table_of t) k n)) 0 0
      unfolding field_of
      union_lacks u = rw (eq-eqb (definition_at (table_of t) k).tag tag_union (tag_is ∙ u)) none_missing

      module _ (u : get_or book k 0 ≡ tag_union → ⊥) (start end : ℕ) (p : start ≡ start_in book k) (q : end ≡ end_in book k) where
        members_are : (definition_at (table_of t) k).members ≡ members_in t start end
        members_are = rw (p, q) (ap (λ (d : Definition). d.members) (b.entered k below).is)

        field_sought : field_of (table_of t) k n ≡ find (member_named n) (members_in t start end)
        unfolding field_of
        field_sought = rw (ne_eqb (definition_at (table_of t) k).tag tag_union (λ z. u (sym tag_is ∙ z))) (ap (find (member_named n)) members_are)

        pub field_lacks : find (member_named n) (members_in t start end) ≡ none → Contains t (or_missing (field_of (table_of t) k n)) 0 0
        field_lacks e = rw (field_sought ∙ e) none_missing

        has_fields : is_object (definition_at (table_of t) k) || is_interface (definition_at (table_of t) k) ≡ true
        has_fields = go (leb tag_object (definition_at (table_of t) k).tag) refl (leb (definition_at (table_of t) k).tag tag_union) refl o
          where
            x : ℕ
            x = (definition_at (table_of t) k).tag

            either : tag_object ≤ x → x ≤ tag_union → (a : Bool) → eqb x tag_object ≡ a → (c : Bool) → eqb x tag_interface ≡ c → a || c ≡ true
            either h l true e c f = refl
            either h l false e true f = refl
            either h l false e false f = absurd (u (sym tag_is ∙ omega (arith, eqb-false x tag_object e, eqb-false x tag_interface f)))

            go : (a : Bool) → leb tag_object x ≡ a → (c : Bool) → leb x tag_union ≡ c → a && c ≡ true → is_object (definition_at (table_of t) k) || is_interface (definition_at (table_of t) k) ≡ true
            go true e true f z = either (leb-true tag_object x e) (leb-true x tag_union f) (eqb x tag_object) refl (eqb x tag_interface) refl
            go true e false f z = absurd (true≢false (sym z))
            go false e c f z = absurd (true≢false (sym z))

        pub field_contained : Fielded (table_of t) → (tag from to : ℕ) → Finds start end from to (find (member_named n) (members_in t start end)) (member_from t tag from to) → Contains t (or_missing (field_of (table_of t) k n)) from to
        field_contained f tag from to s = record {
          bounds = record { order = s.lies.order; within = omega (arith, s.lies.within, q, (b.entered k below).within); most = b.short };
          ends = λ z. absurd (omega (arith, s.lies.begins));
          none = λ z. absurd (omega (arith, s.lies.begins));
          is = λ h. ap or_missing (field_sought ∙ s.is) ∙ ap (λ (x : ℕ). member (member_from t x from to)) is_field_is;
        }
          where
            is_field_is : tag ≡ tag_field
            is_field_is =
                let a : fields_only (definition_at (table_of t) k) ≡ true = all_at fields_only (blank_definition tag_nothing) (table_of t) f k (omega (arith, below, b.count)) in
                let m : all_of is_field (members_in t start end) ≡ true = sym (ap (all_of is_field) members_are) ∙ (rw has_fields at a) in
                let z = find_some (member_named n) (members_in t start end) (member_from t tag from to) (name_only tag_nothing []) s.is in
                let y : is_field (member_from t tag from to) ≡ true = subst (λ (e : Member). is_field e ≡ true) z.2 (all_at is_field (name_only tag_nothing []) (members_in t start end) m z.0 z.1) in
                sym (member_tag t tag from to) ∙ eqb-true (member_from t tag from to).tag tag_field y

  -- what a field is in the type above
  module _ (above : ℕ) (n : List ℕ) where
    pub in_none : above ≡ 0 → Contains t (field_named (table_of t) (type_coded above) n) 0 0
    in_none e = rw e none_unknown

    pub in_typename : (above ≡ 0 → ⊥) → is_typename n ≡ true → Contains t (field_named (table_of t) (type_coded above) n) 0 0
    in_typename h e = rw (type_some above h, e) none_typename

    pub in_type : {start end : ℕ} → (above ≡ 0 → ⊥) → is_typename n ≡ false → Contains t (or_missing (field_of (table_of t) (above - 1) n)) start end → Contains t (field_named (table_of t) (type_coded above) n) start end
    in_type h e f = rw (type_some above h, e) f

-- the type of a field's selections
module _ (t : List ℕ) (start end : ℕ) where
  pub leaf_type : start ≡ 0 → ContentTyped t start end 0
  leaf_type h unknown k = refl
  leaf_type h missing k = refl
  leaf_type h typename k = refl
  leaf_type h (member m) k = absurd (k.none h m refl)

  pub member_type : (c : ℕ) → (start ≡ 0 → ⊥) → (a s w : ℕ) → Typed t a s w (type_of (fields_in t start end)) → type_coded c ≡ composite_of (table_of t) (part t a s) → ContentTyped t start end c
  member_type c h a s w y e f k =
      e ∙ ap (composite_of (table_of t)) y.base ∙ ap (selections_type (table_of t)) (ap member (sym (field_is t tag_field start end refl)) ∙ sym (k.is (omega (arith, h))))
