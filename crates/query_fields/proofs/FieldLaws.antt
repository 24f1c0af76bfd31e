-- Fields by their number.
use mathlib.Core.Path.{◌≡◌, refl, sym, ap, subst, ◌∙◌}
use mathlib.Core.Bool.{Bool, true, false, ◌&&◌, true≢false}
use mathlib.Core.Option.{some}
use mathlib.Core.List.{List}
use Prim.Native.Nat.{ℕ, zero, suc, ◌+◌, ◌-◌, ◌≤◌, ◌<◌}
use native.Mathlib.Omega.{arith}
use lib.ListN.{get_or}
use lib.Dec.{leb}
use borrow.Author.Tests.{eq-eqb, ne_eqb, le-leb, leb-true}
use Rattle.paper_table.specs.TableNumbers.{tag_object, tag_interface, tag_union}
use Rattle.paper_table.specs.Lists.{find}
use Rattle.paper_table.specs.References.{base_of}
use Rattle.paper_table.specs.Types.{Member, Definition, table_of, definition, member_named}
use Rattle.paper_query.proofs.EnclosingLaws.{Composite}
use Rattle.paper_query.specs.Enclosing.{FieldIs, typename, member, missing, unknown, definition_at, if_composite, composite_of, field_of, is_typename, or_missing, field_named}
use Rattle.table_book.specs.Book.{room, count_in}
use Rattle.table_types.specs.Booked.{Booked}
use Rattle.table_entries.specs.Entries.{room_entries, Roomy, next_of, has_types, MemberEntry, Hit, MemberStands, MeantAnswer}
use Rattle.query_types.specs.Coded.{type_coded}
use Rattle.query_types.proofs.CompositeLaws.{output_below, composite_number}
use Rattle.query_fields.specs.Kept.{field_unknown, field_missing, field_typename, field_first, FieldKept, FieldStands, FieldTyped}

module _ (t book es : List ℕ) where
  -- where it is no member
  pub kept_unknown : FieldKept t book es unknown field_unknown
  kept_unknown = record { kept = refl }

  pub kept_missing : FieldKept t book es missing field_missing
  kept_missing = record { kept = refl }

  pub kept_typename : FieldKept t book es typename field_typename
  kept_typename = record { kept = refl }

  -- where it is one
  pub kept_member : (m : Member) (e at : ℕ) (w : MemberStands t book es e) → w.member ≡ m → at ≡ e + field_first → FieldKept t book es (member m) at
  kept_member m e at w q z =
      let back : e ≡ at - field_first = omega arith in
      record {
        kept = record {
          first = omega arith;
          stands = record {
            member = w.member;
            is = subst (λ (x : ℕ). MemberEntry t book es x w.member) back w.is;
            on = subst (λ (x : ℕ). x < next_of es x) back w.on;
            most = subst (λ (x : ℕ). Roomy es (next_of es x)) back w.most;
          };
          is = q;
        };
      }

  -- a member's number is that of an entry
  pub kept_stands : (f : FieldIs) (at : ℕ) → FieldKept t book es f at → FieldStands t book es at
  kept_stands unknown at k h = absurd (omega (arith, k.kept))
  kept_stands missing at k h = absurd (omega (arith, k.kept))
  kept_stands typename at k h = absurd (omega (arith, k.kept))
  kept_stands (member m) at k h = k.kept.stands

-- a type is one more than its number
pub type_some : (c : ℕ) → (c ≡ 0 → ⊥) → type_coded c ≡ some (c - 1)
type_some zero h = absurd (h refl)
type_some (suc k) h = let e : k ≡ suc k - 1 = omega arith in ap some e

-- definition k is an object, interface or union
module _ (t book : List ℕ) (b : Booked t book) (k : ℕ) (o : Composite (table_of t) k) where
  pub number_below : k < count_in book
  number_below = output_below t book b k o

  pub number_room : k < room
  number_room = omega (arith, number_below, b.indexed.held.most)

  tag_is : (definition_at (table_of t) k).tag ≡ get_or book k 0
  tag_is = ap (λ (d : Definition). d.tag) (b.entered k number_below).is

  -- its field of a name
  module _ (es n : List ℕ) where
    pub union_lacks : get_or book k 0 ≡ tag_union → FieldKept t book es (or_missing (field_of (table_of t) k n)) field_missing
    unfolding field_of
    union_lacks u = rw (eq-eqb (definition_at (table_of t) k).tag tag_union (tag_is ∙ u)) (kept_missing t book es)

    module _ (u : get_or book k 0 ≡ tag_union → ⊥) where
      field_sought : field_of (table_of t) k n ≡ find (member_named n) (definition_at (table_of t) k).members
      unfolding field_of
      field_sought = rw (ne_eqb (definition_at (table_of t) k).tag tag_union (λ z. u (sym tag_is ∙ z)))

      -- an object or interface, whose members have types
      pub members_typed : has_types (definition_at (table_of t) k).tag ≡ true
      members_typed = go (leb tag_object x) refl (leb x tag_union) refl o
        where
          x : ℕ
          x = (definition_at (table_of t) k).tag

          go : (a : Bool) → leb tag_object x ≡ a → (c : Bool) → leb x tag_union ≡ c → a && c ≡ true → has_types x ≡ true
          go true e true f z =
              let l : x ≤ tag_union = leb-true x tag_union f in
              rw (e, le-leb x tag_interface (let y : x ≡ tag_union → ⊥ = λ q. u (sym tag_is ∙ q) in omega arith))
          go true e false f z = absurd (true≢false (sym z))
          go false e c f z = absurd (true≢false (sym z))

      module _ (r : ℕ) (h : Hit t book es room_entries n (definition_at (table_of t) k).members r) where
        pub field_lacks : room_entries ≤ r → FieldKept t book es (or_missing (field_of (table_of t) k n)) field_missing
        field_lacks l = rw (field_sought ∙ h.none_is l) (kept_missing t book es)

        pub field_kept : r < room_entries → (at : ℕ) → at ≡ r + field_first → FieldKept t book es (or_missing (field_of (table_of t) k n)) at
        field_kept l at q =
            let g = h.found l in
            rw (field_sought ∙ g.1) (kept_member t book es g.0 r at (record { member = g.0; is = g.2; on = g.3; most = g.5 }) refl q)

-- what a field is in the type above
module _ (t book es : List ℕ) (above : ℕ) (n : List ℕ) where
  pub in_none : above ≡ 0 → FieldKept t book es (field_named (table_of t) (type_coded above) n) field_unknown
  in_none e = rw e (kept_unknown t book es)

  pub in_typename : (above ≡ 0 → ⊥) → is_typename n ≡ true → FieldKept t book es (field_named (table_of t) (type_coded above) n) field_typename
  in_typename h e = rw (type_some above h, e) (kept_typename t book es)

  pub in_type : {at : ℕ} → (above ≡ 0 → ⊥) → is_typename n ≡ false → FieldKept t book es (or_missing (field_of (table_of t) (above - 1) n)) at → FieldKept t book es (field_named (table_of t) (type_coded above) n) at
  in_type h e f = rw (type_some above h, e) f

-- the type of a field's selections
module _ (t book es : List ℕ) (at : ℕ) where
  pub leaf_type : at ≤ field_typename → FieldTyped t book es at 0
  leaf_type h unknown k = refl
  leaf_type h missing k = refl
  leaf_type h typename k = refl
  leaf_type h (member m) k = absurd (omega (arith, k.kept.first))

  pub member_type : Booked t book → field_typename < at → (c k : ℕ) → MeantAnswer es (at - field_first) k → type_coded c ≡ if_composite (table_of t) (definition k) → FieldTyped t book es at c
  member_type b h c k a q unknown f = absurd (omega (arith, f.kept))
  member_type b h c k a q missing f = absurd (omega (arith, f.kept))
  member_type b h c k a q typename f = absurd (omega (arith, f.kept))
  member_type b h c k a q (member m) f =
      let w = f.kept.stands in
      q ∙ composite_number t book (base_of w.member.type) k b (a t book w.member.name w.member.type w.is.entry)
      ∙ ap (λ (x : Member). composite_of (table_of t) (base_of x.type)) f.kept.is
