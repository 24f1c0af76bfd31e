-- A place and the type that it is.
use mathlib.Core.Path.{◌≡◌, refl, sym, ap, ◌∙◌}
use mathlib.Core.Bool.{Bool, true, false, not, ◌&&◌, cond}
use mathlib.Core.Option.{none, some}
use mathlib.Core.List.{List}
use Prim.Native.Nat.{ℕ, ◌+◌, ◌-◌, ◌*◌, ◌/◌, ◌%◌, ◌≤◌}
use native.Mathlib.Omega.{arith}
use lib.Dec.{eqb, leb}
use borrow.Author.Tests.{eq-eqb, ne_eqb, leb-true}
use Rattle.paper.specs.Numbers.{most_wrappers, wrap_list, wrap_non_null}
use Rattle.paper_table.specs.TableNumbers.{tag_object, tag_union}
use Rattle.paper_table.specs.Lists.{bytes}
use Rattle.paper_table.specs.References.{Ref, named, list_of, non_null}
use Rattle.paper_table.specs.Types.{tag_nothing}
use Rattle.paper_table.proofs.ReferenceSizes.{wrappers as wrapperCount}
use Rattle.paper_query.specs.Enclosing.{then}
use Rattle.paper_query.specs.PlaceTypes.{shape, wrappers_of, shape_of, nullable, item_of}
use Rattle.table_fields.specs.Wrappers.{pack_of}
use Rattle.table_members.specs.Members.{Typed}
use Rattle.table_members.proofs.TypeLaws.{typed_packs}
use Rattle.query_place_types.specs.Shapes.{place_unknown, place_boolean, place_first, base_at, coded, EntryStands, Within, Keeps, Items, slim, input_tag}
use Rattle.query_place_types.specs.declared.Place.{Place}

-- the wrappers of a reference are those of a table's number
wrappers_pack : (r : Ref) → wrappers_of r ≡ pack_of r
unfolding wrappers_of pack_of
wrappers_pack (named n) = refl
wrappers_pack (list_of r) = ap (λ (x : ℕ). 4 * x + wrap_list) (wrappers_pack r)
wrappers_pack (non_null r) = ap (λ (x : ℕ). 4 * x + wrap_non_null) (wrappers_pack r)

-- the outermost Non-Null taken off
pub nullable_off : (w : ℕ) → w % 4 ≡ wrap_non_null → w / 4 ≡ nullable w
nullable_off w e = rw (eq-eqb (w % 4) wrap_non_null e)

pub nullable_kept : (w : ℕ) → (w % 4 ≡ wrap_non_null → ⊥) → w ≡ nullable w
nullable_kept w e = rw (ne_eqb (w % 4) wrap_non_null e)

-- by the first number
module _ (t es : List ℕ) (p : Place) where
  pub coded_unknown : p.at ≡ place_unknown → coded t es p ≡ none
  unfolding coded
  coded_unknown e = rw (eq-eqb p.at place_unknown e)

  pub coded_boolean : p.at ≡ place_boolean → coded t es p ≡ some (shape (bytes "Boolean") p.wrappers)
  unfolding coded
  coded_boolean e = rw (ne_eqb p.at place_unknown (λ z. omega arith), eq-eqb p.at place_boolean e)

  pub coded_base : place_first ≤ p.at → coded t es p ≡ some (shape (base_at t es (p.at - place_first)) p.wrappers)
  unfolding coded
  coded_base h = rw (ne_eqb p.at place_unknown (λ z. omega arith), ne_eqb p.at place_boolean (λ z. omega arith))

module _ (t book es : List ℕ) (p : Place) where
  pub keeps_self : Within t book es p → Keeps t book es (coded t es p) p
  keeps_self w = record { is = refl; within = w }

  pub keeps_unknown : p.at ≡ place_unknown → Keeps t book es none p
  keeps_unknown e = record { is = sym (coded_unknown t es p e); within = λ h. absurd (omega arith) }

  pub keeps_boolean : p.at ≡ place_boolean → p.wrappers ≡ 0 → Keeps t book es (some (shape (bytes "Boolean") 0)) p
  keeps_boolean e w =
      record { is = sym (coded_boolean t es p e ∙ ap (λ (x : ℕ). some (shape (bytes "Boolean") x)) w); within = λ h. absurd (omega arith) }

  pub keeps_typed : (x : ℕ) (s : EntryStands t book es x) (a m w : ℕ) → Typed t a m w s.type → slim s.type ≡ true → p.at ≡ x + place_first → p.wrappers ≡ w → Keeps t book es (some (shape_of s.type)) p
  keeps_typed x s a m w y l e g =
      let begins : p.at - place_first ≡ x = omega arith in
      let wraps : p.wrappers ≡ wrappers_of s.type = g ∙ typed_packs y (leb-true (wrapperCount s.type) most_wrappers l) ∙ sym (wrappers_pack s.type) in
      record {
        is = sym (coded_base t es p (omega arith) ∙ rw (begins, wraps, s.is.typed.base));
        within = λ h. rw begins s;
      }

-- the items of a list, by the wrappers w under the outermost Non-Null
module _ (p : Place) (w : ℕ) (e : w ≡ nullable p.wrappers) where
  module _ (h : w % 4 ≡ wrap_list → ⊥) where
    no_item : (base : List ℕ) → item_of (shape base p.wrappers) ≡ none
    unfolding item_of
    no_item base = rw (← e, ne_eqb (w % 4) wrap_list h)

    none_is : (t es : List ℕ) → then (coded t es p) item_of ≡ none
    unfolding coded
    none_is t es = go (eqb p.at place_unknown) (eqb p.at place_boolean)
      where
        go : (a b : Bool) → then (cond a none (cond b (some (shape (bytes "Boolean") p.wrappers)) (some (shape (base_at t es (p.at - place_first)) p.wrappers)))) item_of ≡ none
        go true b = refl
        go false true = no_item (bytes "Boolean")
        go false false = no_item (base_at t es (p.at - place_first))

    pub items_none : (r : Place) → r.at ≡ place_unknown → Items p r
    items_none r z t book es v = rw (none_is t es) (keeps_unknown t book es r z)

  module _ (h : w % 4 ≡ wrap_list) where
    an_item : (base : List ℕ) → item_of (shape base p.wrappers) ≡ some (shape base (w / 4))
    unfolding item_of
    an_item base = rw (← e, eq-eqb (w % 4) wrap_list h)

    item_is : (t es : List ℕ) → then (coded t es p) item_of ≡ coded t es (record { at = p.at; wrappers = w / 4 })
    unfolding coded
    item_is t es = go (eqb p.at place_unknown) (eqb p.at place_boolean)
      where
        go : (a b : Bool) → then (cond a none (cond b (some (shape (bytes "Boolean") p.wrappers)) (some (shape (base_at t es (p.at - place_first)) p.wrappers)))) item_of
            ≡ cond a none (cond b (some (shape (bytes "Boolean") (w / 4))) (some (shape (base_at t es (p.at - place_first)) (w / 4))))
        go true b = refl
        go false true = an_item (bytes "Boolean")
        go false false = an_item (base_at t es (p.at - place_first))

    pub items_some : Items p (record { at = p.at; wrappers = w / 4 })
    items_some t book es v = record { is = item_is t es; within = v }

-- the tag of an input type
pub input_nothing : (tag : ℕ) → tag ≡ tag_nothing → false ≡ input_tag tag
input_nothing tag e = rw (eq-eqb tag tag_nothing e)

pub input_type : (tag : ℕ) {r : Bool} → (tag ≡ tag_nothing → ⊥) → r ≡ leb tag_object tag && leb tag tag_union → not r ≡ input_tag tag
input_type tag h e = rw (ne_eqb tag tag_nothing h) (ap not e)
