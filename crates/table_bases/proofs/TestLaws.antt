-- What the tests of members and arguments say, case by case.
use mathlib.Core.Path.{◌≡◌, refl, sym, ap, ◌∙◌}
use mathlib.Core.Bool.{Bool, true, false, ◌||◌}
use mathlib.Core.List.{List}
use Prim.Native.Nat.{ℕ}
use lib.Seq.{slice}
use lib.Dec.{eqb}
use borrow.Author.Tests.{eq-eqb, ne_eqb}
use Rattle.paper_table.specs.TableNumbers.{tag_field, tag_argument}
use Rattle.paper_table.specs.Types.{table_of, type_in, name_only}
use Rattle.paper_table.specs.Rule7NoType.{base_meant, member_type_unknown}
use Rattle.paper_table.specs.Rule8Base.{member_base_wrong}
use Rattle.table_members.specs.Members.{fields_in, member_from}
use Rattle.table_types.specs.Booked.{is_composite_tag}

-- rules 7 and 8, by the member's tag
module _ (t : List ℕ) (tag start end b : ℕ) (e : b ≡ (base_meant (table_of t) (type_in (fields_in t start end))).tag) where
  pub unknown_field : tag ≡ tag_field → eqb b 0 ≡ member_type_unknown (table_of t) 0 (member_from t tag start end)
  unfolding member_from
  unknown_field k = sym (rw (eq-eqb tag tag_field k, ← e) refl)

  pub unknown_input : (tag ≡ tag_field → ⊥) → tag ≡ tag_argument → eqb b 0 ≡ member_type_unknown (table_of t) 0 (member_from t tag start end)
  unfolding member_from
  unknown_input n k = sym (rw (ne_eqb tag tag_field n, eq-eqb tag tag_argument k, ← e) refl)

  pub wrong_field : tag ≡ tag_field → eqb b 6 ≡ member_base_wrong (table_of t) 0 (member_from t tag start end)
  unfolding member_from
  wrong_field k = sym (rw (eq-eqb tag tag_field k, ← e) (or_none (eqb b 6)))
    where
      or_none : (q : Bool) → (q || false) ≡ q
      or_none true = refl
      or_none false = refl

  pub wrong_input : (tag ≡ tag_field → ⊥) → tag ≡ tag_argument → is_composite_tag b ≡ member_base_wrong (table_of t) 0 (member_from t tag start end)
  unfolding member_from
  wrong_input n k = sym (rw (ne_eqb tag tag_field n, eq-eqb tag tag_argument k, ← e) refl)

module _ (t : List ℕ) (tag start end : ℕ) (f : tag ≡ tag_field → ⊥) (g : tag ≡ tag_argument → ⊥) where
  named_only : member_from t tag start end ≡ name_only tag (slice start end t)
  unfolding member_from
  named_only = rw (ne_eqb tag tag_field f, ne_eqb tag tag_argument g) refl

  pub unknown_other : false ≡ member_type_unknown (table_of t) 0 (member_from t tag start end)
  unknown_other = sym (ap (member_type_unknown (table_of t) 0) named_only ∙ rw (ne_eqb tag tag_field f, ne_eqb tag tag_argument g) refl)

  pub wrong_other : false ≡ member_base_wrong (table_of t) 0 (member_from t tag start end)
  wrong_other = sym (ap (member_base_wrong (table_of t) 0) named_only ∙ rw (ne_eqb tag tag_field f, ne_eqb tag tag_argument g) refl)
