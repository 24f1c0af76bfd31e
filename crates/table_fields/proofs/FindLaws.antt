-- The first field of a tag, one field after the other.
use mathlib.Core.Path.{◌≡◌, refl, ◌∙◌}
use mathlib.Core.List.{List, []}
use Prim.Native.Nat.{ℕ, ◌≤◌, ◌<◌}
use native.Mathlib.Omega.{arith}
use native.Mathlib.Nat.{le_refl}
use lib.ListN.{length}
use lib.Seq.{slice}
use borrow.Author.Tests.{eq-eqb, ne_eqb}
use Rattle.std.specs.Prelude.{Some, None}
use Rattle.paper_table.specs.House.{house_fields}
use Rattle.paper_table.specs.Types.{text_of}
use Rattle.table_fields.specs.declared.Field.{Field}
use Rattle.table_fields.specs.Fields.{field_at, Finds}
use Rattle.table_fields.proofs.FieldLaws.{field_lies, pieces_read, pieces_torn, pieces_none, slice_none}

-- from a place i on the text found is the one from `at` on
pub record Seeks (t : List ℕ) (at end tag i : ℕ) : Type 0 where
  pub text : text_of tag (house_fields i (slice i end t)) ≡ text_of tag (house_fields at (slice at end t))
  pub begins : at ≤ i
  pub order : i ≤ end

pub seeks_start : (t : List ℕ) (at end tag : ℕ) → at ≤ end → Seeks t at end tag at
seeks_start t at end tag h = record { text = refl; begins = le_refl at; order = h }

module _ (t : List ℕ) (at end tag i : ℕ) (w : end ≤ length t) (s : Seeks t at end tag i) where
  none_found : [] ≡ text_of tag (house_fields i (slice i end t)) → Finds t at end tag end end
  none_found e = record {
    text = slice_none t end end (le_refl end) w ∙ e ∙ s.text;
    begins = omega (arith, s.begins, s.order);
    order = le_refl end;
    within = le_refl end;
  }

  pub seeks_end : end ≤ i → Finds t at end tag end end
  unfolding text_of
  seeks_end h = none_found (rw (pieces_none t i end h w))

  module _ (h : i < end) where
    pub seeks_torn : field_at t i end ≡ None → Finds t at end tag end end
    unfolding text_of
    seeks_torn q = none_found (rw (pieces_torn t i end w h q))

    module _ (f : Field) (q : field_at t i end ≡ Some f) where
      pub seeks_here : f.tag ≡ tag → Finds t at end tag f.start f.end
      unfolding text_of
      seeks_here e =
          let l = field_lies t i end f s.order q in
          record {
            text = rw (pieces_read t i end w h f q, eq-eqb f.tag tag e) at s.text;
            begins = omega (arith, s.begins, l.begins);
            order = l.order;
            within = l.within;
          }

      pub seeks_on : (f.tag ≡ tag → ⊥) → Seeks t at end tag f.end
      unfolding text_of
      seeks_on e =
          let l = field_lies t i end f s.order q in
          record {
            text = rw (pieces_read t i end w h f q, ne_eqb f.tag tag e) at s.text;
            begins = omega (arith, s.begins, l.begins, l.order);
            order = l.within;
          }
