-- The type in a content, by the text of its reference; its wrappers as a number.
use mathlib.Core.Path.{◌≡◌, refl, sym, ap, ◌∙◌}
use mathlib.Core.Bool.{Bool, true, false, ◌&&◌, false≢true}
use mathlib.Core.Option.{none}
use mathlib.Core.List.{List, []}
use Prim.Native.Nat.{ℕ, ◌-◌, ◌%◌, ◌≤◌, ◌<◌}
use native.Mathlib.Omega.{arith}
use lib.ListN.{length}
use lib.Seq.{slice}
use lib.Dec.{eqb}
use borrow.Author.Tests.{eq-eqb, ne_eqb, eqb-true, eqb-false}
use Rattle.paper.specs.Tokens.{same}
use Rattle.paper.specs.Numbers.{most_wrappers}
use Rattle.paper_table.specs.TableNumbers.{tag_reference}
use Rattle.paper_table.specs.References.{Ref, named, list_of, non_null, base_of, is_non_null, same_ref, ref_of}
use Rattle.paper_table.specs.Types.{or_none, type_in}
use Rattle.paper_table.proofs.ReferenceSizes.{wrappers as wrapperCount}
use Rattle.table_fields.specs.Fields.{Finds}
use Rattle.table_fields.specs.Wrappers.{pack_of, pack_limit, is_marked, Refers}
use Rattle.table_fields.proofs.PackLaws.{pack_fits, same_ref_is, same_pack, same_base}
use Rattle.table_book.specs.Book.{part}
use Rattle.table_members.specs.Members.{fields_in, Typed}
use Rattle.table_members.proofs.TagLaws.{part_slice}

none_typed : (t : List ℕ) (start : ℕ) → start ≤ length t → Typed t start 0 0 (named [])
unfolding pack_of
none_typed t start h = record { base = refl; packs = refl; within = omega arith }

module _ (t : List ℕ) (start end from to : ℕ) (f : Finds t start end tag_reference from to) (w : end ≤ length t) where
  pub type_found : (a e wrappers : ℕ) → Refers t from to a e wrappers → Typed t a (e - a) wrappers (type_in (fields_in t start end))
  type_found a e wrappers r =
      let q : type_in (fields_in t start end) ≡ r.ref = ap (λ (s : List ℕ). or_none (ref_of s)) (sym f.text) ∙ ap or_none r.is in
      rw q (record {
        base = part_slice t a e ∙ sym r.base;
        packs = r.packs;
        within = omega (arith, r.order, r.within, f.within);
      })

  pub type_none : start ≤ end → ref_of (slice from to t) ≡ none → Typed t start 0 0 (type_in (fields_in t start end))
  type_none h e =
      let q : type_in (fields_in t start end) ≡ named [] = ap (λ (s : List ℕ). or_none (ref_of s)) (sym f.text) ∙ ap or_none e in
      rw q (none_typed t start (omega arith))

module _ {t : List ℕ} {at n o : ℕ} {r : Ref} (p : Typed t at n o r) where
  pub typed_packs : wrapperCount r ≤ most_wrappers → o ≡ pack_of r
  typed_packs h = let k : pack_of r < pack_limit = pack_fits r h in omega (arith, p.packs)

  -- Non-Null, by the lowest two bits
  pub typed_non_null : is_non_null r ≡ is_marked o
  unfolding pack_of
  typed_non_null = go r p.packs
    where
      go : (x : Ref) → o ≡ pack_of x % pack_limit → is_non_null x ≡ is_marked o
      go (named m) e = sym (ne_eqb (o % 4) 2 (λ z. omega arith))
      go (list_of x) e = sym (ne_eqb (o % 4) 2 (λ z. omega arith))
      go (non_null x) e = sym (eq-eqb (o % 4) 2 (omega arith))

-- equal, by the names and the numbers
pub typed_same : (t : List ℕ) (at n o at' n' i : ℕ) (r s : Ref) → Typed t at n o r → Typed t at' n' i s → wrapperCount r ≤ most_wrappers → wrapperCount s ≤ most_wrappers
    → same_ref r s ≡ same (part t at n) (part t at' n') && eqb o i
typed_same t at n o at' n' i r s p q h k =
    rw (p.base, q.base, typed_packs p h, typed_packs q k) (go (same_ref r s) refl (same (base_of r) (base_of s)) refl (eqb (pack_of r) (pack_of s)) refl)
  where
    go : (x : Bool) → same_ref r s ≡ x → (y : Bool) → same (base_of r) (base_of s) ≡ y → (z : Bool) → eqb (pack_of r) (pack_of s) ≡ z → same_ref r s ≡ y && z
    go true a true b true c = a
    go true a true b false c = absurd (eqb-false (pack_of r) (pack_of s) c (same_pack r s a))
    go true a false b z c = absurd (false≢true (sym b ∙ same_base r s a))
    go false a true b true c = absurd (false≢true (sym a ∙ same_ref_is r s (eqb-true (pack_of r) (pack_of s) c) b))
    go false a true b false c = a
    go false a false b z c = a
