-- One row more: the turn of a loop over the rows below a list or an object. And an example.
use mathlib.Core.Path.{◌≡◌, refl, ap}
use mathlib.Core.List.{[], ◌∷◌, ◌++◌}
use Prim.Native.Nat.{ℕ, zero, suc, ◌+◌, ◌*◌, ◌/◌, ◌%◌, ◌≤◌}
use native.Mathlib.Omega.{arith}
use borrow.Author.Tests.{eq-eqb, ne_eqb}
use Rattle.paper.specs.Rows.{Row}
use Rattle.paper_table.specs.Lists.{bytes}
use Rattle.paper_table.specs.References.{Ref, named, list_of, non_null, base_of}
use Rattle.paper_query.specs.Constructs.{Doc, kind_of, parent_of, name_of}
use Rattle.paper_query.specs.PlaceTypes.{wrappers_of}
use Rattle.paper_values.specs.Characters.{utf8, unicode_escape, escape, written, characters_from, characters_of}
use Rattle.paper_values.specs.Values.{Value, integer, string, list, object, no_values, item, no_entries, entry}
use Rattle.paper_values.specs.RowValues.{ref_of_wrappers, placed, items_from, entries_from, value_by, value_at, arguments_at}
use mathlib.Core.Option.{some}

module _ (text : ℕ) (d : Doc) (read : ℕ → Value) (h m c : ℕ) where
  pub items_more : parent_of d c ≡ h → items_from text d read h (suc m) c ≡ item (read c) (items_from text d read h m (c + 1))
  unfolding items_from
  items_more q = rw (eq-eqb (parent_of d c) h q) refl

  pub items_other : (parent_of d c ≡ h → ⊥) → items_from text d read h (suc m) c ≡ items_from text d read h m (c + 1)
  unfolding items_from
  items_other q = rw (ne_eqb (parent_of d c) h q) refl

  pub entries_more : (k : ℕ) → parent_of d c ≡ h → kind_of d c ≡ k →
      entries_from text d read k h (suc m) c ≡ entry (placed text d c) (name_of d c) (read (c + 1)) (entries_from text d read k h m (c + 1))
  unfolding entries_from
  entries_more k q r = rw (eq-eqb (parent_of d c) h q, eq-eqb (kind_of d c) k r) refl

  pub entries_other : (k : ℕ) → (parent_of d c ≡ h → ⊥) → entries_from text d read k h (suc m) c ≡ entries_from text d read k h m (c + 1)
  unfolding entries_from
  entries_other k q = rw (ne_eqb (parent_of d c) h q) refl

  pub entries_another : (k : ℕ) → parent_of d c ≡ h → (kind_of d c ≡ k → ⊥) → entries_from text d read k h (suc m) c ≡ entries_from text d read k h m (c + 1)
  unfolding entries_from
  entries_another k q r = rw (eq-eqb (parent_of d c) h q, ne_eqb (kind_of d c) k r) refl

-- how many wrappers a type has
abbrev pub depth : Ref → ℕ
depth (named n) = 0
depth (list_of r) = suc (depth r)
depth (non_null r) = suc (depth r)

list_bits : (w : ℕ) → ((4 * w + 1) % 4 ≡ 1) × ((4 * w + 1) / 4 ≡ w)
list_bits w = (omega arith, omega arith)

non_null_bits : (w : ℕ) → ((4 * w + 2) % 4 ≡ 2) × ((4 * w + 2) / 4 ≡ w)
non_null_bits w = (omega arith, omega arith)

-- a type is read back from its base and wrappers
pub ref_back : (r : Ref) (k : ℕ) → depth r ≤ k → ref_of_wrappers k (base_of r) (wrappers_of r) ≡ r
unfolding ref_of_wrappers wrappers_of
ref_back (named n) zero h = refl
ref_back (named n) (suc k) h = refl
ref_back (list_of r) zero h = absurd (omega (arith, h))
ref_back (list_of r) (suc k) h =
    rw (ne_eqb (4 * wrappers_of r + 1) 0 (λ (e : 4 * wrappers_of r + 1 ≡ 0). omega (arith, e)), eq-eqb ((4 * wrappers_of r + 1) % 4) 1 (list_bits (wrappers_of r)).0, (list_bits (wrappers_of r)).1)
    (ap list_of (ref_back r k (omega (arith, h))))
ref_back (non_null r) zero h = absurd (omega (arith, h))
ref_back (non_null r) (suc k) h =
    rw (ne_eqb (4 * wrappers_of r + 2) 0 (λ (e : 4 * wrappers_of r + 2 ≡ 0). omega (arith, e)), ne_eqb ((4 * wrappers_of r + 2) % 4) 1 (λ (e : (4 * wrappers_of r + 2) % 4 ≡ 1). omega (arith, e, (non_null_bits (wrappers_of r)).0)), (non_null_bits (wrappers_of r)).1)
    (ap non_null (ref_back r k (omega (arith, h))))

-- `{f(i:{n:1} k:["a"])}`: operation 0, field 1, argument 2 with object 3, its field 4 and integer 5, argument 6 with list 7 and string 8
abbrev line : ℕ → ℕ → ℕ → ℕ → ℕ → ℕ → Row
line k a e p n s = record { kind = k; start = a; end = e; parent = p; name_start = n; name_length = s; extra = 0 }

abbrev sample : Doc
sample = record {
  bytes = bytes "{f(i:{n:1} k:[" ++ (0x22 ∷ 97 ∷ 0x22 ∷ bytes "])}");
  rows =
      line 1 0 20 2048 0 0 ∷ line 3 1 19 0 1 1 ∷ line 6 3 10 1 3 1 ∷ line 28 5 10 2 0 0 ∷ line 10 6 9 3 6 1 ∷ line 21 8 9 4 0 0 ∷ line 6 11 18 1 11 1 ∷ line 27 13 18 6 0 0 ∷ line 23 14 17 7 0 0 ∷ [];
}

pub sample_arguments :
    arguments_at 0 sample 1 ≡
    entry (placed 0 sample 2) (bytes "i") (object (placed 0 sample 3) (entry (placed 0 sample 4) (bytes "n") (integer (placed 0 sample 5) (bytes "1")) no_entries))
    (entry (placed 0 sample 6) (bytes "k") (list (placed 0 sample 7) (item (string (placed 0 sample 8) (0x22 ∷ 97 ∷ 0x22 ∷ []) (some (bytes "a"))) no_values)) no_entries)
unfolding items_from entries_from value_by value_at utf8 unicode_escape escape written characters_from characters_of
sample_arguments = refl
