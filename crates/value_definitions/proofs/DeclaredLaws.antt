-- The type that a definition's row declares, by its name and its wrappers: read back, it has these.
use mathlib.Core.Path.{◌≡◌, refl, sym, ap, ◌∙◌, subst}
use mathlib.Core.Option.{Option, some}
use mathlib.Core.List.{List, []}
use Prim.Native.Nat.{ℕ, zero, suc, ◌+◌, ◌*◌, ◌<◌, ◌≤◌}
use native.Mathlib.Decide.{dec_lt}
use native.Mathlib.Omega.{arith}
use Rattle.paper.specs.Numbers.{most_wrappers}
use Rattle.paper.specs.Rows.{Row}
use Rattle.paper.specs.Language.{Document}
use Rattle.paper_table.specs.Lists.{first_at}
use Rattle.paper_table.specs.References.{Ref, named, list_of, non_null, base_of}
use Rattle.paper_query.specs.Constructs.{no_row, spelt}
use Rattle.paper_query.specs.Enclosing.{then}
use Rattle.paper_query.specs.PlaceTypes.{shape_in, wrappers_of}
use Rattle.paper_query.specs.Rule11VariableType.{declared}
use Rattle.table_fields.specs.Wrappers.{pack_of, pack_limit}
use Rattle.table_book.specs.Book.{part}
use Rattle.query_rows.specs.Rowed.{rows_in, row_in, doc_of}
use Rattle.query_rows.proofs.RowsIn.{rows_count, row_none}
use Rattle.query_rows.proofs.ReadRows.{Taken}
use Rattle.query_links.specs.Links.{next_with}
use Rattle.query_links.proofs.Nexts.{next_all, find_yes, find_no}
use Rattle.paper_values.specs.RowValues.{ref_of_wrappers}
use Rattle.paper_values.specs.DocumentDues.{ref_or, declared_ref}
use Rattle.paper_values.proofs.RowValuesLaws.{depth, ref_back}
use Rattle.value_kinds.specs.Dues.{Sorted, DueIs, Fits}
use Rattle.value_texts.proofs.Wrapping.{Packs, taken_packs}
use Rattle.value_definitions.specs.Definitions.{is_declared}

-- a type with another base
abbrev rebased : List ℕ → Ref → Ref
rebased n (named m) = named n
rebased n (list_of r) = list_of (rebased n r)
rebased n (non_null r) = non_null (rebased n r)

rebased_wrappers : (n : List ℕ) (r : Ref) → wrappers_of (rebased n r) ≡ wrappers_of r
unfolding wrappers_of
rebased_wrappers n (named m) = refl
rebased_wrappers n (list_of r) = ap (λ (w : ℕ). 4 * w + 1) (rebased_wrappers n r)
rebased_wrappers n (non_null r) = ap (λ (w : ℕ). 4 * w + 2) (rebased_wrappers n r)

rebased_base : (n : List ℕ) (r : Ref) → base_of (rebased n r) ≡ n
rebased_base n (named m) = refl
rebased_base n (list_of r) = rebased_base n r
rebased_base n (non_null r) = rebased_base n r

rebased_depth : (n : List ℕ) (r : Ref) → depth (rebased n r) ≡ depth r
rebased_depth n (named m) = refl
rebased_depth n (list_of r) = ap suc (rebased_depth n r)
rebased_depth n (non_null r) = ap suc (rebased_depth n r)

pack_wrappers : (r : Ref) → pack_of r ≡ wrappers_of r
unfolding pack_of wrappers_of
pack_wrappers (named n) = refl
pack_wrappers (list_of r) = ap (λ (w : ℕ). 4 * w + 1) (pack_wrappers r)
pack_wrappers (non_null r) = ap (λ (w : ℕ). 4 * w + 2) (pack_wrappers r)

-- so many wrappers fit
abbrev room : ℕ → ℕ
room zero = 1
room (suc k) = 4 * room k

wrappers_fit : (r : Ref) (k : ℕ) → depth r ≤ k → wrappers_of r < room k
unfolding wrappers_of
wrappers_fit (named n) zero h = omega arith
wrappers_fit (named n) (suc k) h = omega (arith, wrappers_fit (named n) k (omega arith))
wrappers_fit (list_of r) zero h = absurd (omega arith)
wrappers_fit (list_of r) (suc k) h = omega (arith, wrappers_fit r k (omega arith))
wrappers_fit (non_null r) zero h = absurd (omega arith)
wrappers_fit (non_null r) (suc k) h = omega (arith, wrappers_fit r k (omega arith))

-- a row's wrappers, read back
module _ (n : List ℕ) (w : ℕ) (p : Packs most_wrappers w) where
  read_back : ref_of_wrappers most_wrappers n w ≡ rebased n p.0
  read_back =
      subst (λ (x : ℕ). ref_of_wrappers most_wrappers n x ≡ rebased n p.0) (rebased_wrappers n p.0 ∙ p.2)
      (subst (λ (m : List ℕ). ref_of_wrappers most_wrappers m (wrappers_of (rebased n p.0)) ≡ rebased n p.0) (rebased_base n p.0)
      (ref_back (rebased n p.0) most_wrappers (omega (arith, rebased_depth n p.0, p.1))))

  pub packs_back : pack_of (ref_of_wrappers most_wrappers n w) ≡ w
  packs_back = ap pack_of read_back ∙ pack_wrappers (rebased n p.0) ∙ rebased_wrappers n p.0 ∙ p.2

  pub base_back : base_of (ref_of_wrappers most_wrappers n w) ≡ n
  base_back = ap base_of read_back ∙ rebased_base n p.0

  pub few_back : w < pack_limit
  few_back = omega (arith, wrappers_fit p.0 most_wrappers p.1, p.2)

none_back : (s rows : List ℕ) (n i : ℕ) → n ≤ i → named [] ≡ ref_of_wrappers most_wrappers (spelt (doc_of s rows n) (row_in rows n i)) (row_in rows n i).extra
unfolding ref_of_wrappers
none_back s rows n i h = rw (row_none rows n i h) refl

-- the declared type is that of the row found, also where there is none
module _ (s rows : List ℕ) (n v i : ℕ) (e : i ≡ first_at (is_declared v) (rows_in rows n)) where
  abbrev there : Row
  there = row_in rows n i

  declared_row : declared_ref (doc_of s rows n) v ≡ ref_of_wrappers most_wrappers (spelt (doc_of s rows n) there) there.extra
  unfolding declared
  declared_row = go (dec_lt i n)
    where
      first : next_with (is_declared v) (rows_in rows n) 0 ≡ i
      first = next_all (is_declared v) (rows_in rows n) ∙ sym e

      go : Dec (i < n) → declared_ref (doc_of s rows n) v ≡ ref_of_wrappers most_wrappers (spelt (doc_of s rows n) there) there.extra
      go (yes h) =
          ap (λ (o : Option Row). ref_or (then o (λ r. some (shape_in (doc_of s rows n) r))))
          (find_yes (is_declared v) (rows_in rows n) no_row 0 (omega (arith, first, rows_count rows n)) ∙ ap (λ (j : ℕ). some (row_in rows n j)) first)
      go (no h) =
          ap (λ (o : Option Row). ref_or (then o (λ r. some (shape_in (doc_of s rows n) r)))) (find_no (is_declared v) (rows_in rows n) 0 (omega (arith, first, rows_count rows n)))
          ∙ none_back s rows n i (omega arith)

  pub declared_due : (t book : List ℕ) (at size sort number wrappers : ℕ) → Taken Document s rows n → at ≡ there.name_start → size ≡ there.name_length → Sorted t book (part s at size) sort number → wrappers ≡ there.extra →
      DueIs t book (declared_ref (doc_of s rows n) v) sort number wrappers × Fits book sort number wrappers
  declared_due t book at size sort number wrappers k a z h q =
      let p = taken_packs Document tt s rows n k i in
      let d = spelt (doc_of s rows n) there in
      let m : part s at size ≡ d = ap (λ (x : ℕ). part s x size) a ∙ ap (part s there.name_start) z in (
        rw declared_row
            (record { sorted = subst (λ (x : List ℕ). Sorted t book x sort number) (m ∙ sym (base_back d there.extra p)) h; packs = packs_back d there.extra p ∙ sym q }),
        record { there = h.there; few = subst (λ (x : ℕ). x < pack_limit) (sym q) (few_back d there.extra p) },
      )
