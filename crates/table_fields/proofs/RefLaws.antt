-- A type reference's text from left to right: `[`s, a name, then wrapper by wrapper from inside out; and that this is how the definition reads it.
use mathlib.Core.Path.{◌≡◌, refl, sym, ap, ◌∙◌}
use mathlib.Core.Bool.{Bool, true, false, not, ◌&&◌, cond}
use mathlib.Core.Option.{Option, none, some}
use mathlib.Core.List.{List, [], ◌∷◌}
use Prim.Native.Nat.{ℕ, zero, suc, ◌+◌, ◌-◌, ◌*◌, ◌%◌, ◌≤◌, ◌<◌}
use native.Mathlib.Omega.{arith}
use native.Mathlib.Nat.{le_refl}
use lib.ListN.{length, take, drop, get_or}
use lib.Seq.{slice, length-slice}
use lib.Dec.{eqb, eqb-suc-zero}
use borrow.Author.Tests.{eq-eqb, ne_eqb, eqb-true, eqb-false}
use Rattle.std.specs.Prelude.{Option as Read, Some, None}
use Rattle.std.specs.Option.{is_some}
use Rattle.paper.specs.Lexical.{letter, letter_or_digit, in_set}
use Rattle.paper_table.specs.Lists.{first_at}
use Rattle.paper_table.specs.References.{is_name, Ref, named, list_of, non_null, base_of, is_non_null, byte_bang, byte_bracket_l, byte_bracket_r, ReadRef, got, no_reference, marked, closed, name_size, read_name, ref_from, whole_ref, ref_of, found, is_reference}
use Rattle.paper_table.proofs.ListsLaws.{first_at_most}
use Rattle.table_fields.specs.Wrappers.{pack_of, pack_limit, is_marked, bracket_size, wrapper_of, Refers, RefersRead}
use Rattle.table_fields.specs.declared.Reference.{Reference}
use Rattle.table_fields.proofs.FieldLaws.{slice_none, slice_next, slice_take, slice_drop}
use Rattle.table_fields.proofs.NameLaws.{run_all, letter_goes}

-- so many lists closed, the innermost first
unfoldable closed_times : ℕ → ReadRef → ReadRef
closed_times zero x = x
closed_times (suc d) x = closed_times d (closed x)

closed_bad : (d : ℕ) → closed_times d no_reference ≡ no_reference
unfolding closed_times closed
closed_bad zero = refl
closed_bad (suc d) = closed_bad d

closed_out : (d : ℕ) (x : ReadRef) → closed (closed_times d x) ≡ closed_times d (closed x)
unfolding closed_times
closed_out zero x = refl
closed_out (suc d) x = closed_out d (closed x)

-- a text of `[`s, and then what begins with none
brackets : (f : ℕ) (s : List ℕ) → length s ≤ f → ref_from f s ≡ closed_times (bracket_size s) (read_name (drop (bracket_size s) s))
unfolding ref_from read_name is_name first_at closed_times
brackets zero [] h = refl
brackets zero (b ∷ s) h = absurd (omega arith)
brackets (suc f) [] h = refl
brackets (suc f) (b ∷ s) h = go (eqb b byte_bracket_l) (brackets f s (omega arith))
  where
    go : (x : Bool) → ref_from f s ≡ closed_times (bracket_size s) (read_name (drop (bracket_size s) s))
        → elim x [ true ↦ closed (ref_from f s) | false ↦ read_name (b ∷ s) ] ≡ closed_times (cond (not x) 0 (suc (bracket_size s))) (read_name (drop (cond (not x) 0 (suc (bracket_size s))) (b ∷ s)))
    go true e = ap closed e ∙ closed_out (bracket_size s) (read_name (drop (bracket_size s) s))
    go false e = refl

-- The reference that is left: d lists are open, r has been read.
unfoldable pub wraps : ℕ → Ref → List ℕ → Option Ref
wraps d r [] = cond (eqb d 0) (some r) none
wraps d r (b ∷ s) =
    cond (eqb (wrapper_of (is_non_null r) d b) 2) (wraps d (non_null r) s)
    (cond (eqb (wrapper_of (is_non_null r) d b) 1) (wraps (d - 1) (list_of r) s) none)

whole_end : (d : ℕ) (r : Ref) → whole_ref (closed_times d (got r [])) ≡ wraps d r []
unfolding whole_ref closed_times closed wraps
whole_end zero r = refl
whole_end (suc d) r = rw (eqb-suc-zero d) (ap whole_ref (closed_bad d))

-- what is read behind a reference that may still be marked, and behind one that is
abbrev Reads : List ℕ → Type 0
Reads s =
    ((d : ℕ) (r : Ref) → is_non_null r ≡ false → whole_ref (closed_times d (marked r s)) ≡ wraps d r s) ×
    ((d : ℕ) (r : Ref) → is_non_null r ≡ true → whole_ref (closed_times d (got r s)) ≡ wraps d r s)

-- a byte that is not `!`, or stands behind a Non-Null
behind : (d : ℕ) (r : Ref) (b : ℕ) (s : List ℕ) → Reads s → eqb b byte_bang && not (is_non_null r) ≡ false → whole_ref (closed_times d (got r (b ∷ s))) ≡ wraps d r (b ∷ s)
unfolding whole_ref closed_times closed wraps
behind d r b s f n = go d (eqb b byte_bang) refl (eqb b byte_bracket_r) refl (is_non_null r) refl n
  where
    go : (d : ℕ) (p : Bool) → eqb b byte_bang ≡ p → (q : Bool) → eqb b byte_bracket_r ≡ q → (x : Bool) → is_non_null r ≡ x → p && not x ≡ false → whole_ref (closed_times d (got r (b ∷ s))) ≡ wraps d r (b ∷ s)
    go zero true e q g true k m = rw (e, k)
    go zero true e q g false k m = let z : true ≡ false = m in cc
    go zero false e true g x k m = rw (e, g)
    go zero false e false g x k m = rw (e, g)
    go (suc d) true e true g x k m = absurd (omega (arith, eqb-true b byte_bang e, eqb-true b byte_bracket_r g))
    go (suc d) true e false g true k m = rw (e, g, k) (ap whole_ref (closed_bad d))
    go (suc d) true e false g false k m = let z : true ≡ false = m in cc
    go (suc d) false e true g x k m = let h : suc d - 1 ≡ d = omega arith in rw (e, g, eqb-suc-zero d, h) (f.0 d (list_of r) refl)
    go (suc d) false e false g x k m = rw (e, g) (ap whole_ref (closed_bad d))

wraps_mark : (d : ℕ) (r : Ref) (b : ℕ) (s : List ℕ) → eqb b byte_bang ≡ true → is_non_null r ≡ false → wraps d (non_null r) s ≡ wraps d r (b ∷ s)
unfolding wraps
wraps_mark d r b s e n = rw (e, n)

mark_first : (d : ℕ) (r : Ref) (b : ℕ) (s : List ℕ) → Reads s → is_non_null r ≡ false → whole_ref (closed_times d (marked r (b ∷ s))) ≡ wraps d r (b ∷ s)
unfolding marked
mark_first d r b s f n = go (eqb b byte_bang) refl
  where
    go : (p : Bool) → eqb b byte_bang ≡ p → whole_ref (closed_times d (marked r (b ∷ s))) ≡ wraps d r (b ∷ s)
    go true e = rw e (f.1 d (non_null r) refl ∙ wraps_mark d r b s e n)
    go false e = rw e (behind d r b s f (rw e))

whole : (s : List ℕ) → Reads s
unfolding marked
whole [] = (λ d r n. whole_end d r, λ d r n. whole_end d r)
whole (b ∷ s) = (λ d r n. mark_first d r b s (whole s) n, λ d r n. behind d r b s (whole s) (rw n (no_mark (eqb b byte_bang))))
  where
    no_mark : (p : Bool) → p && false ≡ false
    no_mark true = refl
    no_mark false = refl

-- The name that a text begins with.
name_none : read_name [] ≡ no_reference
unfolding read_name is_name first_at
name_none = refl

name_no : (b : ℕ) (s : List ℕ) → in_set letter b ≡ false → read_name (b ∷ s) ≡ no_reference
unfolding read_name is_name first_at
name_no b s e = go (not (in_set letter_or_digit b))
  where
    go : (x : Bool) → cond (is_name (take (cond x 0 (suc (name_size s))) (b ∷ s))) (marked (named (take (cond x 0 (suc (name_size s))) (b ∷ s))) (drop (cond x 0 (suc (name_size s))) (b ∷ s))) no_reference ≡ no_reference
    go true = refl
    go false = rw e

name_yes : (b : ℕ) (s : List ℕ) → in_set letter b ≡ true → read_name (b ∷ s) ≡ marked (named (b ∷ take (name_size s) s)) (drop (name_size s) s)
unfolding read_name is_name first_at
name_yes b s e = rw (letter_goes b e, e, run_all (in_set letter_or_digit) s)

-- What is read from `start` on, if the `[` end at `from`.
module _ (t : List ℕ) (start end from : ℕ) (o : start ≤ end) (w : end ≤ length t) (q : from ≡ start + bracket_size (slice start end t)) where
  ref_from_is : ref_of (slice start end t) ≡ whole_ref (closed_times (from - start) (read_name (slice from end t)))
  unfolding ref_of
  ref_from_is =
      let k : from - start ≡ bracket_size (slice start end t) = omega arith in
      let e : drop (bracket_size (slice start end t)) (slice start end t) ≡ slice from end t = rw q (slice_drop t start end (bracket_size (slice start end t))) in
      ap whole_ref (brackets (length (slice start end t)) (slice start end t) (omega arith) ∙ rw (e, k))

  pub brackets_within : (start ≤ from) × (from ≤ end)
  brackets_within = (omega arith, omega (arith, first_at_most (λ b. not (eqb b byte_bracket_l)) (slice start end t), length-slice start end t w))

  bad_none : read_name (slice from end t) ≡ no_reference → ref_of (slice start end t) ≡ none
  unfolding whole_ref
  bad_none e = ref_from_is ∙ ap whole_ref (ap (closed_times (from - start)) e ∙ closed_bad (from - start))

  pub ref_none : end ≤ from → ref_of (slice start end t) ≡ none
  ref_none h = bad_none (ap read_name (slice_none t from end h w) ∙ name_none)

  pub ref_no : from < end → in_set letter (get_or t from 0) ≡ false → ref_of (slice start end t) ≡ none
  ref_no h e = bad_none (ap read_name (slice_next t from end h w) ∙ name_no (get_or t from 0) (slice (from + 1) end t) e)

  module _ (to : ℕ) (h : from < end) (l : in_set letter (get_or t from 0) ≡ true) (z : to ≡ from + 1 + name_size (slice (from + 1) end t)) where
    pub to_order : (from < to) × (to ≤ end)
    to_order = (omega arith, omega (arith, first_at_most (λ b. not (in_set letter_or_digit b)) (slice (from + 1) end t), length-slice (from + 1) end t w))

    name_is : get_or t from 0 ∷ take (name_size (slice (from + 1) end t)) (slice (from + 1) end t) ≡ slice from to t
    name_is =
        ap (λ (s : List ℕ). get_or t from 0 ∷ s) (slice_take t (from + 1) end (name_size (slice (from + 1) end t)) (omega (arith, z, to_order.1)) ∙ rw z)
        ∙ sym (slice_next t from to to_order.0 (omega (arith, to_order.1)))

    pub ref_name : wraps (from - start) (named (slice from to t)) (slice to end t) ≡ ref_of (slice start end t)
    ref_name =
        let n = name_size (slice (from + 1) end t) in
        sym
        (ref_from_is
        ∙ ap (λ (x : ReadRef). whole_ref (closed_times (from - start) x))
        (ap read_name (slice_next t from end h w) ∙ name_yes (get_or t from 0) (slice (from + 1) end t) l ∙ rw (name_is, slice_drop t (from + 1) end n, ← z))
        ∙ (whole (slice to end t)).0 (from - start) (named (slice from to t)) refl)

-- a reference's last two bits tell whether it is Non-Null
marked_is : (r : Ref) → is_marked (pack_of r % pack_limit) ≡ is_non_null r
unfolding pack_of
marked_is (named n) = refl
marked_is (list_of r) = ne_eqb ((4 * pack_of r + 1) % pack_limit % 4) 2 (λ e. omega arith)
marked_is (non_null r) = eq-eqb ((4 * pack_of r + 2) % pack_limit % 4) 2 (omega arith)

wrapper_most : (x : Bool) (d b : ℕ) → (wrapper_of x d b ≤ 2) × (wrapper_of x d b % 2 ≤ d)
wrapper_most x d b = go (eqb b byte_bang) x (eqb b byte_bracket_r) (eqb d 0) refl
  where
    go : (p x q z : Bool) → eqb d 0 ≡ z → (cond p (cond x 0 2) (cond q (cond z 0 1) 0) ≤ 2) × (cond p (cond x 0 2) (cond q (cond z 0 1) 0) % 2 ≤ d)
    go true true q z e = (omega arith, omega arith)
    go true false q z e = (omega arith, omega arith)
    go false x true true e = (omega arith, omega arith)
    go false x true false e = (omega arith, let h = eqb-false d 0 e in omega arith)
    go false x false z e = (omega arith, omega arith)

-- The state of a reading at the place i: what has been read, and that the rest decides.
pub record Wrapped (t : List ℕ) (start end from to wrappers lists i : ℕ) : Type 0 where
  pub ref : Ref
  pub base : base_of ref ≡ slice from to t
  pub packs : wrappers ≡ pack_of ref % pack_limit
  pub rest : wraps lists ref (slice i end t) ≡ ref_of (slice start end t)
  pub begins : start ≤ from
  pub order : from ≤ to
  pub before : to ≤ i
  pub within : i ≤ end

pub wrapped_start : (t : List ℕ) (start end from to : ℕ) → start ≤ end → end ≤ length t → from ≡ start + bracket_size (slice start end t)
    → from < end → in_set letter (get_or t from 0) ≡ true → to ≡ from + 1 + name_size (slice (from + 1) end t)
    → Wrapped t start end from to 0 (from - start) to
unfolding pack_of
wrapped_start t start end from to o w q h l z =
    let k = to_order t start end from o w q to h l z in
    record {
      ref = named (slice from to t);
      base = refl;
      packs = refl;
      rest = ref_name t start end from o w q to h l z;
      begins = omega arith;
      order = omega (arith, k.0);
      before = le_refl to;
      within = k.1;
    }

module _ (t : List ℕ) (start end from to wrappers lists i : ℕ) (w : end ≤ length t) (s : Wrapped t start end from to wrappers lists i) where
  pub wrapped_small : wrappers < pack_limit
  wrapped_small = omega (arith, s.packs)

  pub wrapped_whole : end ≤ i → lists ≡ 0 → Refers t start end from to wrappers
  unfolding wraps
  wrapped_whole h e = record {
    ref = s.ref;
    is = sym (rw (slice_none t i end h w, eq-eqb lists 0 e) at s.rest);
    base = s.base;
    packs = s.packs;
    begins = s.begins;
    order = s.order;
    within = omega (arith, s.before, s.within);
  }

  pub wrapped_short : end ≤ i → (lists ≡ 0 → ⊥) → ref_of (slice start end t) ≡ none
  unfolding wraps
  wrapped_short h e = sym (rw (slice_none t i end h w, ne_eqb lists 0 e) at s.rest)

  module _ (h : i < end) (v : ℕ) (q : v ≡ wrapper_of (is_marked wrappers) lists (get_or t i 0)) where
    as_read : v ≡ wrapper_of (is_non_null s.ref) lists (get_or t i 0)
    as_read = q ∙ ap (λ (x : Bool). wrapper_of x lists (get_or t i 0)) (ap is_marked s.packs ∙ marked_is s.ref)

    pub wrapped_bad : v ≡ 0 → ref_of (slice start end t) ≡ none
    unfolding wraps
    wrapped_bad e = sym (rw (slice_next t i end h w, sym as_read ∙ e) at s.rest)

    pub wrapped_most : (v ≤ 2) × (v % 2 ≤ lists)
    wrapped_most = rw q (wrapper_most (is_marked wrappers) lists (get_or t i 0))

    pub wrapped_on : (v ≡ 0 → ⊥) → Wrapped t start end from to ((4 * wrappers + v) % pack_limit) (lists - v % 2) (i + 1)
    unfolding wraps pack_of
    wrapped_on e = go v as_read wrapped_most.0 e
      where
        go : (v : ℕ) → v ≡ wrapper_of (is_non_null s.ref) lists (get_or t i 0) → v ≤ 2 → (v ≡ 0 → ⊥) → Wrapped t start end from to ((4 * wrappers + v) % pack_limit) (lists - v % 2) (i + 1)
        go zero q m e = absurd (e refl)
        go (suc zero) q m e = record {
          ref = list_of s.ref;
          base = s.base;
          packs = omega (arith, s.packs);
          rest = rw (slice_next t i end h w, sym q) at s.rest;
          begins = s.begins;
          order = s.order;
          before = omega (arith, s.before);
          within = omega arith;
        }
        go (suc (suc zero)) q m e = record {
          ref = non_null s.ref;
          base = s.base;
          packs = omega (arith, s.packs);
          rest = let z : lists - 0 ≡ lists = omega arith in rw z (rw (slice_next t i end h w, sym q) at s.rest);
          begins = s.begins;
          order = s.order;
          before = omega (arith, s.before);
          within = omega arith;
        }
        go (suc (suc (suc n))) q m e = absurd (omega arith)

-- there is a reference if one is read
pub read_is : (t : List ℕ) (start end : ℕ) (x : Read Reference) → RefersRead t start end x → is_some x ≡ is_reference (slice start end t)
read_is t start end (Some k) r = sym (ap found r.is)
read_is t start end None r = sym (ap found r)
