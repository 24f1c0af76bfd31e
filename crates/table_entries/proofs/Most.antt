-- A table of right framing_offset has at most one entry for each eleven bytes.
use mathlib.Core.Path.{◌≡◌, refl, ap}
use mathlib.Core.Bool.{Bool, true, false, not, ◌&&◌, ◌||◌, cond, false≢true}
use mathlib.Core.Option.{none, some}
use mathlib.Core.List.{List, [], ◌∷◌, ◌++◌, cons≢nil}
use Prim.Native.Nat.{ℕ, suc, ◌+◌, ◌*◌, ◌≤◌}
use native.Mathlib.Omega.{arith}
use lib.ListN.{length, length-append}
use lib.Dec.{eqb, leb}
use borrow.Author.Tests.{leb-true}
use Rattle.paper_table.specs.TableNumbers.{most_table, tag_scalar, tag_object, tag_interface, tag_input_object, tag_directive, tag_roots, tag_name, tag_implements, tag_field, tag_argument, tag_reference}
use Rattle.paper_table.specs.Lists.{gather, any_of}
use Rattle.paper_table.specs.References.{is_name, ref_of, ref_from, whole_ref, Ref}
use Rattle.paper_table.specs.House.{HouseField, house_field, cut, house_fields, Slot, one, many, contents, look_up, Offsets, wrongs, most_deep, record_in_place, table_wrongs, framing_offset}
use Rattle.paper_table.specs.Types.{Argument, Member, argument_of, field_in, member_of, definition_in, definition_of, table_of}
use Rattle.paper_table.proofs.Every.{Every, no_more, one_more}
use Rattle.paper_table.proofs.Filled.{Filled, filled, the_one, not_there, once, slot_tag, append_inv, and_inv}
use Rattle.paper_table.proofs.PiecesLaws.{Laid, nil, torn, next, pieces_laid}
use Rattle.paper_table.proofs.FramedLaws.{holder_right, name_right, reference_right}
use Rattle.paper_table.proofs.FramedTable.{one_of_eight, framing_wrongs}
use Rattle.table_entries.specs.Entries.{entry_bytes, cells_for, Roomy, entries_of, entries_in, entries_on}

-- how many bytes some fields take
abbrev bytes_of : List HouseField → ℕ
bytes_of [] = 0
bytes_of (cut at ∷ ps) = bytes_of ps
bytes_of (house_field at tag s ∷ ps) = 3 + length s + bytes_of ps

laid_bytes : {lo hi : ℕ} {ps : List HouseField} → Laid lo ps hi → lo + bytes_of ps ≤ hi
laid_bytes (nil h) = omega arith
laid_bytes (torn h) = omega arith
laid_bytes (next r) = let k = laid_bytes r in omega arith

house_fields_bytes : (at : ℕ) (s : List ℕ) → bytes_of (house_fields at s) ≤ length s
house_fields_bytes at s = omega (arith, laid_bytes (pieces_laid at s))

-- a name, a reference has a byte
name_size : (n : List ℕ) → is_name n ≡ true → 1 ≤ length n
unfolding is_name
name_size [] e = absurd (false≢true e)
name_size (b ∷ n) e = omega arith

reference_size : (s : List ℕ) (r : Ref) → ref_of s ≡ some r → 1 ≤ length s
unfolding ref_of ref_from whole_ref
reference_size [] r e = absurd (false≢true cc)
reference_size (b ∷ s) r e = omega arith

-- what fields in slots give weighs no more than they
module _ {B : Type 0} (inner : Offsets) (g : HouseField → List B) (weight : List B → ℕ) (none-weighs : weight [] ≡ 0) (adds : (xs ys : List B) → weight (xs ++ ys) ≡ weight xs + weight ys) where
  abbrev Light : Slot → Type 0
  Light x = (at : ℕ) (s : List ℕ) → inner at (slot_tag x) s ≡ [] → 11 * weight (g (house_field at (slot_tag x) s)) ≤ 3 + length s

  filled_weighs : {ss : List Slot} {ps : List HouseField} → Every Light ss → Filled inner ss ps → 11 * weight (gather g ps) ≤ bytes_of ps
  unfolding gather
  filled_weighs h filled = omega (arith, none-weighs)
  filled_weighs (one_more h hs) (the_one {at = at} {k = k} {s = s} {ps = ps} e f) = omega (arith, adds (g (house_field at k s)) (gather g ps), h at s e, filled_weighs hs f)
  filled_weighs (one_more h hs) (not_there f) = filled_weighs hs f
  filled_weighs (one_more h hs) (once {at = at} {k = k} {s = s} {ps = ps} e f) = omega (arith, adds (g (house_field at k s)) (gather g ps), h at s e, filled_weighs hs f)
  filled_weighs (one_more h hs) (Filled.no_more f) = filled_weighs hs f
  filled_weighs (one_more h hs) (Filled.once_more {at = at} {k = k} {s = s} {ps = ps} e f) = omega (arith, adds (g (house_field at k s)) (gather g ps), h at s e, filled_weighs (one_more h hs) f)

-- a name and a reference take eight bytes and hold no argument
headed : (d : ℕ) {ss : List Slot} {ps : List HouseField} → Filled (wrongs (suc d)) (one tag_name ∷ one tag_reference ∷ ss) ps
    → (rest : List HouseField) × Filled (wrongs (suc d)) ss rest × (8 + bytes_of rest ≤ bytes_of ps) × (gather argument_of ps ≡ gather argument_of rest)
unfolding gather contents look_up
headed d (the_one {at = at} {s = n} e (the_one {at = at'} {s = s} {ps = ps} e' f)) =
    let z = reference_right d at' tag_reference s refl e' in
    (ps, f, omega (arith, name_size n (name_right d at tag_name n refl e), reference_size s z.0 z.1), refl)

argument_size : (d at : ℕ) (s : List ℕ) → wrongs (suc (suc d)) at tag_argument s ≡ [] → 8 ≤ length s
unfolding contents look_up any_of
argument_size d at s e =
    let f = headed d (holder_right (suc d) at tag_argument s (one tag_name ∷ one tag_reference ∷ []) refl refl e) in
    omega (arith, f.2, house_fields_bytes (at + 3) s)

one_argument : (d at : ℕ) (s : List ℕ) → wrongs (suc (suc d)) at tag_argument s ≡ [] → 11 * length (argument_of (house_field at tag_argument s)) ≤ 3 + length s
one_argument d at s e = omega (arith, argument_size d at s e)

field_size : (at : ℕ) (s : List ℕ) → wrongs 3 at tag_field s ≡ [] → 8 + 11 * length (field_in at s).arguments ≤ length s
unfolding contents look_up any_of
field_size at s e =
    let f = headed 1 (holder_right 2 at tag_field s (one tag_name ∷ one tag_reference ∷ many tag_argument ∷ []) refl refl e) in
    let w = filled_weighs (wrongs 2) argument_of length refl (λ (xs ys : List Argument). length-append xs ys) (one_more (one_argument 0) no_more) f.1 in
    omega (arith, f.2, w, ap (λ (xs : List Argument). length xs) f.3, house_fields_bytes (at + 3) s)

entries_add : (xs ys : List Member) → entries_of (xs ++ ys) ≡ entries_of xs + entries_of ys
entries_add [] ys = omega arith
entries_add (x ∷ xs) ys = omega (arith, entries_add xs ys)

fields_light : (at : ℕ) (s : List ℕ) → wrongs 3 at tag_field s ≡ [] → 11 * entries_of (member_of (house_field at tag_field s)) ≤ 3 + length s
unfolding member_of
fields_light at s e = omega (arith, field_size at s e)

inputs_light : (at : ℕ) (s : List ℕ) → wrongs 3 at tag_argument s ≡ [] → 11 * entries_of (member_of (house_field at tag_argument s)) ≤ 3 + length s
unfolding member_of
inputs_light at s e = omega (arith, argument_size 1 at s e)

names_light : (at : ℕ) (s : List ℕ) → wrongs 3 at tag_name s ≡ [] → 11 * entries_of (member_of (house_field at tag_name s)) ≤ 3 + length s
unfolding member_of
names_light at s e = omega arith

implemented_light : (at : ℕ) (s : List ℕ) → wrongs 3 at tag_implements s ≡ [] → 11 * entries_of (member_of (house_field at tag_implements s)) ≤ 3 + length s
unfolding member_of
implemented_light at s e = omega arith

members_weigh : {ss : List Slot} {ps : List HouseField} → Every (Light (wrongs 3) member_of entries_of refl entries_add) ss → Filled (wrongs 3) ss ps → 11 * entries_of (gather member_of ps) ≤ bytes_of ps
members_weigh h f = filled_weighs (wrongs 3) member_of entries_of refl entries_add h f

module _ (at : ℕ) (s : List ℕ) where
  object_size : wrongs most_deep at tag_object s ≡ [] → 11 * entries_in (definition_in at tag_object s) ≤ 3 + length s
  unfolding contents look_up any_of
  object_size e =
      omega (
        arith,
        members_weigh (one_more names_light (one_more implemented_light (one_more fields_light no_more)))
            (holder_right 3 at tag_object s (one tag_name ∷ many tag_implements ∷ many tag_field ∷ []) refl refl e),
        house_fields_bytes (at + 3) s,
      )

  interface_size : wrongs most_deep at tag_interface s ≡ [] → 11 * entries_in (definition_in at tag_interface s) ≤ 3 + length s
  unfolding contents look_up any_of
  interface_size e =
      omega (arith, members_weigh (one_more names_light (one_more fields_light no_more)) (holder_right 3 at tag_interface s (one tag_name ∷ many tag_field ∷ []) refl refl e), house_fields_bytes (at + 3) s)

  input_size : wrongs most_deep at tag_input_object s ≡ [] → 11 * entries_in (definition_in at tag_input_object s) ≤ 3 + length s
  unfolding contents look_up any_of
  input_size e =
      omega (arith, members_weigh (one_more names_light (one_more inputs_light no_more)) (holder_right 3 at tag_input_object s (one tag_name ∷ many tag_argument ∷ []) refl refl e), house_fields_bytes (at + 3) s)

  directive_size : wrongs most_deep at tag_directive s ≡ [] → 11 * entries_in (definition_in at tag_directive s) ≤ 3 + length s
  unfolding contents look_up any_of
  directive_size e =
      omega (arith, members_weigh (one_more names_light (one_more inputs_light no_more)) (holder_right 3 at tag_directive s (one tag_name ∷ many tag_argument ∷ []) refl refl e), house_fields_bytes (at + 3) s)

  record_size : (roots : Bool) (tag : ℕ) → record_in_place roots tag ≡ true → wrongs most_deep at tag s ≡ [] → 11 * entries_in (definition_in at tag s) ≤ 3 + length s
  record_size roots tag b =
      let z = and_inv (leb tag_scalar tag && leb tag tag_roots) (not (eqb tag tag_roots) || roots) b in
      let y = and_inv (leb tag_scalar tag) (leb tag tag_roots) z.0 in
      one_of_eight (λ k. wrongs most_deep at k s ≡ [] → 11 * entries_in (definition_in at k s) ≤ 3 + length s)
      (λ e. omega arith) object_size interface_size (λ e. omega arith) (λ e. omega arith) input_size directive_size (λ e. omega arith)
      tag (leb-true tag_scalar tag y.0) (leb-true tag tag_roots y.1)

table_size : (ps : List HouseField) (roots : Bool) → table_wrongs roots ps ≡ [] → 11 * entries_on (gather definition_of ps) ≤ bytes_of ps
unfolding table_wrongs gather definition_of entries_on
table_size [] roots e = omega arith
table_size (cut at ∷ ps) roots e = absurd (cons≢nil e)
table_size (house_field at tag s ∷ ps) roots e = go (record_in_place roots tag) refl e (table_size ps (roots && not (eqb tag tag_roots)))
  where
    go : (b : Bool) → record_in_place roots tag ≡ b → cond b (wrongs most_deep at tag s) (at ∷ []) ++ table_wrongs (roots && not (eqb tag tag_roots)) ps ≡ []
        → (table_wrongs (roots && not (eqb tag tag_roots)) ps ≡ [] → 11 * entries_on (gather definition_of ps) ≤ bytes_of ps)
        → 11 * (entries_in (definition_in at tag s) + entries_on (gather definition_of ps)) ≤ 3 + length s + bytes_of ps
    go true q e ih = let z = append_inv (wrongs most_deep at tag s) _ e in omega (arith, record_size at s roots tag q z.0, ih z.1)
    go false q e ih = absurd (cons≢nil e)

-- so the cells for its size are enough
pub framed_few : (t es : List ℕ) → framing_offset t ≡ none → length t ≤ most_table → cells_for (length t) ≤ length es → Roomy es (entries_on (table_of t))
unfolding table_of
framed_few t es e h c =
    let z : entry_bytes * entries_on (table_of t) ≤ length t = omega (arith, table_size (house_fields 0 t) true (framing_wrongs t e), house_fields_bytes 0 t) in
    record { cells = omega (arith, z); most = omega (arith, z) }
