-- What the sizes of a table with right framing give: how many definitions and members it has, and how many wrappers its references have.
use mathlib.Core.Path.{◌≡◌, refl, sym, ap, ◌∙◌}
use mathlib.Core.Bool.{Bool, true, false, not, ◌&&◌, ◌||◌, cond, false≢true}
use mathlib.Core.Option.{Option, none, some}
use mathlib.Core.List.{List, [], ◌∷◌, ◌++◌, map, head?}
use Prim.Native.Nat.{ℕ, zero, suc, ◌+◌, ◌≤◌, ◌<◌, pred}
use native.Mathlib.Omega.{arith}
use lib.ListN.{length, get_or, length-append}
use lib.Dec.{leb, eqb}
use borrow.Author.Tests.{le-leb, lt-leb, leb-true, leb-false, eqb-true, ne_eqb}
use Rattle.paper.specs.Numbers.{most_wrappers}
use Rattle.paper_table.specs.TableNumbers.{most_records, most_members, most_implemented, tag_scalar, tag_roots, tag_implements, tag_field, tag_argument, tag_reference, tag_union_member, tag_subscription_root}
use Rattle.paper_table.specs.Lists.{any_of, all_of, gather, only_if}
use Rattle.paper_table.specs.References.{Ref, ref_of}
use Rattle.paper_table.specs.House.{HouseField, house_field, cut, house_fields, house_fields_in, Slot, Content, a_name, a_reference, no_tag, holds, contents, look_up, content_of, Offsets, most_deep, in_place, open_behind, in_order, or_lacking, by_content, wrongs, record_in_place, table_wrongs, framing_offset}
use Rattle.paper_table.specs.TableSizes.{Room, room, is_over, less_room, room_in_table, room_in, overs_in, wrappers_over, overs_by, overs, counts_offset}
use Rattle.paper_table.specs.Types.{or_none, type_in, text_of, argument_in, argument_of, field_in, input_in, name_only, member_of, definition_of, table_of}
use Rattle.paper_table.proofs.ListsLaws.{head_nil}
use Rattle.paper_table.proofs.Rising.{framing_first, counts_first}
use Rattle.table_types.specs.Sizes.{slim_argument, slim_member, slim_definition, few_members}
use Rattle.paper_table.proofs.ReferenceSizes.{wrappers as wrapperCount, marks_in, ref_of_marks, over_none}

-- nothing in two lists
no_left : {A : Type 0} (xs ys : List A) → xs ++ ys ≡ [] → xs ≡ []
no_left {A = A} xs ys e = nil (let k : length (xs ++ ys) ≡ 0 = ap length e in let l = length-append xs ys in omega arith)
  where
    nil : {xs : List A} → length xs ≡ 0 → xs ≡ []
    nil {xs = []} h = refl
    nil {xs = x ∷ xs} h = absurd (omega arith)

no_right : {A : Type 0} (xs ys : List A) → xs ++ ys ≡ [] → ys ≡ []
no_right xs ys e = ap (λ l. l ++ ys) (sym (no_left xs ys e)) ∙ e

only_none : {A : Type 0} (b : Bool) (x : A) → only_if b x ≡ [] → b ≡ false
only_none true x e = let k : length (x ∷ []) ≡ 0 = ap length e in absurd (omega arith)
only_none false x e = refl

-- no field of a list is over its sizes
module _ (inner : Offsets) (rooms : List Room) (at tag : ℕ) (s : List ℕ) (ps : List HouseField) (e : overs_in inner rooms (house_field at tag s ∷ ps) ≡ []) where
  abbrev here : List ℕ
  here = only_if (any_of (is_over tag) rooms) at

  abbrev behind : List ℕ
  behind = overs_in inner (map (less_room tag) rooms) ps

  split : here ++ (inner at tag s ++ behind) ≡ []
  unfolding overs_in
  split = e

  not_over : any_of (is_over tag) rooms ≡ false
  not_over = only_none (any_of (is_over tag) rooms) at (no_left here (inner at tag s ++ behind) split)

  inner_fits : inner at tag s ≡ []
  inner_fits = no_left (inner at tag s) behind (no_right here (inner at tag s ++ behind) split)

  rest_fits : overs_in inner (map (less_room tag) rooms) ps ≡ []
  rest_fits = no_right (inner at tag s) behind (no_right here (inner at tag s ++ behind) split)

cut_fits : (inner : Offsets) (rooms : List Room) (at : ℕ) (ps : List HouseField) → overs_in inner rooms (cut at ∷ ps) ≡ [] → overs_in inner rooms ps ≡ []
unfolding overs_in
cut_fits inner rooms at ps e = e

-- a field that is a reference, and one that holds fields
reference_overs : (d at : ℕ) (s : List ℕ) → overs (suc d) at tag_reference s ≡ wrappers_over most_wrappers (at + 3) s
unfolding overs overs_by look_up contents
reference_overs d at s = refl

field_overs : (d at : ℕ) (s : List ℕ) → overs (suc d) at tag_field s ≡ overs_in (overs d) (room_in tag_field) (house_fields_in at s)
unfolding overs overs_by look_up contents
field_overs d at s = refl

argument_overs : (d at : ℕ) (s : List ℕ) → overs (suc d) at tag_argument s ≡ overs_in (overs d) (room_in tag_argument) (house_fields_in at s)
unfolding overs overs_by look_up contents
argument_overs d at s = refl

record_overs : (d at tag : ℕ) (s : List ℕ) → tag_scalar ≤ tag → tag ≤ tag_roots → overs (suc d) at tag s ≡ overs_in (overs d) (room_in tag) (house_fields_in at s)
unfolding overs overs_by look_up contents
record_overs d at zero s h k = absurd (omega arith)
record_overs d at (suc zero) s h k = refl
record_overs d at (suc (suc zero)) s h k = refl
record_overs d at (suc (suc (suc zero))) s h k = refl
record_overs d at (suc (suc (suc (suc zero)))) s h k = refl
record_overs d at (suc (suc (suc (suc (suc zero))))) s h k = refl
record_overs d at (suc (suc (suc (suc (suc (suc zero)))))) s h k = refl
record_overs d at (suc (suc (suc (suc (suc (suc (suc zero))))))) s h k = refl
record_overs d at (suc (suc (suc (suc (suc (suc (suc (suc zero)))))))) s h k = refl
record_overs d at (suc (suc (suc (suc (suc (suc (suc (suc (suc n))))))))) s h k = absurd (omega arith)

-- References: at most seven wrappers.
ref_slim : (s : List ℕ) → marks_in s ≤ most_wrappers → wrapperCount (or_none (ref_of s)) ≤ most_wrappers
ref_slim s h = go (ref_of s) refl
  where
    go : (o : Option Ref) → ref_of s ≡ o → wrapperCount (or_none o) ≤ most_wrappers
    go none e = omega arith
    go (some r) e = omega (arith, ref_of_marks s r e)

text_marks : (d : ℕ) (rooms : List Room) (ps : List HouseField) → overs_in (overs (suc d)) rooms ps ≡ [] → marks_in (text_of tag_reference ps) ≤ most_wrappers
unfolding text_of marks_in
text_marks d rooms [] e = omega arith
text_marks d rooms (cut at ∷ ps) e = text_marks d rooms ps (cut_fits (overs (suc d)) rooms at ps e)
text_marks d rooms (house_field at tag s ∷ ps) e = go (eqb tag tag_reference) refl (text_marks d (map (less_room tag) rooms) ps (rest_fits (overs (suc d)) rooms at tag s ps e))
  where
    go : (b : Bool) → eqb tag tag_reference ≡ b → marks_in (text_of tag_reference ps) ≤ most_wrappers → marks_in (cond b s (text_of tag_reference ps)) ≤ most_wrappers
    go true q ih =
        let k : tag ≡ tag_reference = eqb-true tag tag_reference q in
        let f : overs (suc d) at tag_reference s ≡ [] = ap (λ (x : ℕ). overs (suc d) at x s) (sym k) ∙ inner_fits (overs (suc d)) rooms at tag s ps e in
        over_none most_wrappers (at + 3) s (ap head? (sym (reference_overs d at s) ∙ f))
    go false q ih = ih

type_slim : (d : ℕ) (rooms : List Room) (ps : List HouseField) → overs_in (overs (suc d)) rooms ps ≡ [] → leb (wrapperCount (type_in ps)) most_wrappers ≡ true
type_slim d rooms ps e = le-leb (wrapperCount (type_in ps)) most_wrappers (ref_slim (text_of tag_reference ps) (text_marks d rooms ps e))

arguments_slim : (d : ℕ) (rooms : List Room) (ps : List HouseField) → overs_in (overs (suc (suc d))) rooms ps ≡ [] → all_of slim_argument (gather argument_of ps) ≡ true
unfolding gather all_of
arguments_slim d rooms [] e = refl
arguments_slim d rooms (cut at ∷ ps) e = arguments_slim d rooms ps (cut_fits (overs (suc (suc d))) rooms at ps e)
arguments_slim d rooms (house_field at tag s ∷ ps) e =
    go (eqb tag tag_argument) refl (arguments_slim d (map (less_room tag) rooms) ps (rest_fits (overs (suc (suc d))) rooms at tag s ps e))
  where
    go : (b : Bool) → eqb tag tag_argument ≡ b → all_of slim_argument (gather argument_of ps) ≡ true → all_of slim_argument (only_if b (argument_in at s) ++ gather argument_of ps) ≡ true
    go true q ih =
        let k : tag ≡ tag_argument = eqb-true tag tag_argument q in
        let f : overs (suc (suc d)) at tag_argument s ≡ [] = ap (λ (x : ℕ). overs (suc (suc d)) at x s) (sym k) ∙ inner_fits (overs (suc (suc d))) rooms at tag s ps e in
        rw (type_slim d (room_in tag_argument) (house_fields_in at s) (sym (argument_overs (suc d) at s) ∙ f)) ih
    go false q ih = ih

members_slim : (d : ℕ) (rooms : List Room) (ps : List HouseField) → overs_in (overs (suc (suc (suc d)))) rooms ps ≡ [] → all_of slim_member (gather member_of ps) ≡ true
unfolding gather all_of member_of
members_slim d rooms [] e = refl
members_slim d rooms (cut at ∷ ps) e = members_slim d rooms ps (cut_fits (overs (suc (suc (suc d)))) rooms at ps e)
members_slim d rooms (house_field at tag s ∷ ps) e =
    go (eqb tag tag_field) refl (eqb tag tag_argument) refl (leb tag_union_member tag)
    (members_slim d (map (less_room tag) rooms) ps (rest_fits (overs (suc (suc (suc d)))) rooms at tag s ps e))
  where
    fits : overs (suc (suc (suc d))) at tag s ≡ []
    fits = inner_fits (overs (suc (suc (suc d)))) rooms at tag s ps e

    go : (b : Bool) → eqb tag tag_field ≡ b → (c : Bool) → eqb tag tag_argument ≡ c → (u : Bool) → all_of slim_member (gather member_of ps) ≡ true
        → all_of slim_member (cond b (field_in at s ∷ []) (cond c (input_in at s ∷ []) (only_if u (name_only tag s))) ++ gather member_of ps) ≡ true
    go true q c r u ih =
        let k : tag ≡ tag_field = eqb-true tag tag_field q in
        let f : overs_in (overs (suc (suc d))) (room_in tag_field) (house_fields_in at s) ≡ [] = sym (field_overs (suc (suc d)) at s) ∙ ap (λ (x : ℕ). overs (suc (suc (suc d))) at x s) (sym k) ∙ fits in
        rw (type_slim (suc d) (room_in tag_field) (house_fields_in at s) f, arguments_slim d (room_in tag_field) (house_fields_in at s) f) ih
    go false q true r u ih =
        let k : tag ≡ tag_argument = eqb-true tag tag_argument r in
        let f : overs_in (overs (suc (suc d))) (room_in tag_argument) (house_fields_in at s) ≡ [] = sym (argument_overs (suc (suc d)) at s) ∙ ap (λ (x : ℕ). overs (suc (suc (suc d))) at x s) (sym k) ∙ fits in
        rw (type_slim (suc d) (room_in tag_argument) (house_fields_in at s) f) ih
    go false q false r true ih = ih
    go false q false r false ih = ih

-- The records of a table with right framing: 1 to 8.
module _ (roots : Bool) (at tag : ℕ) (s : List ℕ) (ps : List HouseField) (e : table_wrongs roots (house_field at tag s ∷ ps) ≡ []) where
  wrongs_split : cond (record_in_place roots tag) (wrongs most_deep at tag s) (at ∷ []) ++ table_wrongs (roots && not (eqb tag tag_roots)) ps ≡ []
  unfolding table_wrongs
  wrongs_split = e

  record_in : (record_in_place roots tag ≡ true) × (wrongs most_deep at tag s ≡ [])
  record_in = go (record_in_place roots tag) refl (no_left (cond (record_in_place roots tag) (wrongs most_deep at tag s) (at ∷ [])) (table_wrongs (roots && not (eqb tag tag_roots)) ps) wrongs_split)
    where
      go : (b : Bool) → record_in_place roots tag ≡ b → cond b (wrongs most_deep at tag s) (at ∷ []) ≡ [] → (record_in_place roots tag ≡ true) × (wrongs most_deep at tag s ≡ [])
      go true q f = (q, f)
      go false q f = let k : length (at ∷ []) ≡ 0 = ap length f in absurd (omega arith)

  record_tag : (tag_scalar ≤ tag) × (tag ≤ tag_roots)
  record_tag = go (leb tag_scalar tag) refl (leb tag tag_roots) refl record_in.0
    where
      go : (b : Bool) → leb tag_scalar tag ≡ b → (c : Bool) → leb tag tag_roots ≡ c → b && c && (not (eqb tag tag_roots) || roots) ≡ true → (tag_scalar ≤ tag) × (tag ≤ tag_roots)
      go true p true q h = (leb-true tag_scalar tag p, leb-true tag tag_roots q)
      go true p false q h = absurd (false≢true h)
      go false p c q h = absurd (false≢true h)

  others_right : table_wrongs (roots && not (eqb tag tag_roots)) ps ≡ []
  others_right = no_right (cond (record_in_place roots tag) (wrongs most_deep at tag s) (at ∷ [])) (table_wrongs (roots && not (eqb tag tag_roots)) ps) wrongs_split

no_cut : {A : Type 0} (roots : Bool) (at : ℕ) (ps : List HouseField) → table_wrongs roots (cut at ∷ ps) ≡ [] → A
unfolding table_wrongs
no_cut roots at ps e = let k : length (at ∷ table_wrongs roots ps) ≡ 0 = ap length e in absurd (omega arith)

definitions_slim : (roots : Bool) (rooms : List Room) (ps : List HouseField) → table_wrongs roots ps ≡ [] → overs_in (overs most_deep) rooms ps ≡ [] → all_of slim_definition (gather definition_of ps) ≡ true
unfolding gather all_of definition_of
definitions_slim roots rooms [] w e = refl
definitions_slim roots rooms (cut at ∷ ps) w e = no_cut roots at ps w
definitions_slim roots rooms (house_field at tag s ∷ ps) w e =
    let k = record_tag roots at tag s ps w in
    let f : overs_in (overs 3) (room_in tag) (house_fields_in at s) ≡ [] = sym (record_overs 3 at tag s k.0 k.1) ∙ inner_fits (overs most_deep) rooms at tag s ps e in
    rw (members_slim 0 (room_in tag) (house_fields_in at s) f)
    (definitions_slim (roots && not (eqb tag tag_roots)) (map (less_room tag) rooms) ps (others_right roots at tag s ps w) (rest_fits (overs most_deep) rooms at tag s ps e))

-- How many records.
one_room : (tag n : ℕ) → tag_scalar ≤ tag → tag ≤ tag_roots → any_of (is_over tag) (room tag_scalar tag_roots n ∷ []) ≡ false → (n ≡ 0 → ⊥) × (map (less_room tag) (room tag_scalar tag_roots n ∷ []) ≡ room tag_scalar tag_roots (pred n) ∷ [])
unfolding any_of
one_room tag n h k e =
    let p : leb tag_scalar tag ≡ true = le-leb tag_scalar tag h in
    let q : leb tag tag_roots ≡ true = le-leb tag tag_roots k in
    (λ z. absurd (false≢true (sym e ∙ rw (p, q, z))), rw (p, q))

definitions_few : (inner : Offsets) (roots : Bool) (n : ℕ) (ps : List HouseField) → table_wrongs roots ps ≡ [] → overs_in inner (room tag_scalar tag_roots n ∷ []) ps ≡ [] → length (gather definition_of ps) ≤ n
unfolding gather definition_of
definitions_few inner roots n [] w e = omega arith
definitions_few inner roots n (cut at ∷ ps) w e = no_cut roots at ps w
definitions_few inner roots n (house_field at tag s ∷ ps) w e =
    let k = record_tag roots at tag s ps w in
    let r = one_room tag n k.0 k.1 (not_over inner (room tag_scalar tag_roots n ∷ []) at tag s ps e) in
    let f : overs_in inner (room tag_scalar tag_roots (pred n) ∷ []) ps ≡ [] = ap (λ (x : List Room). overs_in inner x ps) (sym r.1) ∙ rest_fits inner (room tag_scalar tag_roots n ∷ []) at tag s ps e in
    let i = definitions_few inner (roots && not (eqb tag tag_roots)) (pred n) ps (others_right roots at tag s ps w) f in
    less n r.0 i
  where
    less : (m : ℕ) → (m ≡ 0 → ⊥) → length (gather definition_of ps) ≤ pred m → suc (length (gather definition_of ps)) ≤ m
    less zero z i = absurd (z refl)
    less (suc m) z i = omega arith

-- How many members: the tags of a right holder's fields go up to 25.
no_such_tag : (tag : ℕ) → tag_subscription_root < tag → content_of tag ≡ no_tag
unfolding look_up contents
no_such_tag tag h =
    rw (
      ne_eqb tag 1 (λ z. omega arith),
      ne_eqb tag 2 (λ z. omega arith),
      ne_eqb tag 3 (λ z. omega arith),
      ne_eqb tag 4 (λ z. omega arith),
      ne_eqb tag 5 (λ z. omega arith),
      ne_eqb tag 6 (λ z. omega arith),
      ne_eqb tag 7 (λ z. omega arith),
      ne_eqb tag 8 (λ z. omega arith),
      ne_eqb tag 18 (λ z. omega arith),
      ne_eqb tag 19 (λ z. omega arith),
      ne_eqb tag 16 (λ z. omega arith),
      ne_eqb tag 17 (λ z. omega arith),
      ne_eqb tag 20 (λ z. omega arith),
      ne_eqb tag 21 (λ z. omega arith),
      ne_eqb tag 22 (λ z. omega arith),
      ne_eqb tag 23 (λ z. omega arith),
      ne_eqb tag 24 (λ z. omega arith),
      ne_eqb tag 25 (λ z. omega arith),
    )

right_tag : (d at tag : ℕ) (s : List ℕ) → wrongs (suc d) at tag s ≡ [] → tag ≤ tag_subscription_root
unfolding wrongs by_content
right_tag d at tag s e = go (leb tag tag_subscription_root) refl
  where
    go : (b : Bool) → leb tag tag_subscription_root ≡ b → tag ≤ tag_subscription_root
    go true q = leb-true tag tag_subscription_root q
    go false q =
        let z : at ∷ [] ≡ [] = sym (ap (by_content (wrongs d) at s) (no_such_tag tag (leb-false tag tag_subscription_root q))) ∙ e in
        let k : length (at ∷ []) ≡ 0 = ap length z in
        absurd (omega arith)

module _ (d : ℕ) (slots : List Slot) (at tag : ℕ) (s : List ℕ) (ps : List HouseField) (e : in_order (wrongs (suc d)) slots (house_field at tag s ∷ ps) ≡ []) where
  order_split : cond (in_place tag slots) (wrongs (suc d) at tag s) (at ∷ []) ++ in_order (wrongs (suc d)) (open_behind tag slots) ps ≡ []
  unfolding in_order
  order_split = e

  order_tag : tag ≤ tag_subscription_root
  order_tag = go (in_place tag slots) (no_left (cond (in_place tag slots) (wrongs (suc d) at tag s) (at ∷ [])) (in_order (wrongs (suc d)) (open_behind tag slots) ps) order_split)
    where
      go : (b : Bool) → cond b (wrongs (suc d) at tag s) (at ∷ []) ≡ [] → tag ≤ tag_subscription_root
      go true f = right_tag d at tag s f
      go false f = let k : length (at ∷ []) ≡ 0 = ap length f in absurd (omega arith)

  order_rest : in_order (wrongs (suc d)) (open_behind tag slots) ps ≡ []
  order_rest = no_right (cond (in_place tag slots) (wrongs (suc d) at tag s) (at ∷ [])) (in_order (wrongs (suc d)) (open_behind tag slots) ps) order_split

no_cut_inside : {A : Type 0} (inner : Offsets) (slots : List Slot) (at : ℕ) (ps : List HouseField) → in_order inner slots (cut at ∷ ps) ≡ [] → A
unfolding in_order
no_cut_inside inner slots at ps e = let k : length (at ∷ in_order inner slots ps) ≡ 0 = ap length e in absurd (omega arith)

abbrev two_rooms : ℕ → ℕ → List Room
two_rooms m n = room tag_implements tag_implements m ∷ room tag_field tag_subscription_root n ∷ []

abbrev is_counted : ℕ → Bool
is_counted tag = leb tag_field tag && leb tag tag_subscription_root

abbrev is_implements : ℕ → Bool
is_implements tag = leb tag_implements tag && leb tag tag_implements

-- the rooms behind a field, and that there was room for one that is counted
rooms_behind : (tag m n : ℕ) → map (less_room tag) (two_rooms m n) ≡ two_rooms (cond (is_implements tag) (pred m) m) (cond (is_counted tag) (pred n) n)
rooms_behind tag m n = refl

room_left : (tag m n : ℕ) → any_of (is_over tag) (two_rooms m n) ≡ false → is_counted tag ≡ true → n ≡ 0 → ⊥
unfolding any_of
room_left tag m n e c z =
    let q : is_counted tag && eqb n 0 ≡ true = rw (c, z) in
    go (is_implements tag && eqb m 0) (sym (ap (λ (b : Bool). (is_implements tag && eqb m 0) || (b || false)) q) ∙ e)
  where
    go : (b : Bool) → b || true ≡ false → ⊥
    go true q = false≢true (sym q)
    go false q = false≢true (sym q)

one_member : (at tag : ℕ) (s : List ℕ) → length (member_of (house_field at tag s)) ≤ 1
unfolding member_of
one_member at tag s = go (eqb tag tag_field) (eqb tag tag_argument) (leb tag_union_member tag)
  where
    go : (a b c : Bool) → length (cond a (field_in at s ∷ []) (cond b (input_in at s ∷ []) (only_if c (name_only tag s)))) ≤ 1
    go true b c = omega arith
    go false true c = omega arith
    go false false true = omega arith
    go false false false = omega arith

no_member : (at tag : ℕ) (s : List ℕ) → tag < tag_field → length (member_of (house_field at tag s)) ≤ 0
unfolding member_of
no_member at tag s h = rw (ne_eqb tag tag_field (λ z. omega arith), ne_eqb tag tag_argument (λ z. omega arith), lt-leb tag_union_member tag (omega arith)) (omega arith)

members_few : (d : ℕ) (inner : Offsets) (slots : List Slot) (m n : ℕ) (ps : List HouseField) → in_order (wrongs (suc d)) slots ps ≡ [] → overs_in inner (two_rooms m n) ps ≡ []
    → length (gather member_of ps) ≤ n
unfolding gather
members_few d inner slots m n [] w e = omega arith
members_few d inner slots m n (cut at ∷ ps) w e = no_cut_inside (wrongs (suc d)) slots at ps w
members_few d inner slots m n (house_field at tag s ∷ ps) w e =
    go (is_counted tag) refl n (λ c. room_left tag m n (not_over inner (two_rooms m n) at tag s ps e) c)
    (members_few d inner (open_behind tag slots) (cond (is_implements tag) (pred m) m) (cond (is_counted tag) (pred n) n) ps (order_rest d slots at tag s ps w)
    (rest_fits inner (two_rooms m n) at tag s ps e))
  where
    low : is_counted tag ≡ false → tag < tag_field
    low c = go' (leb tag_field tag) refl
      where
        go' : (b : Bool) → leb tag_field tag ≡ b → tag < tag_field
        go' true q = absurd (false≢true (sym c ∙ rw (q, le-leb tag tag_subscription_root (order_tag d slots at tag s ps w))))
        go' false q = leb-false tag_field tag q

    go : (b : Bool) → is_counted tag ≡ b → (k : ℕ) → (is_counted tag ≡ true → k ≡ 0 → ⊥) → length (gather member_of ps) ≤ cond b (pred k) k → length (member_of (house_field at tag s) ++ gather member_of ps) ≤ k
    go true c zero z i = absurd (z c refl)
    go true c (suc k) z i = omega (arith, length-append (member_of (house_field at tag s)) (gather member_of ps), one_member at tag s, i)
    go false c k z i = omega (arith, length-append (member_of (house_field at tag s)) (gather member_of ps), no_member at tag s (low c), i)

lacking_none : (at : ℕ) (b : Bool) (ws : List ℕ) → or_lacking at b ws ≡ [] → ws ≡ []
lacking_none at b [] e = refl
lacking_none at b (w ∷ ws) e = e

abbrev slots_of : Content → List Slot
slots_of a_name = []
slots_of a_reference = []
slots_of no_tag = []
slots_of (holds slots) = slots

abbrev ordered : ℕ → ℕ → ℕ → List ℕ → Type 0
ordered d at tag s = in_order (wrongs d) (slots_of (content_of tag)) (house_fields_in at s) ≡ []

record_order : (d at tag : ℕ) (s : List ℕ) → tag_scalar ≤ tag → tag ≤ tag_roots → wrongs (suc d) at tag s ≡ [] → ordered d at tag s
unfolding wrongs by_content look_up contents
record_order d at zero s h k e = absurd (omega arith)
record_order d at (suc zero) s h k e = lacking_none at _ _ e
record_order d at (suc (suc zero)) s h k e = lacking_none at _ _ e
record_order d at (suc (suc (suc zero))) s h k e = lacking_none at _ _ e
record_order d at (suc (suc (suc (suc zero)))) s h k e = lacking_none at _ _ e
record_order d at (suc (suc (suc (suc (suc zero))))) s h k e = lacking_none at _ _ e
record_order d at (suc (suc (suc (suc (suc (suc zero)))))) s h k e = lacking_none at _ _ e
record_order d at (suc (suc (suc (suc (suc (suc (suc zero))))))) s h k e = lacking_none at _ _ e
record_order d at (suc (suc (suc (suc (suc (suc (suc (suc zero)))))))) s h k e = lacking_none at _ _ e
record_order d at (suc (suc (suc (suc (suc (suc (suc (suc (suc n))))))))) s h k e = absurd (omega arith)

record_room : (tag : ℕ) → tag ≤ tag_roots → room_in tag ≡ two_rooms most_implemented most_members
unfolding room_in
record_room tag h = rw (le-leb tag tag_roots h)

definitions_members : (roots : Bool) (rooms : List Room) (ps : List HouseField) → table_wrongs roots ps ≡ [] → overs_in (overs most_deep) rooms ps ≡ [] → all_of few_members (gather definition_of ps) ≡ true
unfolding gather all_of definition_of
definitions_members roots rooms [] w e = refl
definitions_members roots rooms (cut at ∷ ps) w e = no_cut roots at ps w
definitions_members roots rooms (house_field at tag s ∷ ps) w e =
    let k = record_tag roots at tag s ps w in
    let o : ordered 3 at tag s = record_order 3 at tag s k.0 k.1 (record_in roots at tag s ps w).1 in
    let f : overs_in (overs 3) (room_in tag) (house_fields_in at s) ≡ [] = sym (record_overs 3 at tag s k.0 k.1) ∙ inner_fits (overs most_deep) rooms at tag s ps e in
    let g : overs_in (overs 3) (two_rooms most_implemented most_members) (house_fields_in at s) ≡ [] = ap (λ (x : List Room). overs_in (overs 3) x (house_fields_in at s)) (sym (record_room tag k.1)) ∙ f in
    rw (le-leb (length (gather member_of (house_fields_in at s))) most_members (members_few 2 (overs 3) (slots_of (content_of tag)) most_implemented most_members (house_fields_in at s) o g))
    (definitions_members (roots && not (eqb tag tag_roots)) (map (less_room tag) rooms) ps (others_right roots at tag s ps w) (rest_fits (overs most_deep) rooms at tag s ps e))

-- The sizes of a table.
module _ (t : List ℕ) (f : framing_offset t ≡ none) (c : counts_offset t ≡ none) where
  right : table_wrongs true (house_fields 0 t) ≡ []
  right = head_nil (table_wrongs true (house_fields 0 t)) (sym (framing_first t) ∙ f)

  fitting : overs_in (overs most_deep) room_in_table (house_fields 0 t) ≡ []
  fitting = head_nil (overs_in (overs most_deep) room_in_table (house_fields 0 t)) (sym (counts_first t) ∙ c)

  pub records_few : length (table_of t) ≤ most_records
  unfolding table_of
  records_few = definitions_few (overs most_deep) true most_records (house_fields 0 t) right fitting

  pub references_slim : all_of slim_definition (table_of t) ≡ true
  unfolding table_of
  references_slim = definitions_slim true room_in_table (house_fields 0 t) right fitting

  pub members_fit : all_of few_members (table_of t) ≡ true
  unfolding table_of
  members_fit = definitions_members true room_in_table (house_fields 0 t) right fitting

-- of each definition
pub all_at : {A : Type 0} (p : A → Bool) (z : A) (xs : List A) → all_of p xs ≡ true → (i : ℕ) → i < length xs → p (get_or xs i z) ≡ true
unfolding all_of
all_at p z [] e i h = absurd (omega arith)
all_at p z (x ∷ xs) e i h = go (p x) refl e i h (λ f j k. all_at p z xs f j k)
  where
    go : (b : Bool) → p x ≡ b → b && all_of p xs ≡ true → (i : ℕ) → i < suc (length xs) → (all_of p xs ≡ true → (j : ℕ) → j < length xs → p (get_or xs j z) ≡ true) → p (get_or (x ∷ xs) i z) ≡ true
    go true q f zero k ih = q
    go true q f (suc j) k ih = ih f j (omega arith)
    go false q f j k ih = absurd (false≢true f)
