-- A record and a table up to some place: what comes decides whether all is right, and within the sizes.
use mathlib.Core.Path.{◌≡◌, refl, sym, ap, ◌∙◌}
use mathlib.Core.Bool.{Bool, true, false, not, ◌&&◌, ◌||◌}
use mathlib.Core.Option.{none}
use mathlib.Core.List.{List, [], ◌∷◌, map}
use Prim.Native.Nat.{ℕ, ◌+◌, ◌-◌, ◌%◌, ◌/◌, ◌≤◌, ◌<◌}
use native.Mathlib.Omega.{arith}
use native.Mathlib.Nat.{le_refl}
use lib.ListN.{length}
use lib.Seq.{slice, take-length}
use lib.Dec.{eqb, leb}
use borrow.Author.Tests.{le-ltb, ne_eqb}
use Rattle.paper.proofs.Bools.{and_left, and_right}
use Rattle.paper_table.specs.TableNumbers.{most_implemented, most_records, tag_scalar, tag_roots}
use Rattle.paper_table.specs.Lists.{any_of, only_if}
use Rattle.paper_table.specs.References.{is_name}
use Rattle.paper_table.specs.House.{house_field, house_fields, house_fields_in, Slot, a_name, content_of, holds, in_place, open_after, tag_is, lacks_house_field, in_order, or_lacking, by_content, wrongs, most_deep, record_in_place, table_wrongs, smallest, framing_offset}
use Rattle.paper_table.specs.TableSizes.{Room, room, is_over, less_room, room_in, room_in_table, overs_in, overs_by, overs, counts_offset}
use Rattle.paper_table.proofs.HolderLaws.{order_on, order_end, table_on, table_end, over_on, over_end}
use Rattle.std.specs.Prelude.{Some}
use Rattle.table_fields.specs.declared.Field.{Field}
use Rattle.table_fields.specs.Fields.{field_at}
use Rattle.table_fields.proofs.FieldLaws.{field_lies, pieces_read, pieces_none}
use Rattle.table_framing.specs.Holders.{rank, least_after, placed, open_from, Holder}
use Rattle.table_framing.specs.Framing.{roots_after}
use Rattle.table_framing.proofs.OpenLaws.{in_open, open_after_is, open_start}
use Rattle.table_rooms.specs.Rooms.{room_for, rest_room, rooms_of}
use Rattle.table_rooms.proofs.RoomLaws.{room_over, room_less, room_start, pred_is}
use Rattle.table_framing_quick_types.specs.Fine.{Fine}
use Rattle.table_framing_quick.specs.Usual.{Members}

-- A content that is a name.
pub fine_name : (at k : ℕ) (s : List ℕ) (r : Bool) → content_of k ≡ a_name → r ≡ is_name s → r ≡ true → Fine 3 at k s
unfolding wrongs overs by_content overs_by
fine_name at k s r c q e = (rw (c, sym q ∙ e), rw c)

-- A record up to the place i, the least rank in place, and so much room left.
pub record Going (t : List ℕ) (at tag end first from to least names rest i : ℕ) : Type 0 where
  pub holder : Holder tag first first from to
  pub ordered : in_order (wrongs 3) (open_from least holder.slots) (house_fields i (slice i end t)) ≡ in_order (wrongs 3) holder.slots (house_fields_in at (slice (at + 3) end t))
  pub within : overs_in (overs 3) (rooms_of tag names rest) (house_fields i (slice i end t)) ≡ overs_in (overs 3) (room_in tag) (house_fields_in at (slice (at + 3) end t))
  pub order : i ≤ end

pub going_start : (t : List ℕ) (at tag end first from to rest : ℕ) → Holder tag first first from to → rest ≡ rest_room tag → at + 3 ≤ end
    → Going t at tag end first from to 0 most_implemented rest (at + 3)
going_start t at tag end first from to rest a q h = record {
  holder = a;
  ordered = ap (λ (ss : List Slot). in_order (wrongs 3) ss (house_fields_in at (slice (at + 3) end t))) (sym (open_start a.slots));
  within = ap (λ (rs : List Room). overs_in (overs 3) rs (house_fields_in at (slice (at + 3) end t))) (ap (rooms_of tag most_implemented) q ∙ room_start tag);
  order = h;
}

module _ (t : List ℕ) (at tag end first from to least names rest i : ℕ) (w : end ≤ length t) (o : Going t at tag end first from to least names rest i) where
  pub going_end : end ≤ i → Members at tag (slice (at + 3) end t)
  going_end h = record {
    slots = o.holder.slots;
    is = o.holder.is;
    ordered = sym o.ordered ∙ ap (in_order (wrongs 3) (open_from least o.holder.slots)) (pieces_none t i end h w) ∙ order_end (wrongs 3) (open_from least o.holder.slots);
    within = sym o.within ∙ ap (overs_in (overs 3) (rooms_of tag names rest)) (pieces_none t i end h w) ∙ over_end (overs 3) (rooms_of tag names rest);
  }

  -- one field more
  module _ (h : i < end) (it : Field) (q : field_at t i end ≡ Some it) where
    abbrev open' : List Slot
    open' = open_from least o.holder.slots

    split : house_fields i (slice i end t) ≡ house_field i it.tag (slice (i + 3) it.end t) ∷ house_fields it.end (slice it.end end t)
    split = let l = field_lies t i end it o.order q in pieces_read t i end w h it q ∙ rw l.begins

    ordered_on : (r : Bool) → r ≡ placed first from to least it.tag → r ≡ true → wrongs 3 i it.tag (slice (i + 3) it.end t) ≡ [] → (m : ℕ) → m ≡ least_after it.tag
        → in_order (wrongs 3) (open_from m o.holder.slots) (house_fields it.end (slice it.end end t)) ≡ in_order (wrongs 3) o.holder.slots (house_fields_in at (slice (at + 3) end t))
    ordered_on r p f y m c =
        let u : leb least (rank it.tag) && (eqb it.tag first || leb from it.tag && leb it.tag to) ≡ true = sym p ∙ f in
        let there : in_place it.tag o.holder.slots ≡ true = o.holder.known it.tag ∙ and_right (leb least (rank it.tag)) _ u in
        let in-it : in_place it.tag open' ≡ true = in_open least it.tag o.holder.slots ∙ rw (and_left (leb least (rank it.tag)) _ u) there in
        let v : open_after it.tag open' ≡ open_from m o.holder.slots =
        open_after_is least 0 it.tag o.holder.slots o.holder.rises (and_left (leb least (rank it.tag)) _ u) there ∙ ap (λ (b : ℕ). open_from b o.holder.slots) (sym c) in
        sym
        (ap (in_order (wrongs 3) open') split ∙ order_on (wrongs 3) open' i it.tag (slice (i + 3) it.end t) (house_fields it.end (slice it.end end t)) in-it y
        ∙ ap (λ (ss : List Slot). in_order (wrongs 3) ss (house_fields it.end (slice it.end end t))) v)
        ∙ o.ordered

    within_on : (n : ℕ) → n ≡ room_for tag it.tag → n % 2 ≤ names → n / 2 ≤ rest → overs 3 i it.tag (slice (i + 3) it.end t) ≡ []
        → overs_in (overs 3) (rooms_of tag (names - n % 2) (rest - n / 2)) (house_fields it.end (slice it.end end t)) ≡ overs_in (overs 3) (room_in tag) (house_fields_in at (slice (at + 3) end t))
    within_on n p l m y =
        let left : any_of (is_over it.tag) (rooms_of tag names rest) ≡ false = room_over names rest it.tag tag n p ∙ rw (le-ltb names (n % 2) l, le-ltb rest (n / 2) m) in
        ap (λ (rs : List Room). overs_in (overs 3) rs (house_fields it.end (slice it.end end t))) (sym (room_less names rest it.tag tag n p))
        ∙ sym (ap (overs_in (overs 3) (rooms_of tag names rest)) split ∙ over_on (overs 3) (rooms_of tag names rest) i it.tag (slice (i + 3) it.end t) (house_fields it.end (slice it.end end t)) left y)
        ∙ o.within

    pub going_on : (r : Bool) → r ≡ placed first from to least it.tag → r ≡ true → (m : ℕ) → m ≡ least_after it.tag → (n : ℕ) → n ≡ room_for tag it.tag → n % 2 ≤ names → n / 2 ≤ rest
        → Fine 3 i it.tag (slice (i + 3) it.end t) → Going t at tag end first from to m (names - n % 2) (rest - n / 2) it.end
    going_on r p f m c n d l j y = record {
      holder = o.holder;
      ordered = ordered_on r p f y.0 m c;
      within = within_on n d l j y.1;
      order = (field_lies t i end it o.order q).within;
    }

-- A record whose fields are right, and the one that is due is there.
module _ (at tag : ℕ) (s : List ℕ) (slots : List Slot) (c : content_of tag ≡ holds slots) where
  wrongs_record : wrongs most_deep at tag s ≡ or_lacking at (lacks_house_field slots (house_fields_in at s)) (in_order (wrongs 3) slots (house_fields_in at s))
  unfolding wrongs by_content
  wrongs_record = rw c

  overs_record : overs most_deep at tag s ≡ overs_in (overs 3) (room_in tag) (house_fields_in at s)
  unfolding overs overs_by
  overs_record = rw c

pub fine_record : (at tag first from to : ℕ) (s : List ℕ) (x : Bool) → Holder tag first first from to → x ≡ any_of (tag_is first) (house_fields_in at s) → x ≡ true → Members at tag s
    → Fine most_deep at tag s
fine_record at tag first from to s x a q e m = (
  wrongs_record at tag s m.slots m.is ∙ ap (or_lacking at (lacks_house_field m.slots (house_fields_in at s))) m.ordered ∙ ap (λ (b : Bool). only_if b at) all_there,
  overs_record at tag s m.slots m.is ∙ m.within,
)
  where
    there : any_of (tag_is first) (house_fields_in at s) ≡ true
    there = sym q ∙ e

    same : m.slots ≡ a.slots
    same = let y : holds m.slots ≡ holds a.slots = sym m.is ∙ a.is in cc

    all_there : lacks_house_field m.slots (house_fields_in at s) ≡ false
    all_there = rw same (a.dues (house_fields_in at s) ∙ rw there)

-- A table up to the place i.
pub record Tabled (t : List ℕ) (roots : Bool) (left i : ℕ) : Type 0 where
  pub ordered : table_wrongs roots (house_fields i (slice i (length t) t)) ≡ table_wrongs true (house_fields 0 t)
  pub within : overs_in (overs most_deep) (room tag_scalar tag_roots left ∷ []) (house_fields i (slice i (length t) t)) ≡ overs_in (overs most_deep) room_in_table (house_fields 0 t)
  pub order : i ≤ length t

pub tabled_start : (t : List ℕ) → Tabled t true most_records 0
tabled_start t = record {
  ordered = ap (λ (s : List ℕ). table_wrongs true (house_fields 0 s)) (take-length t);
  within = ap (λ (s : List ℕ). overs_in (overs most_deep) room_in_table (house_fields 0 s)) (take-length t);
  order = omega arith;
}

module _ (t : List ℕ) (roots : Bool) (left i : ℕ) (o : Tabled t roots left i) where
  abbrev rooms : List Room
  rooms = room tag_scalar tag_roots left ∷ []

  pub tabled_end : length t ≤ i → (framing_offset t ≡ none) × (counts_offset t ≡ none)
  unfolding framing_offset counts_offset smallest
  tabled_end h = (
    ap smallest (sym o.ordered ∙ ap (table_wrongs roots) (pieces_none t i (length t) h (le_refl (length t))) ∙ table_end roots),
    ap smallest (sym o.within ∙ ap (overs_in (overs most_deep) rooms) (pieces_none t i (length t) h (le_refl (length t))) ∙ over_end (overs most_deep) rooms),
  )

  module _ (h : i < length t) (it : Field) (q : field_at t i (length t) ≡ Some it) (r : Bool) (p : r ≡ record_in_place roots it.tag) (f : r ≡ true) where
    split_table : house_fields i (slice i (length t) t) ≡ house_field i it.tag (slice (i + 3) it.end t) ∷ house_fields it.end (slice it.end (length t) t)
    split_table = let l = field_lies t i (length t) it o.order q in pieces_read t i (length t) (le_refl (length t)) h it q ∙ rw l.begins

    -- such it.start tag is counted
    is_counted : leb tag_scalar it.tag && leb it.tag tag_roots ≡ true
    is_counted = go (leb tag_scalar it.tag) (leb it.tag tag_roots) (sym p ∙ f)
      where
        go : (x y : Bool) → x && y && (not (eqb it.tag tag_roots) || roots) ≡ true → x && y ≡ true
        go true true z = refl
        go true false z = z
        go false y z = z

    pub tabled_on : (left ≡ 0 → ⊥) → Fine most_deep i it.tag (slice (i + 3) it.end t) → (b : Bool) → b ≡ roots_after roots it.tag → Tabled t b (left - 1) it.end
    unfolding any_of
    tabled_on n y b c = record {
      ordered =
          ap (λ (d : Bool). table_wrongs d (house_fields it.end (slice it.end (length t) t))) c
          ∙ sym (ap (table_wrongs roots) split_table ∙ table_on roots i it.tag (slice (i + 3) it.end t) (house_fields it.end (slice it.end (length t) t)) (sym p ∙ f) y.0) ∙ o.ordered;
      within =
          ap (λ (rs : List Room). overs_in (overs most_deep) rs (house_fields it.end (slice it.end (length t) t))) (sym less)
          ∙ sym (ap (overs_in (overs most_deep) rooms) split_table ∙ over_on (overs most_deep) rooms i it.tag (slice (i + 3) it.end t) (house_fields it.end (slice it.end (length t) t)) room_left y.1) ∙ o.within;
      order = (field_lies t i (length t) it o.order q).within;
    }
      where
        room_left : any_of (is_over it.tag) rooms ≡ false
        room_left = rw (is_counted, ne_eqb left 0 n)

        less : ◌≡◌ {A = List Room} (map (less_room it.tag) rooms) (room tag_scalar tag_roots (left - 1) ∷ [])
        less = rw (is_counted, pred_is left)
