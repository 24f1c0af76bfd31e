-- The first offset over a size, one field more at a time.
use mathlib.Core.Path.{◌≡◌, refl, sym, ap, ◌∙◌}
use mathlib.Core.Bool.{Bool, true, false, ◌&&◌, ◌||◌, cond}
use mathlib.Core.Option.{some}
use mathlib.Core.List.{List, [], ◌∷◌, map, head?}
use mathlib.Core.Logic.{inl, inr}
use Prim.Native.Nat.{ℕ, zero, suc, ◌+◌, ◌-◌, ◌%◌, ◌/◌, ◌≤◌, ◌<◌, pred}
use native.Mathlib.Omega.{arith}
use native.Mathlib.Nat.{le_refl}
use lib.ListN.{length}
use lib.Seq.{slice, take-length}
use lib.Dec.{ltb, eqb}
use borrow.Author.Tests.{eq-eqb, ne_eqb, lt-ltb, le-ltb, eqb-true}
use types.Run.{OneOf}
use denote.Enum.Declared.{tag_of}
use Rattle.paper_table.specs.TableNumbers.{most_implemented, most_records, tag_scalar, tag_roots, tag_name}
use Rattle.paper_table.specs.Lists.{any_of}
use Rattle.paper_table.specs.House.{house_field, house_fields, look_up, contents, content_of, most_deep}
use Rattle.paper_table.specs.TableSizes.{Room, room, is_over, less_room, room_in_table, overs_in, overs_by, overs, counts_offset}
use Rattle.paper_table.proofs.ListsLaws.{head_nil}
use Rattle.paper_table.proofs.HolderLaws.{over_on, over_here, over_inside}
use Rattle.paper_table.proofs.Rising.{counts_first}
use Rattle.std.specs.Prelude.{Some, None, Result, Ok, Err}
use Rattle.table_fields.specs.declared.Field.{Field}
use Rattle.table_fields.specs.Fields.{field_at}
use Rattle.table_fields.proofs.FieldLaws.{field_lies, pieces_read, pieces_torn, pieces_none}
use Rattle.table_framing.specs.declared.Holding.{Holding}
use Rattle.table_framing.specs.declared.Holding.TheVariants.{Name, Reference, Fields, Nothing}
use Rattle.table_framing.specs.Holders.{Holder, HoldsAs}
use Rattle.table_framing.specs.contracts.Holding.{the_type}
use Prim.{Unit, tt}
use Rattle.table_rooms.specs.Rooms.{told_over, between, room_for, rest_room, rooms_of}
use Rattle.table_rooms.proofs.RoomLaws.{told_within, told_over_is, pred_is, under_one, under_none, less_none, or_true, or_false, room_over, room_less, room_start}
use Rattle.table_sizes.specs.Counts.{leaf_overs, record_by}

-- no deeper
pub over_deep : (depth at tag : ℕ) (s : List ℕ) → depth ≡ 0 → Ok tt ≡ told_over (head? (overs depth at tag s))
unfolding overs
over_deep depth at tag s e = rw e

deeper : (depth at tag : ℕ) (s : List ℕ) → (depth ≡ 0 → ⊥) → overs depth at tag s ≡ overs_by (overs (depth - 1)) at tag s (content_of tag)
unfolding overs
deeper zero at tag s n = absurd (n refl)
deeper (suc d) at tag s n = let e : suc d - 1 ≡ d = omega arith in rw e

-- a name, or no deeper
module _ (depth tag : ℕ) {r : Bool} (e : r ≡ eqb tag tag_name || eqb depth 0) where
  pub over_plain : (at : ℕ) (s : List ℕ) → r ≡ true → Ok tt ≡ told_over (head? (overs depth at tag s))
  unfolding overs overs_by look_up contents
  over_plain at s p = go (eqb tag tag_name) refl depth refl
    where
      go : (b : Bool) → eqb tag tag_name ≡ b → (n : ℕ) → depth ≡ n → Ok tt ≡ told_over (head? (overs depth at tag s))
      go b q zero z = over_deep depth at tag s z
      go true q (suc n) z = rw (z, eqb-true tag tag_name q)
      go false q (suc n) z =
          let y : false ≡ true = sym (e ∙ rw (q, z, ne_eqb (suc n) 0 (λ w. omega (arith, w)))) ∙ p in
          let x : ◌≡◌ {A = ℕ} 0 1 = cc in
          absurd (omega (arith, x))

  pub not_plain : r ≡ false → depth ≡ 0 → ⊥
  not_plain p z =
      let y : true ≡ false = sym (go (eqb tag tag_name)) ∙ rw (eq-eqb depth 0 z) at (sym e) ∙ p in
      let x : ◌≡◌ {A = ℕ} 0 1 = cc in
      absurd (omega (arith, x))
    where
      go : (b : Bool) → b || true ≡ true
      go true = refl
      go false = refl

-- a content that is no fields, by the keys of the code's other answers
pub leaf_over : (depth at tag : ℕ) (s : List ℕ) (h : Holding) → (depth ≡ 0 → ⊥) → HoldsAs tag h → OneOf (0 ∷ 1 ∷ 3 ∷ []) (tag_of the_type h)
    → leaf_overs h (at + 3) s ≡ overs depth at tag s
unfolding overs_by
leaf_over depth at tag s Name n a l = rw (deeper depth at tag s n, a)
leaf_over depth at tag s Reference n a l = rw (deeper depth at tag s n, a)
leaf_over depth at tag s (Fields first second from to) n a (inl e) = absurd (omega (arith, e))
leaf_over depth at tag s (Fields first second from to) n a (inr (inl e)) = absurd (omega (arith, e))
leaf_over depth at tag s (Fields first second from to) n a (inr (inr e)) = absurd (omega (arith, e))
leaf_over depth at tag s Nothing n a l = rw (deeper depth at tag s n, a)

-- A holder up to the place i, so many names and others left.
pub record Counting (t : List ℕ) (at tag end depth names others i : ℕ) : Type 0 where
  pub rest : head? (overs_in (overs (depth - 1)) (rooms_of tag names others) (house_fields i (slice i end t))) ≡ head? (overs depth at tag (slice (at + 3) end t))
  pub begins : at + 3 ≤ i
  pub order : i ≤ end

pub counting_start : (t : List ℕ) (at tag end depth first second from to others : ℕ) → (depth ≡ 0 → ⊥) → Holder tag first second from to → others ≡ rest_room tag → at + 3 ≤ end
    → Counting t at tag end depth most_implemented others (at + 3)
unfolding overs_by
counting_start t at tag end depth first second from to others n a q h = record {
  rest = rw (q, room_start tag, deeper depth at tag (slice (at + 3) end t) n, a.is);
  begins = le_refl (at + 3);
  order = h;
}

module _ (t : List ℕ) (at tag end depth names others i : ℕ) (w : end ≤ length t) (o : Counting t at tag end depth names others i) where
  pub counting_end : end ≤ i → Ok tt ≡ told_over (head? (overs depth at tag (slice (at + 3) end t)))
  unfolding overs_in
  counting_end h = ap told_over (rw (pieces_none t i end h w) at o.rest)

  pub counting_torn : i < end → field_at t i end ≡ None → Ok tt ≡ told_over (head? (overs depth at tag (slice (at + 3) end t)))
  unfolding overs_in
  counting_torn h q = ap told_over (rw (pieces_torn t i end w h q) at o.rest)

  module _ (h : i < end) (it : Field) (q : field_at t i end ≡ Some it) (n : ℕ) (p : n ≡ room_for tag it.tag) where
    split : overs_in (overs (depth - 1)) (rooms_of tag names others) (house_fields i (slice i end t)) ≡
        overs_in (overs (depth - 1)) (rooms_of tag names others) (house_field i it.tag (slice it.start it.end t) ∷ house_fields it.end (slice it.end end t))
    split = ap (overs_in (overs (depth - 1)) (rooms_of tag names others)) (pieces_read t i end w h it q)

    content : slice (i + 3) it.end t ≡ slice it.start it.end t
    content = let l = field_lies t i end it o.order q in rw l.begins

    full : (b : Bool) → ltb names (n % 2) || ltb others (n / 2) ≡ b → any_of (is_over it.tag) (rooms_of tag names others) ≡ b
    full b f = room_over names others it.tag tag n p ∙ f

    here : ltb names (n % 2) || ltb others (n / 2) ≡ true → Err i ≡ told_over (head? (overs depth at tag (slice (at + 3) end t)))
    here f = ap told_over (sym (over_here (overs (depth - 1)) (rooms_of tag names others) i it.tag (slice it.start it.end t) (house_fields it.end (slice it.end end t)) (full true f)) ∙ sym (ap head? split) ∙ o.rest)

    pub counting_names : names < n % 2 → Err i ≡ told_over (head? (overs depth at tag (slice (at + 3) end t)))
    counting_names l = here (rw (lt-ltb names (n % 2) l))

    pub counting_others : others < n / 2 → Err i ≡ told_over (head? (overs depth at tag (slice (at + 3) end t)))
    counting_others l = here (rw (lt-ltb others (n / 2) l) (or_true (ltb names (n % 2))))

    module _ (l : n % 2 ≤ names) (m : n / 2 ≤ others) where
      left : any_of (is_over it.tag) (rooms_of tag names others) ≡ false
      left = full false (rw (le-ltb names (n % 2) l, le-ltb others (n / 2) m))

      pub counting_inside : (x : Result (Unit {0}) ℕ) (v : ℕ) → x ≡ told_over (head? (overs (depth - 1) i it.tag (slice (i + 3) it.end t))) → x ≡ Err v
          → x ≡ told_over (head? (overs depth at tag (slice (at + 3) end t)))
      counting_inside x v g z =
          let y : head? (overs (depth - 1) i it.tag (slice it.start it.end t)) ≡ some v = rw content at (told_over_is (head? (overs (depth - 1) i it.tag (slice (i + 3) it.end t))) v (sym g ∙ z)) in
          z ∙ ap told_over (sym (over_inside (overs (depth - 1)) (rooms_of tag names others) i it.tag (slice it.start it.end t) (house_fields it.end (slice it.end end t)) v left y) ∙ sym (ap head? split) ∙ o.rest)

      pub counting_on : (x : Result (Unit {0}) ℕ) → x ≡ told_over (head? (overs (depth - 1) i it.tag (slice (i + 3) it.end t))) → x ≡ Ok tt
          → Counting t at tag end depth (names - n % 2) (others - n / 2) it.end
      counting_on x g z =
          let y : overs (depth - 1) i it.tag (slice it.start it.end t) ≡ [] = head_nil (overs (depth - 1) i it.tag (slice it.start it.end t)) (rw content at (told_within (head? (overs (depth - 1) i it.tag (slice (i + 3) it.end t))) (sym g ∙ z))) in
          let f = field_lies t i end it o.order q in
          record {
            rest =
                ap (λ (rs : List Room). head? (overs_in (overs (depth - 1)) rs (house_fields it.end (slice it.end end t)))) (sym (room_less names others it.tag tag n p))
                ∙ sym (ap head? (split ∙ over_on (overs (depth - 1)) (rooms_of tag names others) i it.tag (slice it.start it.end t) (house_fields it.end (slice it.end end t)) left y)) ∙ o.rest;
            begins = omega (arith, o.begins, f.begins, f.order);
            order = f.within;
          }

-- A table up to the place i, so many records left.
pub record Recording (t : List ℕ) (left i : ℕ) : Type 0 where
  pub rest : head? (overs_in (overs most_deep) (room tag_scalar tag_roots left ∷ []) (house_fields i (slice i (length t) t))) ≡ counts_offset t
  pub order : i ≤ length t

pub recording_start : (t : List ℕ) → Recording t most_records 0
recording_start t = record {
  rest = ap (λ (s : List ℕ). head? (overs_in (overs most_deep) room_in_table (house_fields 0 s))) (take-length t) ∙ sym (counts_first t);
  order = omega arith;
}

module _ (t : List ℕ) (left i : ℕ) (o : Recording t left i) where
  pub recording_end : length t ≤ i → Ok tt ≡ told_over (counts_offset t)
  unfolding overs_in
  recording_end h = ap told_over (rw (pieces_none t i (length t) h (le_refl (length t))) at o.rest)

  pub recording_torn : i < length t → field_at t i (length t) ≡ None → Ok tt ≡ told_over (counts_offset t)
  unfolding overs_in
  recording_torn h q = ap told_over (rw (pieces_torn t i (length t) (le_refl (length t)) h q) at o.rest)

  module _ (h : i < length t) (it : Field) (q : field_at t i (length t) ≡ Some it) (n : ℕ) (p : n ≡ record_by it.tag) where
    abbrev rooms : List Room
    rooms = room tag_scalar tag_roots left ∷ []

    split_table : overs_in (overs most_deep) rooms (house_fields i (slice i (length t) t)) ≡ overs_in (overs most_deep) rooms (house_field i it.tag (slice it.start it.end t) ∷ house_fields it.end (slice it.end (length t) t))
    split_table = ap (overs_in (overs most_deep) rooms) (pieces_read t i (length t) (le_refl (length t)) h it q)

    content_table : slice (i + 3) it.end t ≡ slice it.start it.end t
    content_table = let l = field_lies t i (length t) it o.order q in rw l.begins

    full_table : (b : Bool) → ltb left n ≡ b → any_of (is_over it.tag) rooms ≡ b
    unfolding any_of
    full_table b f = go (between tag_scalar tag_roots it.tag) ∙ rw (← p) f
      where
        go : (x : Bool) → x && eqb left 0 || false ≡ ltb left (cond x 1 0)
        go true = or_false (eqb left 0) ∙ sym (under_one left)
        go false = sym (under_none left)

    less_table : ◌≡◌ {A = List Room} (map (less_room it.tag) rooms) (room tag_scalar tag_roots (left - n) ∷ [])
    less_table = rw p (go (between tag_scalar tag_roots it.tag))
      where
        go : (x : Bool) → ◌≡◌ {A = List Room} (room tag_scalar tag_roots (cond x (pred left) left) ∷ []) (room tag_scalar tag_roots (left - cond x 1 0) ∷ [])
        go true = rw (pred_is left)
        go false = rw (less_none left)

    pub recording_over : left < n → Err i ≡ told_over (counts_offset t)
    recording_over l = ap told_over (sym (over_here (overs most_deep) rooms i it.tag (slice it.start it.end t) (house_fields it.end (slice it.end (length t) t)) (full_table true (lt-ltb left n l))) ∙ sym (ap head? split_table) ∙ o.rest)

    module _ (l : n ≤ left) where
      pub recording_inside : (x : Result (Unit {0}) ℕ) (v : ℕ) → x ≡ told_over (head? (overs most_deep i it.tag (slice (i + 3) it.end t))) → x ≡ Err v → x ≡ told_over (counts_offset t)
      recording_inside x v g z =
          let y : head? (overs most_deep i it.tag (slice it.start it.end t)) ≡ some v = rw content_table at (told_over_is (head? (overs most_deep i it.tag (slice (i + 3) it.end t))) v (sym g ∙ z)) in
          z ∙ ap told_over (sym (over_inside (overs most_deep) rooms i it.tag (slice it.start it.end t) (house_fields it.end (slice it.end (length t) t)) v (full_table false (le-ltb left n l)) y) ∙ sym (ap head? split_table) ∙ o.rest)

      pub recording_on : (x : Result (Unit {0}) ℕ) → x ≡ told_over (head? (overs most_deep i it.tag (slice (i + 3) it.end t))) → x ≡ Ok tt → Recording t (left - n) it.end
      recording_on x g z =
          let y : overs most_deep i it.tag (slice it.start it.end t) ≡ [] = head_nil (overs most_deep i it.tag (slice it.start it.end t)) (rw content_table at (told_within (head? (overs most_deep i it.tag (slice (i + 3) it.end t))) (sym g ∙ z))) in
          let f = field_lies t i (length t) it o.order q in
          record {
            rest =
                ap (λ (rs : List Room). head? (overs_in (overs most_deep) rs (house_fields it.end (slice it.end (length t) t)))) (sym less_table)
                ∙ sym (ap head? (split_table ∙ over_on (overs most_deep) rooms i it.tag (slice it.start it.end t) (house_fields it.end (slice it.end (length t) t)) (full_table false (le-ltb left n l)) y)) ∙ o.rest;
            order = f.within;
          }
