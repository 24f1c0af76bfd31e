-- The first wrong offset of a field, one field more of a holder at a time.
use mathlib.Core.Path.{◌≡◌, refl, sym, ap, ◌∙◌}
use mathlib.Core.Bool.{Bool, true, false, not, ◌&&◌, ◌||◌, cond}
use Prim.{Unit, tt}
use mathlib.Core.Option.{Option, none, some}
use mathlib.Core.List.{List, [], ◌∷◌, head?}
use mathlib.Core.Logic.{inl, inr}
use Prim.Native.Nat.{ℕ, zero, suc, ◌+◌, ◌-◌, ◌≤◌, ◌<◌}
use native.Mathlib.Omega.{arith}
use native.Mathlib.Nat.{le_refl}
use lib.ListN.{length}
use lib.Seq.{slice, take-length}
use lib.Dec.{eqb, leb}
use borrow.Author.Tests.{eq-eqb, ne_eqb}
use types.Run.{OneOf}
use denote.Enum.Declared.{tag_of}
use Rattle.paper.proofs.Bools.{and_left, and_right}
use Rattle.paper_table.specs.Lists.{any_of, only_if}
use Rattle.paper_table.specs.References.{is_name, is_reference}
use Rattle.paper_table.specs.House.{HouseField, house_field, house_fields, Slot, content_of, in_place, open_after, tag_is, lacks_house_field, in_order, or_lacking, by_content, wrongs, most_deep, record_in_place, table_wrongs, framing_offset}
use Rattle.paper_table.proofs.ListsLaws.{head_nil}
use Rattle.paper_table.proofs.HolderLaws.{order_on, order_inside, order_out, order_cut, order_end, lacking_first, lacking_end, table_on, table_inside, table_out, table_cut, table_end}
use Rattle.paper_table.proofs.Rising.{framing_first}
use Rattle.std.specs.Prelude.{Some, None, Result, Ok, Err}
use Rattle.table_fields.specs.declared.Field.{Field}
use Rattle.table_fields.specs.Fields.{field_at}
use Rattle.table_fields.proofs.FieldLaws.{field_lies, pieces_read, pieces_torn, pieces_none}
use Rattle.table_framing.specs.declared.Holding.{Holding}
use Rattle.table_framing.specs.declared.Holding.TheVariants.{Name, Reference, Fields, Nothing}
use Rattle.table_framing.specs.Holders.{rank, least_after, placed, open_from, Holder, HoldsAs}
use Rattle.table_framing.specs.Framing.{told, is_leaf, roots_after}
use Rattle.table_framing.specs.contracts.Holding.{the_type}
use Rattle.table_framing.proofs.OpenLaws.{in_open, open_after_is, open_start}

-- A tag among fields, from each place on.
module _ (t : List ℕ) (i end tag : ℕ) (w : end ≤ length t) where
  pub seen_none : end ≤ i → false ≡ any_of (tag_is tag) (house_fields i (slice i end t))
  unfolding any_of
  seen_none h = rw (pieces_none t i end h w)

  pub seen_torn : i < end → field_at t i end ≡ None → false ≡ any_of (tag_is tag) (house_fields i (slice i end t))
  unfolding any_of
  seen_torn h q = rw (pieces_torn t i end w h q)

  module _ (h : i < end) (it : Field) (q : field_at t i end ≡ Some it) where
    pub seen_here : it.tag ≡ tag → true ≡ any_of (tag_is tag) (house_fields i (slice i end t))
    unfolding any_of
    seen_here e = rw (pieces_read t i end w h it q, eq-eqb it.tag tag e)

    pub seen_on : (it.tag ≡ tag → ⊥) → any_of (tag_is tag) (house_fields it.end (slice it.end end t)) ≡ any_of (tag_is tag) (house_fields i (slice i end t))
    unfolding any_of
    seen_on e = rw (pieces_read t i end w h it q, ne_eqb it.tag tag e)

-- What is told is what there is.
told_right : (o : Option ℕ) → told o ≡ Ok tt → o ≡ none
told_right none e = refl
told_right (some v) e = let z : Err v ≡ Ok tt = e in cc

told_wrong : (o : Option ℕ) (v : ℕ) → told o ≡ Err v → o ≡ some v
told_wrong none v e = let z : Ok tt ≡ Err v = e in cc
told_wrong (some u) v e = let z : Err u ≡ Err v = e in cc

-- no deeper
pub wrong_deep : (depth at tag : ℕ) (s : List ℕ) → depth ≡ 0 → Err at ≡ told (head? (wrongs depth at tag s))
unfolding wrongs
wrong_deep depth at tag s e = rw e

-- a field is wrong as its content is
deeper : (depth at tag : ℕ) (s : List ℕ) → (depth ≡ 0 → ⊥) → wrongs depth at tag s ≡ by_content (wrongs (depth - 1)) at s (content_of tag)
unfolding wrongs
deeper zero at tag s n = absurd (n refl)
deeper (suc d) at tag s n = let e : suc d - 1 ≡ d = omega arith in rw e

-- A content that is no fields.
only : (at : ℕ) (b : Bool) → told (head? (only_if (not b) at)) ≡ cond b (Ok tt) (Err at)
only at true = refl
only at false = refl

-- the keys of the code's other answers
abbrev Leaf : Holding → Type 0
Leaf h = OneOf (0 ∷ 1 ∷ 3 ∷ []) (tag_of the_type h)

leaf_by : (depth at tag : ℕ) (s : List ℕ) (h : Holding) → (depth ≡ 0 → ⊥) → HoldsAs tag h → Leaf h → told (head? (wrongs depth at tag s)) ≡ cond (is_leaf h s) (Ok tt) (Err at)
unfolding by_content
leaf_by depth at tag s Name n a l = rw (deeper depth at tag s n, a) (only at (is_name s))
leaf_by depth at tag s Reference n a l = rw (deeper depth at tag s n, a) (only at (is_reference s))
leaf_by depth at tag s (Fields first second from to) n a (inl e) = absurd (omega (arith, e))
leaf_by depth at tag s (Fields first second from to) n a (inr (inl e)) = absurd (omega (arith, e))
leaf_by depth at tag s (Fields first second from to) n a (inr (inr e)) = absurd (omega (arith, e))
leaf_by depth at tag s Nothing n a l = rw (deeper depth at tag s n, a)

pub leaf_is : (depth at tag : ℕ) (s : List ℕ) (h : Holding) (b r : Bool) → (depth ≡ 0 → ⊥) → HoldsAs tag h → Leaf h → r ≡ is_leaf h s → r ≡ b
    → cond b (Ok tt) (Err at) ≡ told (head? (wrongs depth at tag s))
leaf_is depth at tag s h b r n a l q e = sym (leaf_by depth at tag s h n a l ∙ ap (λ (x : Bool). cond x (Ok tt) (Err at)) (sym q ∙ e))

-- A holder up to the place i: what comes decides, among the slots from the least rank on.
pub record Ordered (t : List ℕ) (at tag end depth first second from to least i : ℕ) : Type 0 where
  pub holder : Holder tag first second from to
  pub rest : head? (in_order (wrongs (depth - 1)) (open_from least holder.slots) (house_fields i (slice i end t))) ≡
      head? (in_order (wrongs (depth - 1)) holder.slots (house_fields (at + 3) (slice (at + 3) end t)))
  pub begins : at + 3 ≤ i
  pub order : i ≤ end

pub ordered_start : (t : List ℕ) (at tag end depth first second from to : ℕ) → Holder tag first second from to → at + 3 ≤ end
    → Ordered t at tag end depth first second from to 0 (at + 3)
ordered_start t at tag end depth first second from to a h = record {
  holder = a;
  rest = ap (λ (ss : List Slot). head? (in_order (wrongs (depth - 1)) ss (house_fields (at + 3) (slice (at + 3) end t)))) (sym (open_start a.slots));
  begins = le_refl (at + 3);
  order = h;
}

module _ (t : List ℕ) (at tag end depth first second from to least i : ℕ) (w : end ≤ length t) (n : depth ≡ 0 → ⊥) (o : Ordered t at tag end depth first second from to least i) where
  -- all the fields of the holder, its slots; and those that are left
  abbrev all : List HouseField
  all = house_fields (at + 3) (slice (at + 3) end t)

  abbrev slots : List Slot
  slots = o.holder.slots

  abbrev open' : List Slot
  open' = open_from least slots

  whole : wrongs depth at tag (slice (at + 3) end t) ≡ or_lacking at (lacks_house_field slots all) (in_order (wrongs (depth - 1)) slots all)
  unfolding by_content
  whole = deeper depth at tag (slice (at + 3) end t) n ∙ rw o.holder.is

  shown : (v : ℕ) → head? (in_order (wrongs (depth - 1)) open' (house_fields i (slice i end t))) ≡ some v → told (head? (wrongs depth at tag (slice (at + 3) end t))) ≡ Err v
  shown v e = ap told (ap head? whole ∙ lacking_first at (lacks_house_field slots all) (in_order (wrongs (depth - 1)) slots all) v (sym o.rest ∙ e))

  pub ordered_torn : i < end → field_at t i end ≡ None → Err i ≡ told (head? (wrongs depth at tag (slice (at + 3) end t)))
  ordered_torn h q = sym (shown i (ap (λ (ps : List HouseField). head? (in_order (wrongs (depth - 1)) open' ps)) (pieces_torn t i end w h q) ∙ order_cut (wrongs (depth - 1)) open' i []))

  module _ (h : i < end) (it : Field) (q : field_at t i end ≡ Some it) (r : Bool) (p : r ≡ placed first from to least it.tag) where
    in_is : in_place it.tag open' ≡ r
    in_is = in_open least it.tag slots ∙ ap (λ (b : Bool). leb least (rank it.tag) && b) (o.holder.known it.tag) ∙ sym p

    split : in_order (wrongs (depth - 1)) open' (house_fields i (slice i end t)) ≡ in_order (wrongs (depth - 1)) open' (house_field i it.tag (slice it.start it.end t) ∷ house_fields it.end (slice it.end end t))
    split = ap (in_order (wrongs (depth - 1)) open') (pieces_read t i end w h it q)

    content : slice (i + 3) it.end t ≡ slice it.start it.end t
    content = let l = field_lies t i end it o.order q in rw l.begins

    pub ordered_out : r ≡ false → Err i ≡ told (head? (wrongs depth at tag (slice (at + 3) end t)))
    ordered_out f = sym (shown i (ap head? split ∙ order_out (wrongs (depth - 1)) open' i it.tag (slice it.start it.end t) (house_fields it.end (slice it.end end t)) (in_is ∙ f)))

    pub ordered_inside : r ≡ true → (x : Result (Unit {0}) ℕ) (v : ℕ) → x ≡ told (head? (wrongs (depth - 1) i it.tag (slice (i + 3) it.end t))) → x ≡ Err v
        → x ≡ told (head? (wrongs depth at tag (slice (at + 3) end t)))
    ordered_inside f x v g z =
        let y : head? (wrongs (depth - 1) i it.tag (slice it.start it.end t)) ≡ some v = rw content at (told_wrong (head? (wrongs (depth - 1) i it.tag (slice (i + 3) it.end t))) v (sym g ∙ z)) in
        z ∙ sym (shown v (ap head? split ∙ order_inside (wrongs (depth - 1)) open' i it.tag (slice it.start it.end t) (house_fields it.end (slice it.end end t)) v (in_is ∙ f) y))

    pub ordered_on : r ≡ true → (x : Result (Unit {0}) ℕ) → x ≡ told (head? (wrongs (depth - 1) i it.tag (slice (i + 3) it.end t))) → x ≡ Ok tt → (m : ℕ) → m ≡ least_after it.tag
        → Ordered t at tag end depth first second from to m it.end
    ordered_on f x g z m c =
        let y : wrongs (depth - 1) i it.tag (slice it.start it.end t) ≡ [] = head_nil (wrongs (depth - 1) i it.tag (slice it.start it.end t)) (rw content at (told_right (head? (wrongs (depth - 1) i it.tag (slice (i + 3) it.end t))) (sym g ∙ z))) in
        let u : leb least (rank it.tag) && (eqb it.tag first || leb from it.tag && leb it.tag to) ≡ true = sym p ∙ f in
        let v : open_after it.tag open' ≡ open_from m slots =
        open_after_is least 0 it.tag slots o.holder.rises (and_left (leb least (rank it.tag)) _ u) (o.holder.known it.tag ∙ and_right (leb least (rank it.tag)) _ u) ∙ ap (λ (b : ℕ). open_from b slots) (sym c) in
        let l = field_lies t i end it o.order q in
        record {
          holder = o.holder;
          rest =
              sym
              (ap head?
              (split ∙ order_on (wrongs (depth - 1)) open' i it.tag (slice it.start it.end t) (house_fields it.end (slice it.end end t)) (in_is ∙ f) y
              ∙ ap (λ (ss : List Slot). in_order (wrongs (depth - 1)) ss (house_fields it.end (slice it.end end t))) v))
              ∙ o.rest;
          begins = omega (arith, o.begins, l.begins, l.order);
          order = l.within;
        }

  ordered_lacks : end ≤ i → (x y : Bool) → x ≡ any_of (tag_is first) all → y ≡ any_of (tag_is second) all
      → cond (not x || not y) (Err at) (Ok tt) ≡ told (head? (wrongs depth at tag (slice (at + 3) end t)))
  ordered_lacks h x y f g =
      let none_left : head? (in_order (wrongs (depth - 1)) slots all) ≡ none =
      sym o.rest ∙ ap (λ (ps : List HouseField). head? (in_order (wrongs (depth - 1)) open' ps)) (pieces_none t i end h w) ∙ ap head? (order_end (wrongs (depth - 1)) open') in
      let lack : not x || not y ≡ lacks_house_field slots all = rw (f, g) (sym (o.holder.dues all)) in
      sym
      (ap told
      (ap head? (whole ∙ ap (or_lacking at (lacks_house_field slots all)) (head_nil (in_order (wrongs (depth - 1)) slots all) none_left)) ∙ lacking_end at (lacks_house_field slots all))
      ∙ ap (λ (b : Bool). told (cond b (some at) none)) (sym lack) ∙ by (not x || not y))
    where
      by : (b : Bool) → told (cond b (some at) none) ≡ cond b (Err at) (Ok tt)
      by true = refl
      by false = refl

  -- the end of the fields: one that is due is missing, or none is
  pub ordered_first : end ≤ i → (x : Bool) → x ≡ any_of (tag_is first) all → x ≡ false → Err at ≡ told (head? (wrongs depth at tag (slice (at + 3) end t)))
  ordered_first h x f e = ordered_lacks h false (any_of (tag_is second) all) (sym e ∙ f) refl

  pub ordered_second : end ≤ i → (x y : Bool) → x ≡ any_of (tag_is first) all → x ≡ true → y ≡ any_of (tag_is second) all → y ≡ false
      → Err at ≡ told (head? (wrongs depth at tag (slice (at + 3) end t)))
  ordered_second h x y f e g d = ordered_lacks h true false (sym e ∙ f) (sym d ∙ g)

  pub ordered_right : end ≤ i → (x y : Bool) → x ≡ any_of (tag_is first) all → x ≡ true → y ≡ any_of (tag_is second) all → y ≡ true
      → Ok tt ≡ told (head? (wrongs depth at tag (slice (at + 3) end t)))
  ordered_right h x y f e g d = ordered_lacks h true true (sym e ∙ f) (sym d ∙ g)

-- A table up to the place i.
pub record Framing (t : List ℕ) (roots : Bool) (i : ℕ) : Type 0 where
  pub rest : head? (table_wrongs roots (house_fields i (slice i (length t) t))) ≡ framing_offset t
  pub order : i ≤ length t

pub framing_start : (t : List ℕ) → Framing t true 0
framing_start t = record {
  rest = ap (λ (s : List ℕ). head? (table_wrongs true (house_fields 0 s))) (take-length t) ∙ sym (framing_first t);
  order = omega arith;
}

module _ (t : List ℕ) (roots : Bool) (i : ℕ) (o : Framing t roots i) where
  pub framing_end : length t ≤ i → Ok tt ≡ told (framing_offset t)
  framing_end h = ap told (sym (ap head? (table_end roots)) ∙ ap (λ (ps : List HouseField). head? (table_wrongs roots ps)) (sym (pieces_none t i (length t) h (le_refl (length t)))) ∙ o.rest)

  pub framing_torn : i < length t → field_at t i (length t) ≡ None → Err i ≡ told (framing_offset t)
  framing_torn h q = ap told (sym (table_cut roots i []) ∙ ap (λ (ps : List HouseField). head? (table_wrongs roots ps)) (sym (pieces_torn t i (length t) (le_refl (length t)) h q)) ∙ o.rest)

  module _ (h : i < length t) (it : Field) (q : field_at t i (length t) ≡ Some it) (r : Bool) (p : r ≡ record_in_place roots it.tag) where
    split_table : table_wrongs roots (house_fields i (slice i (length t) t)) ≡ table_wrongs roots (house_field i it.tag (slice it.start it.end t) ∷ house_fields it.end (slice it.end (length t) t))
    split_table = ap (table_wrongs roots) (pieces_read t i (length t) (le_refl (length t)) h it q)

    content_table : slice (i + 3) it.end t ≡ slice it.start it.end t
    content_table = let l = field_lies t i (length t) it o.order q in rw l.begins

    pub framing_out : r ≡ false → Err i ≡ told (framing_offset t)
    framing_out f = ap told (sym (table_out roots i it.tag (slice it.start it.end t) (house_fields it.end (slice it.end (length t) t)) (sym p ∙ f)) ∙ sym (ap head? split_table) ∙ o.rest)

    pub framing_inside : r ≡ true → (x : Result (Unit {0}) ℕ) (v : ℕ) → x ≡ told (head? (wrongs most_deep i it.tag (slice (i + 3) it.end t))) → x ≡ Err v → x ≡ told (framing_offset t)
    framing_inside f x v g z =
        let y : head? (wrongs most_deep i it.tag (slice it.start it.end t)) ≡ some v = rw content_table at (told_wrong (head? (wrongs most_deep i it.tag (slice (i + 3) it.end t))) v (sym g ∙ z)) in
        z ∙ ap told (sym (table_inside roots i it.tag (slice it.start it.end t) (house_fields it.end (slice it.end (length t) t)) v (sym p ∙ f) y) ∙ sym (ap head? split_table) ∙ o.rest)

    pub framing_on : r ≡ true → (x : Result (Unit {0}) ℕ) → x ≡ told (head? (wrongs most_deep i it.tag (slice (i + 3) it.end t))) → x ≡ Ok tt → (b : Bool) → b ≡ roots_after roots it.tag → Framing t b it.end
    framing_on f x g z b c =
        let y : wrongs most_deep i it.tag (slice it.start it.end t) ≡ [] = head_nil (wrongs most_deep i it.tag (slice it.start it.end t)) (rw content_table at (told_right (head? (wrongs most_deep i it.tag (slice (i + 3) it.end t))) (sym g ∙ z))) in
        let l = field_lies t i (length t) it o.order q in
        record {
          rest =
              ap (λ (d : Bool). head? (table_wrongs d (house_fields it.end (slice it.end (length t) t)))) c
              ∙ sym (ap head? (split_table ∙ table_on roots i it.tag (slice it.start it.end t) (house_fields it.end (slice it.end (length t) t)) (sym p ∙ f) y)) ∙ o.rest;
          order = l.within;
        }
