-- The room left, one wrapper or one field more at a time.
use mathlib.Core.Path.{◌≡◌, refl, sym, ap, ◌∙◌}
use mathlib.Core.Bool.{Bool, true, false, ◌&&◌, ◌||◌, cond}
use mathlib.Core.Option.{Option, none, some}
use mathlib.Core.List.{List, [], ◌∷◌, ◌++◌, map, head?}
use Prim.Native.Nat.{ℕ, zero, suc, ◌+◌, ◌-◌, ◌%◌, ◌/◌, ◌≤◌, ◌<◌, pred}
use native.Mathlib.Omega.{arith}
use native.Mathlib.Nat.{le_refl}
use lib.ListN.{length, get_or}
use lib.Seq.{slice}
use lib.Dec.{leb, ltb, eqb}
use borrow.Author.Tests.{eq-eqb, ne_eqb, lt-ltb, le-ltb, eqb-true, eqb-false, leb-true, lt-leb}
use Rattle.paper.specs.Numbers.{most_wrappers}
use Rattle.paper_table.specs.TableNumbers.{most_implemented, most_members, most_arguments, tag_roots, tag_implements, tag_field, tag_argument, tag_subscription_root}
use Rattle.paper_table.specs.Lists.{any_of, only_if}
use Rattle.paper_table.specs.TableSizes.{Room, room, is_over, less_room, room_in, is_wrapper, wrappers_over}
use Rattle.table_fields.proofs.FieldLaws.{slice_none, slice_next}
use Rattle.std.specs.Prelude.{Ok, Err}
use Prim.{tt}
use Rattle.table_rooms.specs.Rooms.{told_over, wraps_by, between, room_for, rest_room, rooms_of}

-- What is told is what there is.
pub told_within : (o : Option ℕ) → told_over o ≡ Ok tt → o ≡ none
told_within none e = refl
told_within (some v) e = let z : Err v ≡ Ok tt = e in cc

pub told_over_is : (o : Option ℕ) (v : ℕ) → told_over o ≡ Err v → o ≡ some v
told_over_is none v e = let z : Ok tt ≡ Err v = e in cc
told_over_is (some u) v e = let z : Err u ≡ Err v = e in cc

pub pred_is : (n : ℕ) → pred n ≡ n - 1
pred_is zero = refl
pred_is (suc n) = let e : suc n - 1 ≡ n = omega arith in sym e

-- A reference's text up to the place i, so many wrappers left.
pub record Wrapping (t : List ℕ) (start end left i : ℕ) : Type 0 where
  pub rest : head? (wrappers_over left i (slice i end t)) ≡ head? (wrappers_over most_wrappers start (slice start end t))
  pub begins : start ≤ i
  pub order : i ≤ end

pub wrapping_start : (t : List ℕ) (start end : ℕ) → start ≤ end → Wrapping t start end most_wrappers start
wrapping_start t start end h = record { rest = refl; begins = le_refl start; order = h }

module _ (t : List ℕ) (start end left i : ℕ) (w : end ≤ length t) (o : Wrapping t start end left i) where
  pub wrapping_end : end ≤ i → Ok tt ≡ told_over (head? (wrappers_over most_wrappers start (slice start end t)))
  unfolding wrappers_over
  wrapping_end h = ap told_over (rw (slice_none t i end h w) at o.rest)

  module _ (h : i < end) (n : ℕ) (q : n ≡ wraps_by (get_or t i 0)) where
    step : (x : Bool) → is_wrapper (get_or t i 0) ≡ x → wrappers_over left i (slice i end t) ≡ only_if (x && eqb left 0) i ++ wrappers_over (cond x (pred left) left) (i + 1) (slice (i + 1) end t)
    unfolding wrappers_over
    step x e = rw (slice_next t i end h w, e)

    pub wrapping_over : left < n → Err i ≡ told_over (head? (wrappers_over most_wrappers start (slice start end t)))
    wrapping_over l = go (is_wrapper (get_or t i 0)) refl
      where
        go : (x : Bool) → is_wrapper (get_or t i 0) ≡ x → Err i ≡ told_over (head? (wrappers_over most_wrappers start (slice start end t)))
        go true e = let m : n ≡ 1 = rw e at q in ap told_over (rw (eq-eqb left 0 (omega arith)) at (sym (ap head? (step true e)) ∙ o.rest))
        go false e = let m : n ≡ 0 = rw e at q in absurd (omega arith)

    pub wrapping_on : n ≤ left → Wrapping t start end (left - n) (i + 1)
    wrapping_on l = record { rest = go (is_wrapper (get_or t i 0)) refl; begins = omega (arith, o.begins); order = omega arith }
      where
        go : (x : Bool) → is_wrapper (get_or t i 0) ≡ x → head? (wrappers_over (left - n) (i + 1) (slice (i + 1) end t)) ≡ head? (wrappers_over most_wrappers start (slice start end t))
        go true e =
            let m : n ≡ 1 = rw e at q in
            let z : left - n ≡ pred left = rw m (sym (pred_is left)) in
            rw z (rw (ne_eqb left 0 (λ f. omega arith)) at (sym (ap head? (step true e)) ∙ o.rest))
        go false e =
            let m : n ≡ 0 = rw e at q in
            let z : left - n ≡ left = omega arith in
            rw z (sym (ap head? (step false e)) ∙ o.rest)

-- Fewer than one are none, and none are fewer than none.
pub under_one : (n : ℕ) → ltb n 1 ≡ eqb n 0
under_one n = go (eqb n 0) refl
  where
    go : (x : Bool) → eqb n 0 ≡ x → ltb n 1 ≡ x
    go true e = let h = eqb-true n 0 e in lt-ltb n 1 (omega arith)
    go false e = let h = eqb-false n 0 e in le-ltb n 1 (omega arith)

pub under_none : (n : ℕ) → ltb n 0 ≡ false
under_none n = le-ltb n 0 (omega arith)

pub less_none : (n : ℕ) → n - 0 ≡ n
less_none n = omega arith

pub or_true : (b : Bool) → b || true ≡ true
or_true true = refl
or_true false = refl

pub or_false : (b : Bool) → b || false ≡ b
or_false true = refl
or_false false = refl

-- a name that a record implements is none of its members
apart : (k : ℕ) → between tag_implements tag_implements k ≡ true → between tag_field tag_subscription_root k ≡ false
apart k e = go (leb tag_implements k) refl (leb k tag_implements) refl e
  where
    go : (x : Bool) → leb tag_implements k ≡ x → (y : Bool) → leb k tag_implements ≡ y → x && y ≡ true → between tag_field tag_subscription_root k ≡ false
    go true p true q f = rw (lt-leb tag_field k (let h = leb-true k tag_implements q in omega arith))
    go true p false q f = let z : false ≡ true = f in cc
    go false p y q f = let z : false ≡ true = f in cc

-- the rooms of a holder, by which of its counts a field is of
module _ (names rest k : ℕ) where
  record_over : (x y : Bool) → (x ≡ true → y ≡ false)
      → x && eqb names 0 || (y && eqb rest 0 || false) ≡ ltb names (cond x 1 (cond y 2 0) % 2) || ltb rest (cond x 1 (cond y 2 0) / 2)
  record_over true true f = let z : true ≡ false = f refl in cc
  record_over true false f = rw (under_one names, under_none rest)
  record_over false true f = rw (under_none names, under_one rest) (or_false (eqb rest 0))
  record_over false false f = rw (under_none names, under_none rest)

  field_over : (x : Bool) → x && eqb rest 0 || false ≡ ltb names (cond x 2 0 % 2) || ltb rest (cond x 2 0 / 2)
  field_over true = rw (under_none names, under_one rest) (or_false (eqb rest 0))
  field_over false = rw (under_none names, under_none rest)

  pub room_over : (holder n : ℕ) → n ≡ room_for holder k → any_of (is_over k) (rooms_of holder names rest) ≡ ltb names (n % 2) || ltb rest (n / 2)
  unfolding any_of
  room_over holder n q = rw q (go (leb holder tag_roots) (eqb holder tag_field))
    where
      go : (x y : Bool)
          → any_of (is_over k) (cond x (room tag_implements tag_implements names ∷ room tag_field tag_subscription_root rest ∷ []) (cond y (room tag_argument tag_argument rest ∷ []) [])) ≡
          ltb names (cond x (cond (between tag_implements tag_implements k) 1 (cond (between tag_field tag_subscription_root k) 2 0)) (cond y (cond (between tag_argument tag_argument k) 2 0) 0) % 2) ||
          ltb rest (cond x (cond (between tag_implements tag_implements k) 1 (cond (between tag_field tag_subscription_root k) 2 0)) (cond y (cond (between tag_argument tag_argument k) 2 0) 0) / 2)
      go true y = record_over (between tag_implements tag_implements k) (between tag_field tag_subscription_root k) (λ e. apart k e)
      go false true = field_over (between tag_argument tag_argument k)
      go false false = rw (under_none names, under_none rest)

  record_less : (x y : Bool) → (x ≡ true → y ≡ false)
      → ◌≡◌ {A = List Room} (room tag_implements tag_implements (cond x (pred names) names) ∷ room tag_field tag_subscription_root (cond y (pred rest) rest) ∷ [])
      (room tag_implements tag_implements (names - cond x 1 (cond y 2 0) % 2) ∷ room tag_field tag_subscription_root (rest - cond x 1 (cond y 2 0) / 2) ∷ [])
  record_less true true f = let z : true ≡ false = f refl in cc
  record_less true false f = rw (pred_is names, less_none rest)
  record_less false true f = rw (less_none names, pred_is rest)
  record_less false false f = rw (less_none names, less_none rest)

  field_less : (x : Bool) → ◌≡◌ {A = List Room} (room tag_argument tag_argument (cond x (pred rest) rest) ∷ []) (room tag_argument tag_argument (rest - cond x 2 0 / 2) ∷ [])
  field_less true = rw (pred_is rest)
  field_less false = rw (less_none rest)

  pub room_less : (holder n : ℕ) → n ≡ room_for holder k → map (less_room k) (rooms_of holder names rest) ≡ rooms_of holder (names - n % 2) (rest - n / 2)
  room_less holder n q = rw q (go (leb holder tag_roots) (eqb holder tag_field))
    where
      go : (x y : Bool)
          → map (less_room k) (cond x (room tag_implements tag_implements names ∷ room tag_field tag_subscription_root rest ∷ []) (cond y (room tag_argument tag_argument rest ∷ []) [])) ≡
          cond x
          (room tag_implements tag_implements (names - (cond x (cond (between tag_implements tag_implements k) 1 (cond (between tag_field tag_subscription_root k) 2 0)) (cond y (cond (between tag_argument tag_argument k) 2 0) 0) % 2)) ∷
          room tag_field tag_subscription_root (rest - (cond x (cond (between tag_implements tag_implements k) 1 (cond (between tag_field tag_subscription_root k) 2 0)) (cond y (cond (between tag_argument tag_argument k) 2 0) 0) / 2)) ∷ [])
          (cond y (room tag_argument tag_argument (rest - (cond x (cond (between tag_implements tag_implements k) 1 (cond (between tag_field tag_subscription_root k) 2 0)) (cond y (cond (between tag_argument tag_argument k) 2 0) 0) / 2)) ∷ []) [])
      go true y = record_less (between tag_implements tag_implements k) (between tag_field tag_subscription_root k) (λ e. apart k e)
      go false true = field_less (between tag_argument tag_argument k)
      go false false = refl

pub room_start : (tag : ℕ) → rooms_of tag most_implemented (rest_room tag) ≡ room_in tag
unfolding room_in
room_start tag = go (leb tag tag_roots) (eqb tag tag_field)
  where
    go : (x y : Bool)
        → cond x (room tag_implements tag_implements most_implemented ∷ room tag_field tag_subscription_root (cond x most_members most_arguments) ∷ [])
        (cond y (room tag_argument tag_argument (cond x most_members most_arguments) ∷ []) []) ≡
        cond x (room tag_implements tag_implements most_implemented ∷ room tag_field tag_subscription_root most_members ∷ []) (cond y (room tag_argument tag_argument most_arguments ∷ []) [])
    go true y = refl
    go false true = refl
    go false false = refl
