-- A holder is right exactly where its fields fill its slots one after the other: what `in_order` and `lacks_house_field` say together.
use mathlib.Core.Path.{◌≡◌, refl, sym, ap, subst, ◌∙◌}
use mathlib.Core.Bool.{Bool, true, false, not, ◌&&◌, ◌||◌, cond, true≢false, false≢true}
use mathlib.Core.List.{List, [], ◌∷◌, ◌++◌, cons≢nil}
use Prim.Native.Nat.{ℕ}
use lib.Dec.{eqb}
use borrow.Author.Tests.{eqb-true, eq-eqb}
use Rattle.paper_table.specs.Lists.{any_of}
use Rattle.paper_table.specs.House.{HouseField, house_field, cut, Slot, one, at_most_one, many, is_for, in_place, open_after, tag_is, lacks_house_field, Offsets, in_order}

-- the fields of a holder fill its slots, and nothing is wrong in any of them
pub data Filled (inner : Offsets) : List Slot → List HouseField → Type 0 where
  filled : Filled inner [] []
  the_one : {at k : ℕ} {s : List ℕ} {ss : List Slot} {ps : List HouseField} → inner at k s ≡ [] → Filled inner ss ps → Filled inner (one k ∷ ss) (house_field at k s ∷ ps)
  not_there : {k : ℕ} {ss : List Slot} {ps : List HouseField} → Filled inner ss ps → Filled inner (at_most_one k ∷ ss) ps
  once : {at k : ℕ} {s : List ℕ} {ss : List Slot} {ps : List HouseField} → inner at k s ≡ [] → Filled inner ss ps → Filled inner (at_most_one k ∷ ss) (house_field at k s ∷ ps)
  no_more : {k : ℕ} {ss : List Slot} {ps : List HouseField} → Filled inner ss ps → Filled inner (many k ∷ ss) ps
  once_more : {at k : ℕ} {s : List ℕ} {ss : List Slot} {ps : List HouseField} → inner at k s ≡ [] → Filled inner (many k ∷ ss) ps → Filled inner (many k ∷ ss) (house_field at k s ∷ ps)

abbrev pub slot_tag : Slot → ℕ
slot_tag (one k) = k
slot_tag (at_most_one k) = k
slot_tag (many k) = k

-- no two slots are for one tag
abbrev pub distinct : List Slot → Bool
distinct [] = true
distinct (x ∷ ss) = not (in_place (slot_tag x) ss) && distinct ss

pub append_inv : {A : Type 0} (xs ys : List A) → xs ++ ys ≡ [] → (xs ≡ []) × (ys ≡ [])
append_inv [] ys e = (refl, e)
append_inv (x ∷ xs) ys e = absurd (cons≢nil e)

or_inv : (a b : Bool) → a || b ≡ false → (a ≡ false) × (b ≡ false)
or_inv true b e = absurd (true≢false e)
or_inv false b e = (refl, e)

pub and_inv : (a b : Bool) → a && b ≡ true → (a ≡ true) × (b ≡ true)
and_inv true b e = (refl, e)
and_inv false b e = absurd (false≢true e)

not_inv : (a : Bool) → not a ≡ true → a ≡ false
not_inv true e = absurd (false≢true e)
not_inv false e = refl

not_false : (a : Bool) → not a ≡ false → a ≡ true
not_false true e = refl
not_false false e = absurd (true≢false e)

-- a first field that is right: in place, nothing wrong in it, and on with the slots open behind it
record Right (inner : Offsets) (ss : List Slot) (at t : ℕ) (s : List ℕ) (ps : List HouseField) : Type 0 where
  placed : in_place t ss ≡ true
  whole : inner at t s ≡ []
  rest : in_order inner (open_after t ss) ps ≡ []

order_inv : (inner : Offsets) (ss : List Slot) (at t : ℕ) (s : List ℕ) (ps : List HouseField) → in_order inner ss (house_field at t s ∷ ps) ≡ [] → Right inner ss at t s ps
unfolding in_order
order_inv inner ss at t s ps e = go (in_place t ss) refl e
  where
    go : (b : Bool) → in_place t ss ≡ b → cond b (inner at t s) (at ∷ []) ++ in_order inner (cond b (open_after t ss) ss) ps ≡ [] → Right inner ss at t s ps
    go true q e = let z = append_inv (inner at t s) _ e in record { placed = q; whole = z.0; rest = z.1 }
    go false q e = absurd (cons≢nil e)

order_right : (inner : Offsets) (ss : List Slot) (at t : ℕ) (s : List ℕ) (ps : List HouseField) → Right inner ss at t s ps → in_order inner ss (house_field at t s ∷ ps) ≡ []
unfolding in_order
order_right inner ss at t s ps r = rw (r.placed, r.whole) r.rest

-- what has no place has none later
after_none : (k t : ℕ) (ss : List Slot) → in_place k ss ≡ false → in_place k (open_after t ss) ≡ false
unfolding any_of open_after
after_none k t [] h = refl
after_none k t (one j ∷ ss) h = go (eqb t j) (or_inv (eqb k j) (in_place k ss) h) (λ e. after_none k t ss e)
  where
    go : (b : Bool) → (eqb k j ≡ false) × (in_place k ss ≡ false) → (in_place k ss ≡ false → in_place k (open_after t ss) ≡ false) → in_place k (cond b ss (open_after t ss)) ≡ false
    go true z ih = z.1
    go false z ih = ih z.1
after_none k t (at_most_one j ∷ ss) h = go (eqb t j) (or_inv (eqb k j) (in_place k ss) h) (λ e. after_none k t ss e)
  where
    go : (b : Bool) → (eqb k j ≡ false) × (in_place k ss ≡ false) → (in_place k ss ≡ false → in_place k (open_after t ss) ≡ false) → in_place k (cond b ss (open_after t ss)) ≡ false
    go true z ih = z.1
    go false z ih = ih z.1
after_none k t (many j ∷ ss) h = go (eqb t j) (or_inv (eqb k j) (in_place k ss) h) (λ e. after_none k t ss e)
  where
    go : (b : Bool) → (eqb k j ≡ false) × (in_place k ss ≡ false) → (in_place k ss ≡ false → in_place k (open_after t ss) ≡ false) → in_place k (cond b (many j ∷ ss) (open_after t ss)) ≡ false
    go true z ih = h
    go false z ih = ih z.1

-- a tag without a place is none of a right holder's fields
no_place : (inner : Offsets) (k : ℕ) (ps : List HouseField) (ss : List Slot) → in_place k ss ≡ false → in_order inner ss ps ≡ [] → any_of (tag_is k) ps ≡ false
unfolding any_of in_order
no_place inner k [] ss h e = refl
no_place inner k (cut at ∷ ps) ss h e = absurd (cons≢nil e)
no_place inner k (house_field at t s ∷ ps) ss h e = go (eqb t k) refl (order_inv inner ss at t s ps e) (no_place inner k ps (open_after t ss) (after_none k t ss h))
  where
    go : (b : Bool) → eqb t k ≡ b → Right inner ss at t s ps → (in_order inner (open_after t ss) ps ≡ [] → any_of (tag_is k) ps ≡ false) → b || any_of (tag_is k) ps ≡ false
    go true q r ih = absurd (true≢false (sym r.placed ∙ ap (λ (n : ℕ). in_place n ss) (eqb-true t k q) ∙ h))
    go false q r ih = ih r.rest

-- a field that is for none of the slots fills no lack
lacks_on : (at k : ℕ) (s : List ℕ) (ps : List HouseField) (ss : List Slot) → in_place k ss ≡ false → lacks_house_field ss (house_field at k s ∷ ps) ≡ lacks_house_field ss ps
unfolding any_of
lacks_on at k s ps [] h = refl
lacks_on at k s ps (one j ∷ ss) h = let z = or_inv (eqb k j) (in_place k ss) h in rw (z.0, lacks_on at k s ps ss z.1)
lacks_on at k s ps (at_most_one j ∷ ss) h = lacks_on at k s ps ss (or_inv (eqb k j) (in_place k ss) h).1
lacks_on at k s ps (many j ∷ ss) h = lacks_on at k s ps ss (or_inv (eqb k j) (in_place k ss) h).1

-- the first slot where the first field is for it, and where it is not
module _ (inner : Offsets) (k : ℕ) (ss : List Slot) (free : in_place k ss ≡ false) where
  abbrev Rest : Type 0
  Rest = (ps : List HouseField) → in_order inner ss ps ≡ [] → lacks_house_field ss ps ≡ false → Filled inner ss ps

  -- a slot for k before these: its field, then what fills the rest
  here_once : (x : Slot) → ((t : ℕ) → is_for t x ≡ eqb t k) → ((t : ℕ) → open_after t (x ∷ ss) ≡ cond (eqb t k) ss (open_after t ss))
      → (at t : ℕ) (s : List ℕ) (ps : List HouseField) → eqb t k ≡ true → in_order inner (x ∷ ss) (house_field at t s ∷ ps) ≡ [] → lacks_house_field ss (house_field at t s ∷ ps) ≡ false
      → (inner at k s ≡ []) × (in_order inner ss ps ≡ []) × (lacks_house_field ss ps ≡ false)
  here_once x f o at t s ps q e l =
      let r = order_inv inner (x ∷ ss) at t s ps e in
      let g : open_after t (x ∷ ss) ≡ ss = o t ∙ ap (λ (b : Bool). cond b ss (open_after t ss)) q in
      let z : t ≡ k = eqb-true t k q in
      (subst (λ (n : ℕ). inner at n s ≡ []) z r.whole, subst (λ (us : List Slot). in_order inner us ps ≡ []) g r.rest, sym (lacks_on at t s ps ss (ap (λ (n : ℕ). in_place n ss) z ∙ free)) ∙ l)

  -- another field: the slot is passed
  passed : (x : Slot) → ((t : ℕ) → is_for t x ≡ eqb t k) → (at t : ℕ) (s : List ℕ) (ps : List HouseField) → eqb t k ≡ false → open_after t (x ∷ ss) ≡ open_after t ss
      → in_order inner (x ∷ ss) (house_field at t s ∷ ps) ≡ [] → in_order inner ss (house_field at t s ∷ ps) ≡ []
  unfolding any_of
  passed x f at t s ps q o e =
      let r = order_inv inner (x ∷ ss) at t s ps e in
      order_right inner ss at t s ps (record {
        placed = sym (ap (λ (b : Bool). b || in_place t ss) (f t ∙ q)) ∙ r.placed;
        whole = r.whole;
        rest = subst (λ (us : List Slot). in_order inner us ps ≡ []) o r.rest;
      })

  same_tag : (x : Slot) (at t : ℕ) (s : List ℕ) (ps : List HouseField) → eqb t k ≡ true → Filled inner (x ∷ ss) (house_field at k s ∷ ps) → Filled inner (x ∷ ss) (house_field at t s ∷ ps)
  same_tag x at t s ps q f = subst (λ (n : ℕ). Filled inner (x ∷ ss) (house_field at n s ∷ ps)) (sym (eqb-true t k q)) f

  fill_one : Rest → (ps : List HouseField) → in_order inner (one k ∷ ss) ps ≡ [] → lacks_house_field (one k ∷ ss) ps ≡ false → Filled inner (one k ∷ ss) ps
  unfolding any_of in_order open_after
  fill_one rest [] e l = absurd (true≢false l)
  fill_one rest (cut at ∷ ps) e l = absurd (cons≢nil e)
  fill_one rest (house_field at t s ∷ ps) e l = go (eqb t k) refl (or_inv (not (any_of (tag_is k) (house_field at t s ∷ ps))) (lacks_house_field ss (house_field at t s ∷ ps)) l)
    where
      go : (b : Bool) → eqb t k ≡ b → (not (any_of (tag_is k) (house_field at t s ∷ ps)) ≡ false) × (lacks_house_field ss (house_field at t s ∷ ps) ≡ false) → Filled inner (one k ∷ ss) (house_field at t s ∷ ps)
      go true q z = let h = here_once (one k) (λ n. refl) (λ n. refl) at t s ps q e z.1 in same_tag (one k) at t s ps q (the_one h.0 (rest ps h.1 h.2))
      go false q z =
          let p = passed (one k) (λ n. refl) at t s ps q (ap (λ (b : Bool). cond b ss (open_after t ss)) q) e in
          absurd (true≢false (sym (not_false _ z.0) ∙ no_place inner k (house_field at t s ∷ ps) ss free p))

  fill_at_most : Rest → (ps : List HouseField) → in_order inner (at_most_one k ∷ ss) ps ≡ [] → lacks_house_field (at_most_one k ∷ ss) ps ≡ false → Filled inner (at_most_one k ∷ ss) ps
  unfolding any_of in_order open_after
  fill_at_most rest [] e l = not_there (rest [] refl l)
  fill_at_most rest (cut at ∷ ps) e l = absurd (cons≢nil e)
  fill_at_most rest (house_field at t s ∷ ps) e l = go (eqb t k) refl
    where
      go : (b : Bool) → eqb t k ≡ b → Filled inner (at_most_one k ∷ ss) (house_field at t s ∷ ps)
      go true q = let h = here_once (at_most_one k) (λ n. refl) (λ n. refl) at t s ps q e l in same_tag (at_most_one k) at t s ps q (once h.0 (rest ps h.1 h.2))
      go false q = not_there (rest (house_field at t s ∷ ps) (passed (at_most_one k) (λ n. refl) at t s ps q (ap (λ (b : Bool). cond b ss (open_after t ss)) q) e) l)

  fill_many : Rest → (ps : List HouseField) → in_order inner (many k ∷ ss) ps ≡ [] → lacks_house_field (many k ∷ ss) ps ≡ false → Filled inner (many k ∷ ss) ps
  unfolding any_of in_order open_after
  fill_many rest [] e l = no_more (rest [] refl l)
  fill_many rest (cut at ∷ ps) e l = absurd (cons≢nil e)
  fill_many rest (house_field at t s ∷ ps) e l = go (eqb t k) refl (fill_many rest ps)
    where
      go : (b : Bool) → eqb t k ≡ b → (in_order inner (many k ∷ ss) ps ≡ [] → lacks_house_field (many k ∷ ss) ps ≡ false → Filled inner (many k ∷ ss) ps) → Filled inner (many k ∷ ss) (house_field at t s ∷ ps)
      go true q ih =
          let r = order_inv inner (many k ∷ ss) at t s ps e in
          let z : t ≡ k = eqb-true t k q in
          let g : open_after t (many k ∷ ss) ≡ many k ∷ ss = ap (λ (b : Bool). cond b (many k ∷ ss) (open_after t ss)) q in
          same_tag (many k) at t s ps q (once_more (subst (λ (n : ℕ). inner at n s ≡ []) z r.whole)
          (ih (subst (λ (us : List Slot). in_order inner us ps ≡ []) g r.rest) (sym (lacks_on at t s ps ss (ap (λ (n : ℕ). in_place n ss) z ∙ free)) ∙ l)))
      go false q ih = no_more (rest (house_field at t s ∷ ps) (passed (many k) (λ n. refl) at t s ps q (ap (λ (b : Bool). cond b (many k ∷ ss) (open_after t ss)) q) e) l)

-- Nothing out of place, nothing missing: the slots are filled.
pub filled_complete : (inner : Offsets) (ss : List Slot) → distinct ss ≡ true → (ps : List HouseField) → in_order inner ss ps ≡ [] → lacks_house_field ss ps ≡ false → Filled inner ss ps
unfolding any_of in_order
filled_complete inner [] d [] e l = filled
filled_complete inner [] d (cut at ∷ ps) e l = absurd (cons≢nil e)
filled_complete inner [] d (house_field at t s ∷ ps) e l = absurd (cons≢nil e)
filled_complete inner (one k ∷ ss) d ps e l = let z = and_inv (not (in_place k ss)) (distinct ss) d in fill_one inner k ss (not_inv _ z.0) (filled_complete inner ss z.1) ps e l
filled_complete inner (at_most_one k ∷ ss) d ps e l = let z = and_inv (not (in_place k ss)) (distinct ss) d in fill_at_most inner k ss (not_inv _ z.0) (filled_complete inner ss z.1) ps e l
filled_complete inner (many k ∷ ss) d ps e l = let z = and_inv (not (in_place k ss)) (distinct ss) d in fill_many inner k ss (not_inv _ z.0) (filled_complete inner ss z.1) ps e l

-- The other way round.
eqb_sym : (a b : ℕ) → eqb a b ≡ false → eqb b a ≡ false
eqb_sym a b h = go (eqb b a) refl
  where
    go : (c : Bool) → eqb b a ≡ c → c ≡ false
    go true q = absurd (true≢false (sym (eq-eqb a b (sym (eqb-true b a q))) ∙ h))
    go false q = refl

-- a tag without a slot is none of the fields
filled_none : (inner : Offsets) (k : ℕ) {ss : List Slot} {ps : List HouseField} → Filled inner ss ps → in_place k ss ≡ false → any_of (tag_is k) ps ≡ false
unfolding any_of
filled_none inner k filled h = refl
filled_none inner k (the_one {k = j} {ss = ss} e f) h = let z = or_inv (eqb k j) (in_place k ss) h in rw (eqb_sym k j z.0) (filled_none inner k f z.1)
filled_none inner k (not_there {k = j} {ss = ss} f) h = filled_none inner k f (or_inv (eqb k j) (in_place k ss) h).1
filled_none inner k (once {k = j} {ss = ss} e f) h = let z = or_inv (eqb k j) (in_place k ss) h in rw (eqb_sym k j z.0) (filled_none inner k f z.1)
filled_none inner k (no_more {k = j} {ss = ss} f) h = filled_none inner k f (or_inv (eqb k j) (in_place k ss) h).1
filled_none inner k (once_more {k = j} {ss = ss} e f) h = rw (eqb_sym k j (or_inv (eqb k j) (in_place k ss) h).0) (filled_none inner k f h)

-- a slot before these of whose tag there is no field
module _ (inner : Offsets) (k : ℕ) (ss : List Slot) (x : Slot) (for : (t : ℕ) → is_for t x ≡ eqb t k) (on : (t : ℕ) → eqb t k ≡ false → open_after t (x ∷ ss) ≡ open_after t ss) where
  unpassed : (ps : List HouseField) → any_of (tag_is k) ps ≡ false → in_order inner ss ps ≡ [] → in_order inner (x ∷ ss) ps ≡ []
  unfolding any_of in_order
  unpassed [] h e = refl
  unpassed (cut at ∷ ps) h e = absurd (cons≢nil e)
  unpassed (house_field at t s ∷ ps) h e =
      let q = (or_inv (eqb t k) (any_of (tag_is k) ps) h).0 in
      let r = order_inv inner ss at t s ps e in
      order_right inner (x ∷ ss) at t s ps (record {
        placed = ap (λ (b : Bool). b || in_place t ss) (for t ∙ q) ∙ r.placed;
        whole = r.whole;
        rest = subst (λ (us : List Slot). in_order inner us ps ≡ []) (sym (on t q)) r.rest;
      })

-- a field in the first slot
first_right : (inner : Offsets) (at k : ℕ) (s : List ℕ) (x : Slot) (ss left : List Slot) (ps : List HouseField) → is_for k x ≡ true → open_after k (x ∷ ss) ≡ left → inner at k s ≡ [] → in_order inner left ps ≡ []
    → in_order inner (x ∷ ss) (house_field at k s ∷ ps) ≡ []
unfolding any_of
first_right inner at k s x ss left ps f o e r =
    order_right inner (x ∷ ss) at k s ps (record { placed = ap (λ (b : Bool). b || in_place k ss) f; whole = e; rest = subst (λ (us : List Slot). in_order inner us ps ≡ []) (sym o) r })

pub filled_sound : (inner : Offsets) {ss : List Slot} {ps : List HouseField} → Filled inner ss ps → distinct ss ≡ true → (in_order inner ss ps ≡ []) × (lacks_house_field ss ps ≡ false)
unfolding any_of in_order open_after
filled_sound inner filled d = (refl, refl)
filled_sound inner (the_one {at = at} {k = k} {s = s} {ss = ss} {ps = ps} e f) d =
    let z = and_inv (not (in_place k ss)) (distinct ss) d in
    let r = filled_sound inner f z.1 in
    let q = eq-eqb k k refl in (
      first_right inner at k s (one k) ss ss ps q (ap (λ (b : Bool). cond b ss (open_after k ss)) q) e r.0,
      rw q (lacks_on at k s ps ss (not_inv _ z.0) ∙ r.1),
    )
filled_sound inner (not_there {k = k} {ss = ss} {ps = ps} f) d =
    let z = and_inv (not (in_place k ss)) (distinct ss) d in
    let r = filled_sound inner f z.1 in
    (unpassed inner k ss (at_most_one k) (λ t. refl) (λ t q. ap (λ (b : Bool). cond b ss (open_after t ss)) q) ps (filled_none inner k f (not_inv _ z.0)) r.0, r.1)
filled_sound inner (once {at = at} {k = k} {s = s} {ss = ss} {ps = ps} e f) d =
    let z = and_inv (not (in_place k ss)) (distinct ss) d in
    let r = filled_sound inner f z.1 in
    let q = eq-eqb k k refl in
    (first_right inner at k s (at_most_one k) ss ss ps q (ap (λ (b : Bool). cond b ss (open_after k ss)) q) e r.0, lacks_on at k s ps ss (not_inv _ z.0) ∙ r.1)
filled_sound inner (no_more {k = k} {ss = ss} {ps = ps} f) d =
    let z = and_inv (not (in_place k ss)) (distinct ss) d in
    let r = filled_sound inner f z.1 in
    (unpassed inner k ss (many k) (λ t. refl) (λ t q. ap (λ (b : Bool). cond b (many k ∷ ss) (open_after t ss)) q) ps (filled_none inner k f (not_inv _ z.0)) r.0, r.1)
filled_sound inner (once_more {at = at} {k = k} {s = s} {ss = ss} {ps = ps} e f) d =
    let z = and_inv (not (in_place k ss)) (distinct ss) d in
    let r = filled_sound inner f d in
    let q = eq-eqb k k refl in
    (first_right inner at k s (many k) ss (many k ∷ ss) ps q (ap (λ (b : Bool). cond b (many k ∷ ss) (open_after k ss)) q) e r.0, lacks_on at k s ps ss (not_inv _ z.0) ∙ r.1)
