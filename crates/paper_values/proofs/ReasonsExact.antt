-- The eight reasons, each exactly when: a value at a named type, null at any type; and what the wrappers of a type add. `ReasonsOfDues` has what is due in a call.
-- Assumes nothing. Only in an object can a refusal be another value's; `Apart` says that a place is none inside its entries' values, and the values of rows keep it.
use mathlib.Core.Path.{◌≡◌, refl, sym, ap, ◌∙◌, subst}
use mathlib.Core.Bool.{Bool, true, false}
use mathlib.Core.Option.{Option, none, some}
use mathlib.Core.List.{List, [], ◌∷◌}
use mathlib.Core.Logic.{◌↔◌}
use Prim.Native.Nat.{ℕ}
use native.Mathlib.Omega.{arith}
use Rattle.paper_table.specs.References.{Ref, named, list_of, non_null, is_non_null}
use Rattle.paper_values.specs.ValueNumbers.{reason_kind, reason_range, reason_missing, reason_null, reason_unknown, reason_repeated, reason_enum, reason_surrogate}
use Rattle.paper_values.specs.Values.{Name, At, Value, variable, integer, float, string, boolean, null, enum, list, object, Values, no_values, item, Entries, Due, Tree, Null, Bits, Decimal, Text, Truth, Member, Many, Fields, Token, Trees, no_more, also, Pairs, pair, Out, Got, No, and_then}
use Rattle.paper_values.specs.Kinds.{Kind, Int, Float, String, Boolean, ID, Own, Other, Enum, Input}
use Rattle.paper_values.specs.Computed.{null_at, held, coerce, coerce_all}
use Rattle.paper_values.specs.Coercion.{heads, repeated_entry, unknown_entry}
use Rattle.paper_values.specs.CoercionRules.{plain_value, single_value, as_input, value_for, Coerces, at_non_null, list_of_one, no_object, entry_repeated, entry_unknown, an_object, InFields, no_fields, required_missing, by_left_out, field_refused, field_got}
use Rattle.paper_values.proofs.CoercionExact.{coerces_is, coerces_has}
use Rattle.paper_values.proofs.PlacesLaws.{Kept, Placed, value_kept}
use Rattle.paper_values.proofs.ReasonTables.{takes, outside, no_member, no_text, place_of, why, true≢false, AtOwn, Cell, wrong_kind, inside, Judged, kind_told, range_told, enum_told, surrogate_told, integer_cell, float_cell, string_cell, boolean_cell, enum_cell}

-- ---- objects

-- no place inside the values of an object's entries is e
abbrev pub Apart : (Name → Kind) → (Name → Option Tree) → At → Entries → Type 0
Apart kinds vars e es = (n : Name) (v : Value) → value_for kinds vars n es ≡ some v → Placed (λ j. j ≡ e → ⊥) v

-- nor is the object's own, where the value is one
abbrev pub ApartInside : (Name → Kind) → (Name → Option Tree) → Value → Type 0
ApartInside kinds vars (variable i n) = Unit
ApartInside kinds vars (integer i s) = Unit
ApartInside kinds vars (float i s) = Unit
ApartInside kinds vars (string i s cs) = Unit
ApartInside kinds vars (boolean i b) = Unit
ApartInside kinds vars (null i) = Unit
ApartInside kinds vars (enum i n) = Unit
ApartInside kinds vars (list i vs) = Unit
ApartInside kinds vars (object i es) = Apart kinds vars i es

-- a variable counts as null where it is absent (in a list) and where it holds null
abbrev pub as_null : Option Tree → Bool
as_null none = true
as_null (some Null) = true
as_null (some (Bits x)) = false
as_null (some (Decimal s)) = false
as_null (some (Text s)) = false
as_null (some (Truth b)) = false
as_null (some (Member n)) = false
as_null (some (Many ts)) = false
as_null (some (Fields ps)) = false
as_null (some (Token s)) = false

module _ (kinds : Name → Kind) (vars : Name → Option Tree) where
  -- the first of those due that fails is a Non-Null without an entry: those before it are coerced, or may be left out
  pub data Lacks (es : Entries) : List Due → Type 0 where
    lacking : {d : Due} {ds : List Due} → value_for kinds vars d.name es ≡ none → is_non_null d.type ≡ true → Lacks es (d ∷ ds)
    after_left_out : {d : Due} {ds : List Due} → value_for kinds vars d.name es ≡ none → is_non_null d.type ≡ false → Lacks es ds → Lacks es (d ∷ ds)
    after_got : {d : Due} {ds : List Due} {t : Tree} (v : Value) → value_for kinds vars d.name es ≡ some v → Coerces kinds vars v d.type (Got t) → Lacks es ds → Lacks es (d ∷ ds)

  -- a refusal inside an object, at a place apart from its entries' values, is the object's for a field that is missing
  abbrev Outer : At → At → Entries → List Due → Out Pairs → Type 0
  Outer e i es ds (Got ps) = Unit
  Outer e i es ds (No j w) = j ≡ e → (j ≡ i) × (w ≡ reason_missing) × Lacks es ds

  pub refused_inside : (e : At) {j : At} {v : Value} {r : Ref} {w : ℕ} → Placed (λ k. k ≡ e → ⊥) v → Coerces kinds vars v r (No j w) → j ≡ e → ⊥
  refused_inside e {v = v} {r} p c = subst (λ (o : Out Tree). Kept (λ k. k ≡ e → ⊥) o) (coerces_is kinds vars c) (value_kept (λ k. k ≡ e → ⊥) kinds vars v p r)

  outer_pair : (e i : At) (es : Entries) (d : Due) (ds : List Due) {t : Tree} (v : Value) (o : Out Pairs) → value_for kinds vars d.name es ≡ some v → Coerces kinds vars v d.type (Got t)
      → Outer e i es ds o → Outer e i es (d ∷ ds) (and_then o (λ ps. Got (pair d.name t ps)))
  outer_pair e i es d ds v (Got ps) q c h = tt
  outer_pair e i es d ds v (No j w) q c h = λ z. ((h z).0, (h z).1, after_got v q c (h z).2)

  outer_later : (e i : At) (es : Entries) (d : Due) (ds : List Due) (o : Out Pairs) → value_for kinds vars d.name es ≡ none → is_non_null d.type ≡ false → Outer e i es ds o → Outer e i es (d ∷ ds) o
  outer_later e i es d ds (Got ps) q l h = tt
  outer_later e i es d ds (No j w) q l h = λ z. ((h z).0, (h z).1, after_left_out q l (h z).2)

  outer : (e : At) {i : At} {es : Entries} {ds : List Due} {o : Out Pairs} → Apart kinds vars e es → InFields kinds vars i es ds o → Outer e i es ds o
  outer e h no_fields = tt
  outer e h (required_missing q l) = λ z. (refl, refl, lacking q l)
  outer e h (by_left_out {i} {es} {d} {ds} {o} q l c) = outer_later e i es d ds o q l (outer e h c)
  outer e h (field_refused {d = d} v q c) = λ z. absurd (refused_inside e (h d.name v q) c z)
  outer e h (field_got {i} {es} {d} {ds} {o = o} v q c f g) = subst (λ (p : Out Pairs). Outer e i es (d ∷ ds) p) g (outer_pair e i es d ds v o q c (outer e h f))

  -- an object, by its rules: at what is no input object; for 6; for 5; for its fields
  pub data Refused (i : At) (es : Entries) (n : Name) : At → ℕ → Type 0 where
    at_another_kind : as_input (kinds n) ≡ none → Refused i es n i reason_kind
    for_repeated : {e : At} (ds : List Due) → as_input (kinds n) ≡ some ds → repeated_entry [] (heads es) ≡ some e → Refused i es n e reason_repeated
    for_unknown : {e : At} (ds : List Due) → as_input (kinds n) ≡ some ds → repeated_entry [] (heads es) ≡ none → unknown_entry ds (heads es) ≡ some e → Refused i es n e reason_unknown
    for_a_field : {e : At} {w : ℕ} (ds : List Due) → as_input (kinds n) ≡ some ds → repeated_entry [] (heads es) ≡ none → unknown_entry ds (heads es) ≡ none →
        InFields kinds vars i es ds (No e w) → Refused i es n e w

  pub no_fields_refused : (o : Out Pairs) {e : At} {w : ℕ} → and_then o (λ ps. Got (Fields ps)) ≡ No e w → o ≡ No e w
  no_fields_refused (Got ps) q = let z : ◌≡◌ {A = ℕ} 0 1 = cc in absurd (omega (arith, z))
  no_fields_refused (No j x) q = cc

  -- exactly: by one of the four rules
  abbrev RefusedAs : At → Entries → Name → Out Tree → Type 0
  RefusedAs i es n (Got t) = ⊥
  RefusedAs i es n (No e w) = Refused i es n e w

  refused_by : {i e : At} {es : Entries} {n : Name} {w : ℕ} {o : Out Tree} → Coerces kinds vars (object i es) (named n) o → o ≡ No e w → Refused i es n e w
  refused_by {i} {es = es} {n} (no_object q) z = subst (RefusedAs i es n) z (at_another_kind q)
  refused_by {i} {es = es} {n} (entry_repeated ds q a) z = subst (RefusedAs i es n) z (for_repeated ds q a)
  refused_by {i} {es = es} {n} (entry_unknown ds q a b) z = subst (RefusedAs i es n) z (for_unknown ds q a b)
  refused_by {i} {es = es} (an_object {o = o} ds q a b c f) z = for_a_field ds q a b (subst (λ (x : Out Pairs). InFields kinds vars i es ds x) (no_fields_refused o (f ∙ z)) c)

  to_refused : {i e : At} {es : Entries} {n : Name} {w : ℕ} → Refused i es n e w → Coerces kinds vars (object i es) (named n) (No e w)
  to_refused (at_another_kind q) = no_object q
  to_refused (for_repeated ds q a) = entry_repeated ds q a
  to_refused (for_unknown ds q a b) = entry_unknown ds q a b
  to_refused (for_a_field ds q a b c) = an_object ds q a b c refl

  pub object_refused_exactly : (i : At) (es : Entries) (n : Name) (e : At) (w : ℕ) → (coerce kinds vars (object i es) (named n) ≡ No e w) ↔ Refused i es n e w
  object_refused_exactly i es n e w = (λ q. refused_by (coerces_has kinds vars (object i es) (named n)) q, λ r. coerces_is kinds vars (to_refused r))

  -- 3, where the object stands; 5 and 6, where an entry stands
  lacks_refused : {es : Entries} {ds : List Due} (i : At) → Lacks es ds → InFields kinds vars i es ds (No i reason_missing)
  lacks_refused i (lacking q l) = required_missing q l
  lacks_refused i (after_left_out q l h) = by_left_out q l (lacks_refused i h)
  lacks_refused i (after_got v q c h) = field_got v q c (lacks_refused i h) refl

  abbrev Missing : Entries → Name → Type 0
  Missing es n = (ds : List Due) × (as_input (kinds n) ≡ some ds) × (repeated_entry [] (heads es) ≡ none) × (unknown_entry ds (heads es) ≡ none) × Lacks es ds

  missing_from : {i e : At} {es : Entries} {n : Name} {w : ℕ} → Apart kinds vars e es → Refused i es n e w → w ≡ reason_missing → Missing es n
  missing_from h (at_another_kind q) z = absurd (omega (arith, z))
  missing_from h (for_repeated ds q a) z = absurd (omega (arith, z))
  missing_from h (for_unknown ds q a b) z = absurd (omega (arith, z))
  missing_from {e = e} h (for_a_field ds q a b c) z = (ds, q, a, b, (outer e h c refl).2)

  pub missing_exactly : (i : At) (es : Entries) (n : Name) → Apart kinds vars i es → (coerce kinds vars (object i es) (named n) ≡ No i reason_missing) ↔ Missing es n
  missing_exactly i es n h = (
    λ q. missing_from h ((object_refused_exactly i es n i reason_missing).0 q) refl,
    λ m. (object_refused_exactly i es n i reason_missing).1 (for_a_field m.0 m.1 m.2 m.3 (lacks_refused i m.4)),
  )

  unknown_from : {i e : At} {es : Entries} {n : Name} {w : ℕ} → Apart kinds vars e es → Refused i es n e w → w ≡ reason_unknown →
      (ds : List Due) × (as_input (kinds n) ≡ some ds) × (repeated_entry [] (heads es) ≡ none) × (unknown_entry ds (heads es) ≡ some e)
  unknown_from h (at_another_kind q) z = absurd (omega (arith, z))
  unknown_from h (for_repeated ds q a) z = absurd (omega (arith, z))
  unknown_from h (for_unknown ds q a b) z = (ds, q, a, b)
  unknown_from {e = e} h (for_a_field ds q a b c) z = absurd (omega (arith, z, (outer e h c refl).1))

  pub unknown_exactly : (i : At) (es : Entries) (n : Name) (e : At) → Apart kinds vars e es →
      (coerce kinds vars (object i es) (named n) ≡ No e reason_unknown) ↔ ((ds : List Due) × (as_input (kinds n) ≡ some ds) × (repeated_entry [] (heads es) ≡ none) × (unknown_entry ds (heads es) ≡ some e))
  unknown_exactly i es n e h = (
    λ q. unknown_from h ((object_refused_exactly i es n e reason_unknown).0 q) refl,
    λ m. (object_refused_exactly i es n e reason_unknown).1 (for_unknown m.0 m.1 m.2 m.3),
  )

  repeated_from : {i e : At} {es : Entries} {n : Name} {w : ℕ} → Apart kinds vars e es → Refused i es n e w → w ≡ reason_repeated →
      (ds : List Due) × (as_input (kinds n) ≡ some ds) × (repeated_entry [] (heads es) ≡ some e)
  repeated_from h (at_another_kind q) z = absurd (omega (arith, z))
  repeated_from h (for_repeated ds q a) z = (ds, q, a)
  repeated_from h (for_unknown ds q a b) z = absurd (omega (arith, z))
  repeated_from {e = e} h (for_a_field ds q a b c) z = absurd (omega (arith, z, (outer e h c refl).1))

  pub repeated_exactly : (i : At) (es : Entries) (n : Name) (e : At) → Apart kinds vars e es →
      (coerce kinds vars (object i es) (named n) ≡ No e reason_repeated) ↔ ((ds : List Due) × (as_input (kinds n) ≡ some ds) × (repeated_entry [] (heads es) ≡ some e))
  repeated_exactly i es n e h = (
    λ q. repeated_from h ((object_refused_exactly i es n e reason_repeated).0 q) refl,
    λ m. (object_refused_exactly i es n e reason_repeated).1 (for_repeated m.0 m.1 m.2),
  )

  -- ---- 1, 2, 7 and 8, where the value stands

  abbrev Whole : At → Option (List Due) → Out Tree → Type 0
  Whole i none o = o ≡ No i reason_kind
  Whole i (some ds) o = AtOwn i o

  own_fields : (i : At) (es : Entries) (ds : List Due) (o : Out Pairs) → Outer i i es ds o → AtOwn i (and_then o (λ ps. Got (Fields ps)))
  own_fields i es ds (Got ps) h = tt
  own_fields i es ds (No j w) h = λ z. (omega (arith, (h z).1), omega (arith, (h z).1), λ x. omega (arith, x, (h z).1))

  whole : {i : At} {es : Entries} {n : Name} {o : Out Tree} → Apart kinds vars i es → Coerces kinds vars (object i es) (named n) o → Whole i (as_input (kinds n)) o
  whole {i} {o = o} h (no_object q) = subst (λ (m : Option (List Due)). Whole i m o) (sym q) refl
  whole {i} {o = o} h (entry_repeated ds q a) = subst (λ (m : Option (List Due)). Whole i m o) (sym q) (λ z. (omega arith, omega arith, λ x. omega (arith, x)))
  whole {i} {o = o} h (entry_unknown ds q a b) = subst (λ (m : Option (List Due)). Whole i m o) (sym q) (λ z. (omega arith, omega arith, λ x. omega (arith, x)))
  whole {i} {es} {o = o} h (an_object {o = ps} ds q a b c f) = subst (λ (m : Option (List Due)). Whole i m o) (sym q) (subst (AtOwn i) f (own_fields i es ds ps (outer i h c)))

  wrong : (i : At) (o : Out Tree) → o ≡ No i reason_kind → Cell i false false false false o
  wrong i o q = subst (Cell i false false false false) (sym q) wrong_kind

  object_cell : (i : At) (es : Entries) (k : Kind) (o : Out Tree) → Whole i (as_input k) o → Judged (object i es) k o
  object_cell i es Int o h = wrong i o h
  object_cell i es Float o h = wrong i o h
  object_cell i es String o h = wrong i o h
  object_cell i es Boolean o h = wrong i o h
  object_cell i es ID o h = wrong i o h
  object_cell i es Own o h = wrong i o h
  object_cell i es Other o h = wrong i o h
  object_cell i es (Enum ms) o h = wrong i o h
  object_cell i es (Input ds) o h = inside h

  cell : (v : Value) (n : Name) → plain_value v ≡ true → ApartInside kinds vars v → Judged v (kinds n) (coerce kinds vars v (named n))
  unfolding coerce
  cell (variable i m) n p h = absurd (true≢false (sym p))
  cell (integer i s) n p h = integer_cell i s (kinds n)
  cell (float i s) n p h = float_cell i s (kinds n)
  cell (string i s cs) n p h = string_cell i s cs (kinds n)
  cell (boolean i b) n p h = boolean_cell i b (kinds n)
  cell (null i) n p h = absurd (true≢false (sym p))
  cell (enum i e) n p h = enum_cell i e (kinds n)
  cell (list i vs) n p h = wrong_kind
  cell (object i es) n p h = object_cell i es (kinds n) _ (whole h (coerces_has kinds vars (object i es) (named n)))

  pub kind_exactly : (v : Value) (n : Name) → plain_value v ≡ true → ApartInside kinds vars v → (coerce kinds vars v (named n) ≡ No (place_of v) reason_kind) ↔ (takes v (kinds n) ≡ false)
  kind_exactly v n p h = kind_told (cell v n p h)

  pub range_exactly : (v : Value) (n : Name) → plain_value v ≡ true → ApartInside kinds vars v → (coerce kinds vars v (named n) ≡ No (place_of v) reason_range) ↔ (outside v (kinds n) ≡ true)
  range_exactly v n p h = range_told (cell v n p h)

  pub enum_exactly : (v : Value) (n : Name) → plain_value v ≡ true → ApartInside kinds vars v → (coerce kinds vars v (named n) ≡ No (place_of v) reason_enum) ↔ (no_member v (kinds n) ≡ true)
  enum_exactly v n p h = enum_told (cell v n p h)

  pub surrogate_exactly : (v : Value) (n : Name) → plain_value v ≡ true → ApartInside kinds vars v → (coerce kinds vars v (named n) ≡ No (place_of v) reason_surrogate) ↔ (no_text v (kinds n) ≡ true)
  surrogate_exactly v n p h = surrogate_told (cell v n p h)

  -- ---- null, and the wrappers

  null_told : (i : At) (r : Ref) → (null_at i r ≡ No i reason_null) ↔ (is_non_null r ≡ true)
  null_told i (named n) = (λ q. absurd (omega (arith, ap why q)), λ q. absurd (true≢false (sym q)))
  null_told i (list_of r) = (λ q. absurd (omega (arith, ap why q)), λ q. absurd (true≢false (sym q)))
  null_told i (non_null r) = (λ q. refl, λ q. refl)

  pub null_exactly : (i : At) (r : Ref) → (coerce kinds vars (null i) r ≡ No i reason_null) ↔ (is_non_null r ≡ true)
  unfolding coerce
  null_exactly i r = null_told i r

  held_told : (i : At) (r : Ref) (m : Option Tree) → (held kinds vars i r m ≡ No i reason_null) ↔ ((as_null m ≡ true) × (is_non_null r ≡ true))
  held_told i r none = (λ q. (refl, (null_told i r).0 q), λ h. (null_told i r).1 h.1)
  held_told i r (some Null) = (λ q. (refl, (null_told i r).0 q), λ h. (null_told i r).1 h.1)
  held_told i r (some (Bits x)) = (λ q. absurd (omega (arith, ap why q)), λ h. absurd (true≢false (sym h.0)))
  held_told i r (some (Decimal s)) = (λ q. absurd (omega (arith, ap why q)), λ h. absurd (true≢false (sym h.0)))
  held_told i r (some (Text s)) = (λ q. absurd (omega (arith, ap why q)), λ h. absurd (true≢false (sym h.0)))
  held_told i r (some (Truth b)) = (λ q. absurd (omega (arith, ap why q)), λ h. absurd (true≢false (sym h.0)))
  held_told i r (some (Member n)) = (λ q. absurd (omega (arith, ap why q)), λ h. absurd (true≢false (sym h.0)))
  held_told i r (some (Many ts)) = (λ q. absurd (omega (arith, ap why q)), λ h. absurd (true≢false (sym h.0)))
  held_told i r (some (Fields ps)) = (λ q. absurd (omega (arith, ap why q)), λ h. absurd (true≢false (sym h.0)))
  held_told i r (some (Token s)) = (λ q. absurd (omega (arith, ap why q)), λ h. absurd (true≢false (sym h.0)))

  pub null_variable_exactly : (i : At) (n : Name) (r : Ref) → (coerce kinds vars (variable i n) r ≡ No i reason_null) ↔ ((as_null (vars n) ≡ true) × (is_non_null r ≡ true))
  unfolding coerce
  null_variable_exactly i n r = held_told i r (vars n)

  -- what is neither null nor a variable is at a Non-Null type what it is inside; what is no list is refused as a list of one as it is itself
  pub non_null_same : (v : Value) (r : Ref) → plain_value v ≡ true → coerce kinds vars v (non_null r) ≡ coerce kinds vars v r
  non_null_same v r p = coerces_is kinds vars (at_non_null p (coerces_has kinds vars v r))

  one_refused : (o : Out Tree) {e : At} {w : ℕ} → (and_then o (λ t. Got (Many (also t no_more))) ≡ No e w) ↔ (o ≡ No e w)
  one_refused (Got t) = (λ q. let z : ◌≡◌ {A = ℕ} 0 1 = cc in absurd (omega (arith, z)), λ q. let z : ◌≡◌ {A = ℕ} 0 1 = cc in absurd (omega (arith, z)))
  one_refused (No j x) = (λ q. cc, λ q. cc)

  pub list_of_one_refused : (v : Value) (r : Ref) (e : At) (w : ℕ) → single_value v ≡ true → (coerce kinds vars v (list_of r) ≡ No e w) ↔ (coerce kinds vars v r ≡ No e w)
  list_of_one_refused v r e w p =
      let s = coerces_is kinds vars (list_of_one p (coerces_has kinds vars v r) refl) in
      (λ q. (one_refused (coerce kinds vars v r)).0 (sym s ∙ q), λ q. s ∙ (one_refused (coerce kinds vars v r)).1 q)

  -- a list: an item is refused so, and those before it are coerced
  pub data RefusedItem (r : Ref) (e : At) (w : ℕ) : Values → Type 0 where
    this_item : {v : Value} {vs : Values} → coerce kinds vars v r ≡ No e w → RefusedItem r e w (item v vs)
    later_item : {v : Value} {vs : Values} (t : Tree) → coerce kinds vars v r ≡ Got t → RefusedItem r e w vs → RefusedItem r e w (item v vs)

  rest_refused : (t : Tree) (o : Out Trees) {e : At} {w : ℕ} → and_then o (λ ts. Got (also t ts)) ≡ No e w → o ≡ No e w
  rest_refused t (Got ts) q = let z : ◌≡◌ {A = ℕ} 0 1 = cc in absurd (omega (arith, z))
  rest_refused t (No j x) q = cc

  many_refused : (o : Out Trees) {e : At} {w : ℕ} → (and_then o (λ ts. Got (Many ts)) ≡ No e w) ↔ (o ≡ No e w)
  many_refused (Got ts) = (λ q. let z : ◌≡◌ {A = ℕ} 0 1 = cc in absurd (omega (arith, z)), λ q. let z : ◌≡◌ {A = ℕ} 0 1 = cc in absurd (omega (arith, z)))
  many_refused (No j x) = (λ q. cc, λ q. cc)

  item_by : (v : Value) (vs : Values) (r : Ref) (e : At) (w : ℕ) (o : Out Tree) → coerce kinds vars v r ≡ o → and_then o (λ t. and_then (coerce_all kinds vars vs r) (λ ts. Got (also t ts))) ≡ No e w →
      (coerce_all kinds vars vs r ≡ No e w → RefusedItem r e w vs) → RefusedItem r e w (item v vs)
  item_by v vs r e w (Got t) c z f = later_item t c (f (rest_refused t (coerce_all kinds vars vs r) z))
  item_by v vs r e w (No j x) c z f = let y : ◌≡◌ {A = Out Tree} (No j x) (No e w) = cc in this_item (c ∙ y)

  item_from : (vs : Values) (r : Ref) (e : At) (w : ℕ) → coerce_all kinds vars vs r ≡ No e w → RefusedItem r e w vs
  unfolding coerce
  item_from no_values r e w q = let z : ◌≡◌ {A = ℕ} 0 1 = cc in absurd (omega (arith, z))
  item_from (item v vs) r e w q = item_by v vs r e w (coerce kinds vars v r) refl q (λ z. item_from vs r e w z)

  to_item : {r : Ref} {e : At} {w : ℕ} {vs : Values} → RefusedItem r e w vs → coerce_all kinds vars vs r ≡ No e w
  unfolding coerce
  to_item (this_item q) = rw q
  to_item (later_item t q h) = rw (q, to_item h)

  pub list_refused_exactly : (i : At) (vs : Values) (r : Ref) (e : At) (w : ℕ) → (coerce kinds vars (list i vs) (list_of r) ≡ No e w) ↔ RefusedItem r e w vs
  unfolding coerce
  list_refused_exactly i vs r e w = (
    λ q. item_from vs r e w ((many_refused (coerce_all kinds vars vs r)).0 q),
    λ h. (many_refused (coerce_all kinds vars vs r)).1 (to_item h),
  )
