-- Places kept row by row: each by its parent's, which stands before it. What is kept of rows with a type inside stays.
use mathlib.Core.Path.{◌≡◌, refl, sym, ap, ◌∙◌}
use mathlib.Core.Logic.{⊎_elim}
use mathlib.Core.Bool.{Bool, true, false, ◌||◌, true≢false}
use mathlib.Core.List.{List}
use Prim.Native.Nat.{ℕ, ◌+◌, ◌≤◌, ◌<◌}
use native.Mathlib.Omega.{arith}
use lib.ListN.{get_or, set}
use lib.Seq.{get_or-set_same, get_or-set_other}
use lib.Dec.{eqb, ltb}
use borrow.Author.Tests.{eqb-true, eqb-false, ltb-true, ltb-false, lt-ltb, le-ltb}
use Rattle.paper.specs.Numbers.{kind_operation, kind_fragment, kind_field, kind_inline}
use Rattle.paper_table.specs.Types.{table_of}
use Rattle.paper_query.specs.Constructs.{parent_of}
use Rattle.paper_query.specs.PlaceTypes.{place, place_from}
use Rattle.paper_query.proofs.PlaceLaws.{place_step, place_none}
use Rattle.query_rows.specs.Rowed.{doc_of, row_in, Rowed, room_of}
use Rattle.query_rows.proofs.RowsIn.{rows_count, parent_before}
use Rattle.query_rows.proofs.Rooms.{room_enough}
use Rattle.query_inside.specs.Enclosed.{encloses, EnclosedTo, Enclosed}
use Rattle.query_inside.proofs.EnclosedLaws.{rowed_before, enclosed_other_inside, enclosed_other_at}
use Rattle.query_place_types.specs.Shapes.{coded, Keeps}
use Rattle.query_due_types.specs.Dues.{FieldsKept}
use Rattle.query_places.specs.Placed.{no_place, place_in, PlacedTo, Placed}
use Rattle.query_place_types.specs.declared.Place.{Place}
use Rattle.query_place_types.proofs.ShapeLaws.{keeps_unknown}
use Rattle.query_due_types.proofs.PlaceCases.{field_there, from_lower}

-- a row with a type inside is no value, argument or object field
enclosing_low : (k : ℕ) → encloses k ≡ true → k ≤ kind_inline
enclosing_low k e = go (eqb k kind_operation) refl (eqb k kind_fragment) refl (eqb k kind_field) refl (eqb k kind_inline) refl e
  where
    go : (a : Bool) → eqb k kind_operation ≡ a → (b : Bool) → eqb k kind_fragment ≡ b → (c : Bool) → eqb k kind_field ≡ c → (d : Bool) → eqb k kind_inline ≡ d → a || (b || (c || d)) ≡ true → k ≤ kind_inline
    go true p b q c r d s z = omega (arith, eqb-true k kind_operation p)
    go false p true q c r d s z = omega (arith, eqb-true k kind_fragment q)
    go false p false q true r d s z = omega (arith, eqb-true k kind_field r)
    go false p false q false r true s z = omega (arith, eqb-true k kind_inline s)
    go false p false q false r false s z = absurd (true≢false (sym z))

-- the fields, of what is kept of all rows
pub fields_kept : {t book es s rows : List ℕ} {n : ℕ} {inner at : List ℕ} → EnclosedTo t book es s rows n n inner at → FieldsKept t book es s rows n at
fields_kept {rows = rows} {n = n} e = record { ats = e.ats; fields = λ i k. e.fields i (field_there rows n i k) k }

-- with some book
pub placed_enclosed : {t s rows : List ℕ} {n : ℕ} {at es wrappers : List ℕ} → Placed t s rows n at es wrappers → Enclosed t s rows n wrappers at es
placed_enclosed p = record { book = p.book; all = p.all.enclosed }

-- for such a row, and for one that is not there, no place is kept; for others the two numbers
module _ (rows : List ℕ) (n : ℕ) (at wrappers : List ℕ) (i : ℕ) where
  pub in_none : n ≤ i → place_in rows n at wrappers i ≡ no_place
  unfolding place_in
  in_none h = rw (le-ltb i n h)

  pub in_enclosing : i < n → encloses (row_in rows n i).kind ≡ true → place_in rows n at wrappers i ≡ no_place
  unfolding place_in
  in_enclosing h e = rw (lt-ltb i n h, e)

  pub in_row : i < n → encloses (row_in rows n i).kind ≡ false → place_in rows n at wrappers i ≡ record { at = get_or at i 0; wrappers = get_or wrappers i 0 }
  unfolding place_in
  in_row h e = rw (lt-ltb i n h, e)

module _ (t book es s rows : List ℕ) (n : ℕ) (r : Rowed s rows n) where
  module _ (at wrappers : List ℕ) where
    -- the place of row i is kept
    abbrev At : ℕ → Type 0
    At i = Keeps t book es (place (table_of t) (doc_of s rows n) i) (place_in rows n at wrappers i)

    -- at a row that is not there nothing is due
    kept_none : (i : ℕ) → n ≤ i → At i
    kept_none i h =
        rw (place_none (table_of t) (doc_of s rows n) (rowed_before s rows n r) i (omega (arith, rows_count rows n)), in_none rows n at wrappers i h) (keeps_unknown t book es no_place refl)

    -- at a row with a type inside nothing is due
    kept_enclosing : (i : ℕ) → i < n → encloses (row_in rows n i).kind ≡ true → At i
    kept_enclosing i h e =
        let l : (row_in rows n i).kind ≤ kind_inline = enclosing_low (row_in rows n i).kind e in
        let q = from_lower (table_of t) (doc_of s rows n) i (place (table_of t) (doc_of s rows n) (parent_of (doc_of s rows n) i)) (λ z. omega arith) (λ z. omega arith) (omega arith) in
        rw (place_step (table_of t) (doc_of s rows n) (rowed_before s rows n r) i ∙ q, in_enclosing rows n at wrappers i h e) (keeps_unknown t book es no_place refl)

    -- of each row before i, and of row i
    kept_more : (i : ℕ) → ((j : ℕ) → j < i → At j) → At i → (j : ℕ) → j < i + 1 → At j
    kept_more i k x j l = go (eqb j i) refl
      where
        go : (b : Bool) → eqb j i ≡ b → At j
        go true q = rw (eqb-true j i q) x
        go false q = k j (let y : j ≡ i → ⊥ = eqb-false j i q in omega arith)

    -- the parent's place
    pub parent_kept : (i : ℕ) → i < n → PlacedTo t book es s rows n at wrappers i → At (row_in rows n i).parent
    parent_kept i h p = ⊎_elim (p.kept (row_in rows n i).parent) (λ e. kept_none (row_in rows n i).parent (omega (arith, e, r.few))) (parent_before s rows n r i h)

    -- every row's
    pub placed_at : PlacedTo t book es s rows n at wrappers n → (i : ℕ) → At i
    placed_at p i = go (ltb i n) refl
      where
        go : (b : Bool) → ltb i n ≡ b → At i
        go true q = p.kept i (omega (arith, ltb-true i n q))
        go false q = kept_none i (omega (arith, ltb-false i n q))

    pub placed_start : EnclosedTo t book es s rows n n wrappers at → PlacedTo t book es s rows n at wrappers 0
    placed_start e = record { enclosed = e; kept = λ i h. absurd (omega arith) }

    -- the next row has a type inside
    pub placed_enclosing : (i : ℕ) → i < n → PlacedTo t book es s rows n at wrappers i → encloses (row_in rows n i).kind ≡ true → PlacedTo t book es s rows n at wrappers (i + 1)
    placed_enclosing i h p e = record { enclosed = p.enclosed; kept = kept_more i p.kept (kept_enclosing i h e) }

  -- it has none: its place is written
  module _ (at wrappers : List ℕ) (i : ℕ) (h : i < n) (p : PlacedTo t book es s rows n at wrappers i) (e : encloses (row_in rows n i).kind ≡ false) (x : Place) where
    abbrev ats : List ℕ
    ats = set at i x.at

    abbrev wraps : List ℕ
    wraps = set wrappers i x.wrappers

    no_field : (row_in rows n i).kind ≡ kind_field → ⊥
    no_field q = true≢false (sym (ap encloses q) ∙ e)

    still_enclosed : EnclosedTo t book es s rows n n wraps ats
    still_enclosed = enclosed_other_at (enclosed_other_inside p.enclosed i x.wrappers e) i x.at no_field

    in_other : (j : ℕ) → (j ≡ i → ⊥) → place_in rows n ats wraps j ≡ place_in rows n at wrappers j
    unfolding place_in
    in_other j z = rw (get_or-set_other at i j x.at 0 z, get_or-set_other wrappers i j x.wrappers 0 z)

    in_same : place_in rows n ats wraps i ≡ x
    in_same =
        let l : i < room_of n = omega (arith, room_enough n r.few) in
        in_row rows n ats wraps i h e
        ∙ rw (get_or-set_same at i x.at 0 (omega (arith, p.enclosed.ats)), get_or-set_same wrappers i x.wrappers 0 (omega (arith, p.enclosed.inners)))

    pub placed_row : (above : Place) → above ≡ place_in rows n at wrappers (row_in rows n i).parent → Keeps t book es (place_from (table_of t) (doc_of s rows n) i (coded t es above)) x
        → PlacedTo t book es s rows n (set at i x.at) (set wrappers i x.wrappers) (i + 1)
    placed_row above a k = record {
      enclosed = still_enclosed;
      kept = kept_more ats wraps i (λ j l. rw (in_other j (λ z. omega arith)) (p.kept j l)) (rw in_same due);
    }
      where
        due : Keeps t book es (place (table_of t) (doc_of s rows n) i) x
        due = rw (place_step (table_of t) (doc_of s rows n) (rowed_before s rows n r) i, (parent_kept at wrappers i h p).is, ← a) k
