-- The type due at a row, by that due at its parent.
-- Assumes nothing.
use mathlib.Core.Path.{◌≡◌, refl, sym, ap, ◌∙◌}
use mathlib.Core.Option.{Option, none}
use Prim.Native.Nat.{ℕ, zero, suc, ◌≤◌}
use Rattle.paper_table.specs.Types.{Table}
use Rattle.paper_query.specs.Constructs.{Doc, count, parent_of}
use Rattle.paper_query.specs.PlaceTypes.{Shape, place_from, place_by, place}
use Rattle.paper_query.proofs.Climbing.{ParentsBefore, row_none, climb, climb_none, climb_step}

module _ (t : Table) (d : Doc) where
  place_climbs : (f i : ℕ) → place_by t d f i ≡ climb (place_from t d) (parent_of d) f i
  unfolding place_by climb
  place_climbs zero i = refl
  place_climbs (suc f) i = ap (place_from t d i) (place_climbs f (parent_of d i))

  nothing_due : (i : ℕ) → count d ≤ i → (above : Option Shape) → place_from t d i above ≡ none
  unfolding place_from
  nothing_due i h above = rw (row_none d i h)

  module _ (before : ParentsBefore d) where
    pub place_step : (i : ℕ) → place t d i ≡ place_from t d i (place t d (parent_of d i))
    unfolding place
    place_step i = place_climbs (suc i) i ∙ climb_step d (place_from t d) before nothing_due i ∙ ap (place_from t d i) (sym (place_climbs (suc (parent_of d i)) (parent_of d i)))

    -- at a row that is not there no type is due
    pub place_none : (i : ℕ) → count d ≤ i → place t d i ≡ none
    unfolding place
    place_none i h = place_climbs (suc i) i ∙ climb_none d (place_from t d) before nothing_due (suc i) i h
