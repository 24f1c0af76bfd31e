-- Variables that are alike: of the same name, place and owner. What operations say of the one they say of the other.
use mathlib.Core.Path.{◌≡◌, refl, sym, ap, subst, ◌∙◌}
use mathlib.Core.Logic.{⊎_elim}
use mathlib.Core.List.{List}
use Prim.Native.Nat.{ℕ, ◌<◌}
use native.Mathlib.Omega.{arith}
use lib.ListN.{get_or}
use lib.Dec.{eqb→eq}
use Rattle.paper.specs.Numbers.{kind_operation, kind_variable}
use Rattle.paper_table.specs.Types.{Table, table_of}
use Rattle.paper_query.specs.QueryNumbers.{rule_undefined, rule_variable_type}
use Rattle.paper_query.specs.Constructs.{Doc, count, is, kind_of, name_of}
use Rattle.paper_query.specs.PlaceTypes.{place}
use Rattle.paper_query.specs.Reaching.{Within, Reaches}
use Rattle.paper_query.specs.Reaching.Reaches.{here, through}
use Rattle.query_rows.specs.Rowed.{doc_of, row_in, room_of}
use Rattle.query_rows.proofs.RowsIn.{rows_count}
use Rattle.query_rows.proofs.Rooms.{room_enough}
use Rattle.query_spreads.specs.Owners.{Defines, Owned}
use Rattle.query_spreads.proofs.OwnerLaws.{row_within, definition_within, operation_defines}
use Rattle.query_reach_pass.proofs.DrawLaws.{draws_defines}
use Rattle.query_reach.proofs.DrawLaws.{reaches_either}
use Rattle.query_place_types.specs.Shapes.{coded}
use Rattle.query_places.proofs.PlacedLaws.{in_row, placed_at}
use Rattle.query_alike_pair.specs.Alike.{verdict_of, Reaching, Said, Unsaid, Alike, Unlinked}

-- what reaches a row is told by its owner
module _ (d : Doc) (owner : List ℕ) (w : Owned d owner) (i j : ℕ) (l : i < count d) (m : j < count d) (q : get_or owner i 0 ≡ get_or owner j 0) where
  within_alike : (a : ℕ) → Defines d a → Within d a i → Within d a j
  within_alike a h v =
      let e : get_or owner j 0 ≡ a = sym q ∙ (w.owns i l).sole a h v in
      subst (λ (k : ℕ). Within d k j) e ((w.owns j m).stands (omega (arith, e, definition_within d a h)))

  reaches_alike : (o : ℕ) → Defines d o → Reaches d o i → Reaches d o j
  reaches_alike o h x =
      ⊎_elim (λ v. here (within_alike o h v)) (λ v. through v.1.reaches v.1.spreads (within_alike v.0 (draws_defines d o v.0 v.1) v.2)) (reaches_either d o i x)

  pub reaching_alike : (o : ℕ) → Reaching d o i → Reaching d o j
  reaching_alike o r =
      record { operation = r.operation; reaches = reaches_alike o (operation_defines d o (eqb→eq (kind_of d o) kind_operation r.operation)) r.reaches }

-- what an operation says of a variable depends on its name and its place
module _ (t : Table) (d : Doc) (i j : ℕ) (e : name_of d i ≡ name_of d j) (p : place t d i ≡ place t d j) where
  verdict_alike : (o : ℕ) → verdict_of t d o i ≡ verdict_of t d o j
  unfolding verdict_of
  verdict_alike o = rw (e, p)

  module _ (to : (o : ℕ) → Reaching d o i → Reaching d o j) (from : (o : ℕ) → Reaching d o j → Reaching d o i) where
    said_alike : (k : ℕ) → Said t d j k → Said t d i k
    said_alike k x = record { at = x.at; reaching = from x.at x.reaching; says = verdict_alike x.at ∙ x.says }

    unsaid_alike : (m k : ℕ) → Unsaid t d m j k → Unsaid t d m i k
    unsaid_alike m k u o h r z = u o h (to o r) (sym (verdict_alike o) ∙ z)

    least_alike : Alike t d i j
    least_alike m f x = record {
      undefined = λ z. said_alike rule_undefined (x.undefined z);
      differs = λ z. said_alike rule_variable_type (x.differs z);
      no_undefined = λ z. unsaid_alike m rule_undefined (x.no_undefined z);
      no_differs = λ z. unsaid_alike m rule_variable_type (x.no_differs z);
      known = x.known;
    }

-- a variable is a row
pub variable_within : (d : Doc) (i : ℕ) → kind_of d i ≡ kind_variable → i < count d
variable_within d i e = row_within d (is kind_variable) i refl (rw e tt)

-- a variable is one of the rows, and in room
pub variable_room : {t s rows : List ℕ} {n : ℕ} {at es wrappers owner : List ℕ} → Unlinked t s rows n at es wrappers owner → (i : ℕ) → (row_in rows n i).kind ≡ kind_variable → i < room_of n
variable_room {s = s} {rows = rows} {n = n} u i k = omega (arith, variable_within (doc_of s rows n) i k, rows_count rows n, room_enough n u.rowed.few)

-- two variables of a document, by the numbers that are kept of them
module _ (t s rows : List ℕ) (n : ℕ) (at es wrappers owner : List ℕ) (u : Unlinked t s rows n at es wrappers owner) where
  abbrev d : Doc
  d = doc_of s rows n

  variable_below : (i : ℕ) → (row_in rows n i).kind ≡ kind_variable → i < n
  variable_below i k = omega (arith, variable_within d i k, rows_count rows n)

  place_kept : (i : ℕ) → (row_in rows n i).kind ≡ kind_variable → place (table_of t) d i ≡ coded t es (record { at = get_or at i 0; wrappers = get_or wrappers i 0 })
  place_kept i k = (placed_at t u.placed.book es s rows n u.rowed at wrappers u.placed.all i).is ∙ ap (coded t es) (in_row rows n at wrappers i (variable_below i k) (rw k))

  pub alike : (i j : ℕ) → (row_in rows n i).kind ≡ kind_variable → (row_in rows n j).kind ≡ kind_variable → get_or owner i 0 ≡ get_or owner j 0 → get_or at i 0 ≡ get_or at j 0 → get_or wrappers i 0 ≡ get_or wrappers j 0 → name_of d i ≡ name_of d j → Alike (table_of t) d i j
  alike i j k l o a c e =
      let x = variable_within d i k in
      let y = variable_within d j l in
      let z : place (table_of t) d i ≡ coded t es (record { at = get_or at j 0; wrappers = get_or wrappers j 0 }) = rw (← a, ← c) (place_kept i k) in
      least_alike (table_of t) d i j e (z ∙ sym (place_kept j l)) (reaching_alike d owner u.owned i j x y o) (reaching_alike d owner u.owned j i y x (sym o))
