-- Rule 14 at an argument of a field, by what is kept of both.
use mathlib.Core.Path.{◌≡◌, sym, ap, ◌∙◌}
use mathlib.Core.Bool.{false, not}
use mathlib.Core.Option.{Option}
use mathlib.Core.List.{List}
use Prim.Native.Nat.{ℕ, ◌≤◌, ◌<◌}
use native.Mathlib.Decide.{dec_lt}
use native.Mathlib.Omega.{arith}
use lib.ListN.{get_or}
use lib.Dec.{eqb}
use Rattle.paper.specs.Numbers.{kind_field, kind_argument}
use Rattle.paper_table.specs.References.{found}
use Rattle.paper_table.specs.Types.{table_of}
use Rattle.paper_query.specs.Constructs.{parent_of, name_of}
use Rattle.paper_query.specs.Enclosing.{field_at, argument_called}
use Rattle.paper_query.specs.PlaceTypes.{Shape, place}
use Rattle.paper_query.specs.Rule14Argument.{has_no_argument}
use Rattle.paper_query.proofs.PlaceLaws.{place_step}
use Rattle.query_rows.specs.Rowed.{doc_of, row_in, Rowed}
use Rattle.query_rows.proofs.RowsIn.{row_none}
use Rattle.query_fields.specs.Kept.{field_typename, FieldKept}
use Rattle.query_inside.specs.Enclosed.{encloses}
use Rattle.query_inside.proofs.EnclosedLaws.{rowed_before}
use Rattle.query_place_types.specs.Shapes.{place_unknown, coded, argument_shape}
use Rattle.query_due_types.proofs.PlaceCases.{field_there, argument_of_field, from_argument}
use Rattle.query_places.specs.Placed.{Placed}
use Rattle.query_places.proofs.PlacedLaws.{in_row}
use Rattle.query_rule_14.proofs.CodedLaws.{lacks_unknown, lacks_known, shape_found, coded_found}

-- an argument is there
pub argument_there : (rows : List ℕ) (n i : ℕ) → (row_in rows n i).kind ≡ kind_argument → i < n
argument_there rows n i e = go (dec_lt i n)
  where
    go : Dec (i < n) → i < n
    go (yes h) = h
    go (no h) = absurd (omega (arith, rw (row_none rows n i (omega arith)) at e))

module _ (t s rows : List ℕ) (n : ℕ) (at es inside : List ℕ) (r : Rowed s rows n) (k : Placed t s rows n at es inside) (i : ℕ) (a : (row_in rows n i).kind ≡ kind_argument) (p : ℕ) (q : p ≡ (row_in rows n i).parent) (f : (row_in rows n p).kind ≡ kind_field) where
  field : FieldKept t k.book es (field_at (table_of t) (doc_of s rows n) p) (get_or at p 0)
  field = k.all.enclosed.fields p (field_there rows n p f) f

  pub unknown_field : get_or at p 0 < field_typename → false ≡ has_no_argument (field_at (table_of t) (doc_of s rows n) p) (name_of (doc_of s rows n) i)
  unknown_field h =
      sym (lacks_unknown (name_of (doc_of s rows n) i) (get_or at p 0) (field_at (table_of t) (doc_of s rows n) p) field h)

  no_inside : encloses (row_in rows n i).kind ≡ false
  no_inside = ap encloses a

  -- the type due at the argument, as it is kept
  place_is : place (table_of t) (doc_of s rows n) i ≡ argument_shape (argument_called (field_at (table_of t) (doc_of s rows n) p) (name_of (doc_of s rows n) i))
  place_is =
      place_step (table_of t) (doc_of s rows n) (rowed_before s rows n r) i
      ∙ from_argument (table_of t) (doc_of s rows n) i (place (table_of t) (doc_of s rows n) (parent_of (doc_of s rows n) i)) a
      ∙ argument_of_field (table_of t) (doc_of s rows n) i (ap (λ (x : ℕ). (row_in rows n x).kind) (sym q) ∙ f)
      ∙ ap (λ (x : ℕ). argument_shape (argument_called (field_at (table_of t) (doc_of s rows n) x) (name_of (doc_of s rows n) i))) (sym q)

  place_kept : place (table_of t) (doc_of s rows n) i ≡ coded t es (record { at = get_or at i 0; wrappers = get_or inside i 0 })
  place_kept =
      let h : i < n = argument_there rows n i a in
      (k.all.kept i h).is ∙ ap (coded t es) (in_row rows n at inside i h no_inside)

  lacks_is : field_typename ≤ get_or at p 0 → has_no_argument (field_at (table_of t) (doc_of s rows n) p) (name_of (doc_of s rows n) i) ≡ not (found (argument_called (field_at (table_of t) (doc_of s rows n) p) (name_of (doc_of s rows n) i)))
  lacks_is h = lacks_known (name_of (doc_of s rows n) i) (get_or at p 0) (field_at (table_of t) (doc_of s rows n) p) field h

  pub known_field : field_typename ≤ get_or at p 0 → eqb (get_or at i 0) place_unknown ≡ has_no_argument (field_at (table_of t) (doc_of s rows n) p) (name_of (doc_of s rows n) i)
  known_field h =
      sym (lacks_is h ∙ ap not (sym (shape_found (argument_called (field_at (table_of t) (doc_of s rows n) p) (name_of (doc_of s rows n) i)))) ∙ ap (λ (o : Option Shape). not (found o)) (sym place_is ∙ place_kept) ∙ coded_found t es (record { at = get_or at i 0; wrappers = get_or inside i 0 }))
