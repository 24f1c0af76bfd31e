-- What rule 14 says of a field, by its number, and by the type kept for the argument.
use mathlib.Core.Path.{◌≡◌, refl, ap}
use mathlib.Core.Bool.{Bool, true, false, not}
use mathlib.Core.Option.{Option, none, some}
use mathlib.Core.List.{List}
use Prim.Native.Nat.{ℕ, ◌≤◌, ◌<◌}
use native.Mathlib.Omega.{arith}
use lib.Dec.{eqb}
use borrow.Author.Tests.{eqb-true, eqb-false}
use Rattle.paper_table.specs.References.{found}
use Rattle.paper_table.specs.Types.{Argument, argument_named}
use Rattle.paper_query.specs.Enclosing.{FieldIs, typename, member, missing, unknown, argument_called}
use Rattle.paper_query.specs.Rule14Argument.{has_no_argument}
use Rattle.table_types.proofs.Objects.{any_found}
use Rattle.query_fields.specs.Kept.{field_typename, FieldKept}
use Rattle.query_place_types.specs.Shapes.{place_unknown, place_boolean, coded, argument_shape}
use Rattle.query_place_types.specs.declared.Place.{Place}
use Rattle.query_place_types.proofs.ShapeLaws.{coded_unknown, coded_boolean, coded_base}

module _ (n : List ℕ) where
  pub lacks_unknown : {t book es : List ℕ} (at : ℕ) (f : FieldIs) → FieldKept t book es f at → at < field_typename → has_no_argument f n ≡ false
  lacks_unknown at unknown k h = refl
  lacks_unknown at missing k h = refl
  lacks_unknown at typename k h = absurd (omega (arith, k.kept))
  lacks_unknown at (member m) k h = absurd (omega (arith, k.kept.first))

  -- a known field has the arguments that are found; `__typename` has none
  pub lacks_known : {t book es : List ℕ} (at : ℕ) (f : FieldIs) → FieldKept t book es f at → field_typename ≤ at → has_no_argument f n ≡ not (found (argument_called f n))
  lacks_known at unknown k h = absurd (omega (arith, k.kept))
  lacks_known at missing k h = absurd (omega (arith, k.kept))
  lacks_known at typename k h = refl
  lacks_known at (member m) k h = ap not (any_found (argument_named n) m.arguments)

-- an argument that is found has a type
pub shape_found : (o : Option Argument) → found (argument_shape o) ≡ found o
shape_found none = refl
shape_found (some x) = refl

-- a type is known where its first number is not 0
pub coded_found : (t es : List ℕ) (p : Place) → not (found (coded t es p)) ≡ eqb p.at place_unknown
coded_found t es p = go (eqb p.at place_unknown) refl (eqb p.at place_boolean) refl
  where
    go : (a : Bool) → eqb p.at place_unknown ≡ a → (b : Bool) → eqb p.at place_boolean ≡ b → not (found (coded t es p)) ≡ a
    go true q b r = rw (coded_unknown t es p (eqb-true p.at place_unknown q))
    go false q true r = rw (coded_boolean t es p (eqb-true p.at place_boolean r))
    go false q false r = rw (coded_base t es p (omega (arith, eqb-false p.at place_unknown q, eqb-false p.at place_boolean r)))
