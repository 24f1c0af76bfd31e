-- What the rules say of a field, by its number.
use mathlib.Core.Path.{◌≡◌, refl, sym, ap}
use mathlib.Core.Bool.{Bool, true, false, not, cond}
use mathlib.Core.List.{List}
use Prim.Native.Nat.{ℕ, zero, suc, ◌<◌, ◌≤◌}
use native.Mathlib.Omega.{arith}
use lib.Dec.{eqb}
use borrow.Author.Tests.{ne_eqb}
use Rattle.paper_table.specs.References.{base_of, found}
use Rattle.paper_table.specs.Types.{Table}
use Rattle.paper_query.specs.Enclosing.{FieldIs, typename, member, missing, unknown, selections_type}
use Rattle.paper_query.specs.Rule5Field.{is_missing}
use Rattle.paper_query.specs.Rule6Leaf.{unlike}
use Rattle.paper_query.proofs.EnclosingLaws.{composite_found}
use Rattle.query_types.specs.Coded.{type_coded}
use Rattle.query_fields.specs.Kept.{field_missing, field_typename, FieldKept}

pub kept_misses : {t book es : List ℕ} (at : ℕ) (f : FieldIs) → FieldKept t book es f at → is_missing f ≡ eqb at field_missing
kept_misses at unknown k = rw k.kept
kept_misses at missing k = rw k.kept
kept_misses at typename k = rw k.kept
kept_misses at (member m) k = sym (ne_eqb at field_missing (λ z. omega (arith, k.kept.first)))

-- rule 6: by whether the type inside is one
module _ (x : Table) where
  pub leaf_unknown : {t book es : List ℕ} (at : ℕ) (f : FieldIs) → FieldKept t book es f at → (selects : Bool) → at < field_typename → unlike x f selects ≡ false
  leaf_unknown at unknown k selects h = refl
  leaf_unknown at missing k selects h = refl
  leaf_unknown at typename k selects h = absurd (omega (arith, k.kept))
  leaf_unknown at (member m) k selects h = absurd (omega (arith, k.kept.first))

  pub leaf_known : {t book es : List ℕ} (at : ℕ) (f : FieldIs) → FieldKept t book es f at → (selects : Bool) → field_typename ≤ at
      → unlike x f selects ≡ cond selects (not (found (selections_type x f))) (found (selections_type x f))
  leaf_known at unknown k selects h = absurd (omega (arith, k.kept))
  leaf_known at missing k selects h = absurd (omega (arith, k.kept))
  leaf_known at typename k true h = refl
  leaf_known at typename k false h = refl
  leaf_known at (member m) k true h = ap not (sym (composite_found x (base_of m.type)))
  leaf_known at (member m) k false h = sym (composite_found x (base_of m.type))

-- the number of a type is 0 if and only if there is none
pub type_found : (c : ℕ) → found (type_coded c) ≡ not (eqb c 0)
type_found zero = refl
type_found (suc k) = sym (ap not (ne_eqb (suc k) 0 (λ z. omega arith)))
