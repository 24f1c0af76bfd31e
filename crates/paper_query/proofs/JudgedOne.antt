-- One thing only is said of a document: of two least breaks neither comes after the other.
use mathlib.Core.Path.{◌≡◌, refl, ap₂}
use mathlib.Core.Logic.{inl, inr}
use Prim.Native.Nat.{ℕ}
use native.Mathlib.Omega.{arith}
use Rattle.paper_table.specs.Types.{Table}
use Rattle.paper_query.specs.Constructs.{Doc}
use Rattle.paper_query.specs.QueryRules.{NotAfter, Judged, no_break, least_break}
use Rattle.paper_query.specs.declared.QueryAnswer.{QueryAnswer}
use Rattle.paper_query.specs.declared.QueryAnswer.TheVariants.{Breaks}

not_after_one : (i k j l : ℕ) → NotAfter i k j l → NotAfter j l i k → (i ≡ j) × (k ≡ l)
not_after_one i k j l (inl h) (inl g) = let z : ⊥ = omega arith in absurd z
not_after_one i k j l (inl h) (inr g) = let z : ⊥ = omega arith in absurd z
not_after_one i k j l (inr h) (inl g) = let z : ⊥ = omega arith in absurd z
not_after_one i k j l (inr h) (inr g) = (omega arith, omega arith)

pub judged_one : {t : Table} {d : Doc} {a b : QueryAnswer} → Judged t d a → Judged t d b → a ≡ b
judged_one (no_break h) (no_break g) = refl
judged_one (no_break h) (least_break {i} {k} b m) = absurd (h i k b)
judged_one (least_break {i} {k} b m) (no_break h) = absurd (h i k b)
judged_one (least_break {i} {k} b m) (least_break {i = j} {k = l} c n) =
    let e = not_after_one i k j l (m j l c) (n i k b) in
    ap₂ Breaks e.0 e.1
