-- What is told where nothing is given; and which constants are no more than null.
use mathlib.Core.Path.{◌≡◌, refl, sym, ap, subst, ◌∙◌}
use mathlib.Core.Bool.{Bool, true, false, cond}
use mathlib.Core.List.{List}
use Prim.Native.Nat.{ℕ, ◌+◌, ◌%◌, ◌≤◌}
use native.Mathlib.Omega.{arith}
use borrow.Author.Tests.{eqb-true, eqb-false}
use Rattle.paper.specs.Numbers.{kind_variable, kind_null}
use Rattle.paper_table.specs.References.{Ref, named, list_of, non_null, is_non_null}
use Rattle.table_fields.specs.Wrappers.{pack_of}
use Rattle.paper_values.specs.ValueNumbers.{reason_missing}
use Rattle.paper_values.specs.Values.{Due, no_pairs, Got, No}
use Rattle.paper_values.specs.Computed.{missing_due}
use Rattle.value_writing.proofs.EncodedLaws.{no_pairs_put}
use Rattle.std.proofs.Common.{Ok}
use Rattle.value_kinds.specs.Dues.{placed_at, refused}
use Rattle.value_held.specs.Given.{ToldPairs}
use mathlib.Core.Logic.{◌⊎◌, inl, inr}
use lib.Dec.{eqb}
use Rattle.query_rows.specs.Rowed.{Decides}

lack_is : (r : Ref) → pack_of r % 4 ≡ 2 → is_non_null r ≡ true
unfolding pack_of
lack_is (named n) e = absurd (omega (arith, e))
lack_is (list_of r) e = absurd (omega (arith, e))
lack_is (non_null r) e = refl

lack_not : (r : Ref) → (pack_of r % 4 ≡ 2 → ⊥) → is_non_null r ≡ false
unfolding pack_of
lack_not (named n) e = refl
lack_not (list_of r) e = refl
lack_not (non_null r) e = absurd (e (omega arith))

module _ (text limit from h w : ℕ) (δ : Due) (p : List ℕ) (e : pack_of δ.type ≡ w) where
  pub lack_refused : w % 4 ≡ 2 → ToldPairs text limit (missing_due (placed_at text h) δ (Got no_pairs)) from p p (refused h reason_missing)
  lack_refused q = subst (λ (b : Bool). ToldPairs text limit (cond b (No (placed_at text h) reason_missing) (Got no_pairs)) from p p (refused h reason_missing)) (sym (lack_is δ.type (ap (λ (x : ℕ). x % 4) e ∙ q))) (refl, refl)

  pub lack_nothing : (w % 4 ≡ 2 → ⊥) → from ≤ limit + 1 → ToldPairs text limit (missing_due (placed_at text h) δ (Got no_pairs)) from p p (Ok from)
  lack_nothing q l = subst (λ (b : Bool). ToldPairs text limit (cond b (No (placed_at text h) reason_missing) (Got no_pairs)) from p p (Ok from)) (sym (lack_not δ.type (λ (z : pack_of δ.type % 4 ≡ 2). q (ap (λ (x : ℕ). x % 4) (sym e) ∙ z))))
      (from, refl, no_pairs_put limit from p l)

-- the value of a row is null or a variable, or it is neither
pub null_decides : (kind row : ℕ) → kind ≡ row → (kind ≡ kind_null → ⊥) → Decides (eqb kind kind_variable) ((row ≡ kind_null) ⊎ (row ≡ kind_variable))
null_decides kind row p q = go (eqb kind kind_variable) refl
  where
    other : (kind ≡ kind_variable → ⊥) → (row ≡ kind_null) ⊎ (row ≡ kind_variable) → ⊥
    other z (inl e) = q (p ∙ e)
    other z (inr e) = z (p ∙ e)

    go : (b : Bool) → eqb kind kind_variable ≡ b → Decides b ((row ≡ kind_null) ⊎ (row ≡ kind_variable))
    go true e = inr (sym p ∙ eqb-true kind kind_variable e)
    go false e = other (eqb-false kind kind_variable e)
