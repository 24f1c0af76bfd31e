-- The first row of a list that passes a test, whether one does, and the numbers of those that do.
use mathlib.Core.Path.{◌≡◌, refl, sym, ap, ◌∙◌, subst}
use mathlib.Core.Logic.{◌⊎◌, inl, inr}
use mathlib.Core.Bool.{Bool, true, false, true≢false, not, ◌||◌, cond}
use mathlib.Core.List.{List, [], ◌∷◌, ◌++◌, nil≢cons, head-eq_of_cons-eq}
use Prim.Native.Nat.{ℕ, zero, suc, ◌+◌, ◌<◌}
use native.Mathlib.Omega.{arith}
use lib.Dec.{T}
use lib.ListN.{length, get_or}
use Rattle.paper.specs.Rows.{Row}
use Rattle.paper.proofs.Bools.{or_cases, T→eq, eq→t as holds, or_no_right as or_false}
use Rattle.paper_table.specs.Lists.{any_of, first_at, each_from, only_if}
use Rattle.paper_query.specs.Constructs.{no_row}

-- what is not wrong is right
pub right : (b : Bool) → (T (not b) → ⊥) → T b
right true f = tt
right false f = f tt

pub any_none : (p : Row → Bool) → p no_row ≡ false → (rs : List Row) → any_of p rs ≡ false → (j : ℕ) → T (p (get_or rs j no_row)) → ⊥
unfolding any_of
any_none p z [] e j h = subst T z h
any_none p z (r ∷ rs) e zero h = true≢false (sym (ap (λ (b : Bool). b || any_of p rs) (T→eq (p r) h)) ∙ e)
any_none p z (r ∷ rs) e (suc j) h = any_none p z rs (or_false (p r) (any_of p rs) e) j h

pub any_some : (p : Row → Bool) (rs : List Row) → T (any_of p rs) → (j : ℕ) × T (p (get_or rs j no_row))
unfolding any_of
any_some p [] h = absurd h
any_some p (r ∷ rs) h = go (or_cases (p r) (any_of p rs) h) (any_some p rs)
  where
    go : T (p r) ⊎ T (any_of p rs) → (T (any_of p rs) → (j : ℕ) × T (p (get_or rs j no_row))) → (j : ℕ) × T (p (get_or (r ∷ rs) j no_row))
    go (inl x) f = (0, x)
    go (inr x) f = let s = f x in (suc s.0, s.1)

pub first_passes : (p : Row → Bool) (rs : List Row) → first_at p rs < length rs → T (p (get_or rs (first_at p rs) no_row))
unfolding first_at
first_passes p [] l = absurd (omega arith)
first_passes p (r ∷ rs) l = go (p r) refl l (first_passes p rs)
  where
    go : (b : Bool) → p r ≡ b → cond b 0 (suc (first_at p rs)) < suc (length rs) → (first_at p rs < length rs → T (p (get_or rs (first_at p rs) no_row))) → T (p (get_or (r ∷ rs) (cond b 0 (suc (first_at p rs))) no_row))
    go true e l f = holds (p r) e
    go false e l f = f (omega arith)

-- the first of the numbers of those that pass
pub first_number : (p : Row → Bool) (rs : List Row) (i a : ℕ) (bs : List ℕ) → each_from i (λ j r. only_if (p r) j) rs ≡ a ∷ bs → (a ≡ i + first_at p rs) × T (p (get_or rs (first_at p rs) no_row))
unfolding each_from first_at
first_number p [] i a bs e = absurd (nil≢cons e)
first_number p (r ∷ rs) i a bs e = go (p r) refl e (first_number p rs (suc i) a bs)
  where
    others : List ℕ
    others = each_from (suc i) (λ j r. only_if (p r) j) rs

    go : (b : Bool) → p r ≡ b → only_if b i ++ others ≡ a ∷ bs → (others ≡ a ∷ bs → (a ≡ suc i + first_at p rs) × T (p (get_or rs (first_at p rs) no_row)))
        → (a ≡ i + cond b 0 (suc (first_at p rs))) × T (p (get_or (r ∷ rs) (cond b 0 (suc (first_at p rs))) no_row))
    go true q e f = let z = head-eq_of_cons-eq e in (omega arith, holds (p r) q)
    go false q e f = let s = f e in let z = s.0 in (omega arith, s.1)
