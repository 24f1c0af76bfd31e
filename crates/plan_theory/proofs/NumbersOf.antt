-- The numbers of the rows that pass a test: which they are, and the place of a row among them.
use mathlib.Core.Path.{◌≡◌, refl, sym, ap, ◌∙◌, subst}
use mathlib.Core.Bool.{Bool, true, false, cond, ◌&&◌, ◌||◌}
use mathlib.Core.List.{List, [], ◌∷◌, ◌++◌}
use mathlib.Core.Logic.{◌⊎◌, inl, inr}
use Prim.Native.Nat.{ℕ, zero, suc, ◌+◌, ◌<◌}
use native.Mathlib.Nat.{add-zero}
use native.Mathlib.Omega.{arith}
use lib.ListN.{length, get_or}
use lib.Dec.{eqb}
use borrow.Author.Tests.{eqb-true, eq-eqb}
use Rattle.paper.specs.Rows.{Row}
use Rattle.paper_table.specs.Lists.{first_at, gather, each_from, only_if}
use Rattle.paper_query.specs.Constructs.{Doc, count, row_of, no_row}
use Rattle.paper_plan.specs.Collecting.{elem}
use Rattle.paper_query.specs.Constructs.{numbers_where}
use Rattle.paper_plan.specs.Selecting.{rows_where}
use Rattle.plan_theory.proofs.Same.{clash}

pub or_l : {a : Bool} (b : Bool) → a ≡ true → (a || b) ≡ true
or_l b h = ap (λ (x : Bool). x || b) h

pub or_r : {b : Bool} (a : Bool) → b ≡ true → (a || b) ≡ true
or_r true h = refl
or_r false h = h

pub or_case : (a b : Bool) → (a || b) ≡ true → (a ≡ true) ⊎ (b ≡ true)
or_case true b h = inl refl
or_case false b h = inr h

module _ (p : Row → Bool) where
  abbrev numbers : ℕ → List Row → List ℕ
  numbers i rs = each_from i (λ j r. only_if (p r) j) rs

  abbrev Kept : ℕ → ℕ → List Row → Type 0
  Kept x i rs = (k : ℕ) × (x ≡ i + k) × (k < length rs) × (p (get_or rs k no_row) ≡ true)

  kept : (rs : List Row) (i x : ℕ) → elem eqb x (numbers i rs) ≡ true → Kept x i rs
  unfolding each_from
  kept [] i x h = clash (sym h)
  kept (r ∷ rs) i x h = go (p r) refl h (λ (u : elem eqb x (numbers (suc i) rs) ≡ true). kept rs (suc i) x u)
    where
      up : Kept x (suc i) rs → Kept x i (r ∷ rs)
      up q = (suc q.0, omega (arith, q.1), omega (arith, q.2), q.3)

      on : p r ≡ true → (eqb x i ≡ true) ⊎ (elem eqb x (numbers (suc i) rs) ≡ true) → (elem eqb x (numbers (suc i) rs) ≡ true → Kept x (suc i) rs) → Kept x i (r ∷ rs)
      on e (inl u) f = (0, eqb-true x i u ∙ sym (add-zero i), omega arith, e)
      on e (inr u) f = up (f u)

      go : (b : Bool) → p r ≡ b → elem eqb x (only_if b i ++ numbers (suc i) rs) ≡ true → (elem eqb x (numbers (suc i) rs) ≡ true → Kept x (suc i) rs) → Kept x i (r ∷ rs)
      go true e h f = on e (or_case (eqb x i) (elem eqb x (numbers (suc i) rs)) h) f
      go false e h f = up (f h)

  keeps : (rs : List Row) (i k : ℕ) → k < length rs → p (get_or rs k no_row) ≡ true → elem eqb (i + k) (numbers i rs) ≡ true
  unfolding each_from
  keeps [] i k h e = absurd (omega arith)
  keeps (r ∷ rs) i zero h e = rw e (or_l (elem eqb (i + zero) (numbers (suc i) rs)) (eq-eqb (i + zero) i (omega arith)))
  keeps (r ∷ rs) i (suc k) h e = go (p r) (let z : suc i + k ≡ i + suc k = omega arith in subst (λ (y : ℕ). elem eqb y (numbers (suc i) rs) ≡ true) z (keeps rs (suc i) k (omega arith) e))
    where
      go : (b : Bool) → elem eqb (i + suc k) (numbers (suc i) rs) ≡ true → elem eqb (i + suc k) (only_if b i ++ numbers (suc i) rs) ≡ true
      go true u = or_r (eqb (i + suc k) i) u
      go false u = u

  -- the place among those that pass of the first that passes q too
  placed_from : (q : Row → Bool) (rs : List Row) (i z : ℕ) → z ≡ i + length rs → get_or (numbers i rs) (first_at q (gather (λ r. only_if (p r) r) rs)) z ≡ i + first_at (λ r. p r && q r) rs
  unfolding each_from gather first_at
  placed_from q [] i z e = e
  placed_from q (r ∷ rs) i z e = go (p r) (q r) refl (placed_from q rs (suc i) z (omega arith))
    where
      go : (b c : Bool) → q r ≡ c → get_or (numbers (suc i) rs) (first_at q (gather (λ r. only_if (p r) r) rs)) z ≡ suc i + first_at (λ r. p r && q r) rs
          → get_or (only_if b i ++ numbers (suc i) rs) (first_at q (only_if b r ++ gather (λ r. only_if (p r) r) rs)) z ≡ i + cond (b && c) 0 (suc (first_at (λ r. p r && q r) rs))
      go true true f ih = rw f (sym (add-zero i))
      go true false f ih = rw f (omega arith)
      go false c f ih = omega arith

  module _ (d : Doc) where
    pub where_kept : (x : ℕ) → elem eqb x (numbers_where p d) ≡ true → (x < count d) × (p (row_of d x) ≡ true)
    unfolding numbers_where
    where_kept x h =
        let k = kept d.rows 0 x h in
        let z : k.0 ≡ x = omega (arith, k.1) in
        (omega (arith, k.2), subst (λ (y : ℕ). p (row_of d y) ≡ true) z k.3)

    pub where_keeps : (x : ℕ) → x < count d → p (row_of d x) ≡ true → elem eqb x (numbers_where p d) ≡ true
    unfolding numbers_where
    where_keeps x h e = let z : 0 + x ≡ x = omega arith in subst (λ (y : ℕ). elem eqb y (numbers_where p d) ≡ true) z (keeps d.rows 0 x h e)

    pub where_placed : (q : Row → Bool) → get_or (numbers_where p d) (first_at q (rows_where p d)) (count d) ≡ first_at (λ r. p r && q r) d.rows
    unfolding numbers_where rows_where
    where_placed q = let z : 0 + first_at (λ r. p r && q r) d.rows ≡ first_at (λ r. p r && q r) d.rows = omega arith in placed_from q d.rows 0 (count d) (omega arith) ∙ z

-- all rows
numbers_size : (rs : List Row) (i : ℕ) → length (each_from i (λ j r. only_if true j) rs) ≡ length rs
unfolding each_from
numbers_size [] i = refl
numbers_size (r ∷ rs) i = ap suc (numbers_size rs (suc i))

pub where_all : (d : Doc) → length (numbers_where (λ r. true) d) ≡ count d
unfolding numbers_where
where_all d = numbers_size d.rows 0
