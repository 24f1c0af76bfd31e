-- How many rows of a list pass a test, when a row is changed or put behind, and as the numbers of those that pass.
use mathlib.Core.Path.{◌≡◌, refl, ap}
use mathlib.Core.Bool.{Bool, true, false, cond}
use mathlib.Core.List.{List, [], ◌∷◌, ◌++◌}
use Prim.Native.Nat.{ℕ, zero, suc, ◌+◌, ◌≤◌}
use native.Mathlib.Omega.{arith}
use lib.ListN.{length, get_or}
use Rattle.paper.specs.Rows.{Row, change}
use Rattle.paper_table.specs.Lists.{each_from, only_if}
use Rattle.paper_query.specs.Constructs.{Doc, no_row, numbers_where}

abbrev pub at : List Row → ℕ → Row
at rs i = get_or rs i no_row

abbrev pub one : Bool → ℕ
one b = cond b 1 0

unfoldable pub tally : (Row → Bool) → List Row → ℕ
tally p [] = 0
tally p (r ∷ rs) = one (p r) + tally p rs

-- a row changed counts once at most
pub tally_change : (p : Row → Bool) (f : Row → Row) (k : ℕ) (rs : List Row) → tally p (change f k rs) ≤ tally p rs + one (p (f (at rs k)))
unfolding tally
tally_change p f k [] = omega arith
tally_change p f zero (r ∷ rs) = omega arith
tally_change p f (suc k) (r ∷ rs) = let h = tally_change p f k rs in omega arith

-- and not at all where the test sees nothing of the change
pub tally_same : (p : Row → Bool) (f : Row → Row) → ((r : Row) → p (f r) ≡ p r) → (k : ℕ) (rs : List Row) → tally p (change f k rs) ≡ tally p rs
unfolding tally
tally_same p f g k [] = refl
tally_same p f g zero (r ∷ rs) = ap (λ (b : Bool). one b + tally p rs) (g r)
tally_same p f g (suc k) (r ∷ rs) = ap (λ (n : ℕ). one (p r) + n) (tally_same p f g k rs)

-- a row behind that does not pass
pub tally_append : (p : Row → Bool) (rs : List Row) (r : Row) → p r ≡ false → tally p (rs ++ (r ∷ [])) ≡ tally p rs
unfolding tally
tally_append p [] r e = ap (λ (b : Bool). one b + 0) e
tally_append p (x ∷ rs) r e = ap (λ (n : ℕ). one (p x) + n) (tally_append p rs r e)

numbers_size : (p : Row → Bool) (rs : List Row) (i : ℕ) → length (each_from i (λ j r. only_if (p r) j) rs) ≡ tally p rs
unfolding each_from tally
numbers_size p [] i = refl
numbers_size p (r ∷ rs) i = go (p r) (numbers_size p rs (suc i))
  where
    go : (b : Bool) → length (each_from (suc i) (λ j r. only_if (p r) j) rs) ≡ tally p rs → length (only_if b i ++ each_from (suc i) (λ j r. only_if (p r) j) rs) ≡ one b + tally p rs
    go true h = omega arith
    go false h = omega arith

pub numbers_tally : (p : Row → Bool) (d : Doc) → length (numbers_where p d) ≡ tally p d.rows
unfolding numbers_where
numbers_tally p d = numbers_size p d.rows 0

-- a row's parent, where no change is of a parent
pub parent_same : (f : Row → Row) → ((r : Row) → (f r).parent ≡ r.parent) → (k i : ℕ) (rs : List Row) → (at (change f k rs) i).parent ≡ (at rs i).parent
parent_same f g k i [] = refl
parent_same f g zero zero (r ∷ rs) = g r
parent_same f g zero (suc i) (r ∷ rs) = refl
parent_same f g (suc k) zero (r ∷ rs) = refl
parent_same f g (suc k) (suc i) (r ∷ rs) = parent_same f g k i rs
