-- The plan's numbers: three to a step from place 2,050 on; and what the walk's buffers hold.
use Rattle.std.specs.Prelude.{◌≡◌, List, ℕ, ◌+◌, ◌*◌, ◌-◌, ◌≤◌, ◌<◌, ◌⊎◌, length, get_or, take, eqb}
use Rattle.paper_plan.specs.Collecting.{elem, Pair}
use Rattle.paper_plan.specs.Planning.{State, walk}
pub use Rattle.paper_plan.specs.LentPlan.{step_at, is_one, pair_numbers}
unfoldable pub use Rattle.paper_plan.specs.LentPlan.{test_of, step_of, steps_from}

-- a step of a well-formed plan, in a block that ends at `end`
pub record Formed (p : List ℕ) (end i : ℕ) : Type 0 where
  pub low : 1 ≤ get_or p (2050 + 3 * i) 0
  pub high : get_or p (2050 + 3 * i) 0 ≤ 5
  pub type : get_or p (2050 + 3 * i) 0 ≡ 3 → get_or p (2051 + 3 * i) 0 < 256
  pub index : (get_or p (2050 + 3 * i) 0 ≡ 3 → ⊥) → (get_or p (2050 + 3 * i) 0 ≡ 5 → ⊥) → get_or p (2051 + 3 * i) 0 < 64
  pub ahead : (get_or p (2050 + 3 * i) 0 ≡ 5 → ⊥) → i < get_or p (2052 + 3 * i) 0
  pub within : (get_or p (2050 + 3 * i) 0 ≡ 5 → ⊥) → get_or p (2052 + 3 * i) 0 ≤ end

-- the marks' bytes, and the fragments met
abbrev pub Marks : List ℕ → List ℕ → Type 0
Marks m l = (f : ℕ) → f < 64 → is_one m f ≡ elem eqb f l

-- the first n pairs of a buffer are o
pub record Listed (b : List ℕ) (n : ℕ) (o : List Pair) : Type 0 where
  pub said : take (2 * n) b ≡ pair_numbers o
  pub size : length o ≡ n

-- what a walk from the state s gives: over 512 pairs, 513 is told; else the count, and the buffers hold the state after
pub record Over (r : ℕ) (s : State) : Type 0 where
  pub told : r ≡ 513
  pub many : 512 < length s.out

pub record Held (r : ℕ) (m b : List ℕ) (s : State) : Type 0 where
  pub marks : Marks m s.met
  pub listed : Listed b r s.out
  pub few : r ≤ 512

-- what the walk of the steps from `from` up to `end` asks for
pub record Ready (p : List ℕ) (from end : ℕ) (vars fits met out : List ℕ) (n : ℕ) : Type 0 where
  pub long : 14338 ≤ length p
  pub order : from ≤ end
  pub top : end ≤ 4096
  pub vars_long : 64 ≤ length vars
  pub fits_long : 256 ≤ length fits
  pub met_long : 64 ≤ length met
  pub out_long : 1024 ≤ length out
  pub few : n ≤ 512
  pub formed : (i : ℕ) → from ≤ i → i < end → Formed p end i

abbrev pub block_walk : List ℕ → ℕ → ℕ → List ℕ → List ℕ → List ℕ → List Pair → State
block_walk p from end vars fits l o = walk (is_one vars) (is_one fits) (steps_from p from (end - from)) from 0 record { met = l; out = o }

-- and what it gives: whatever fragments the marks stand for, and whatever pairs the buffer held
abbrev pub Walked : List ℕ → ℕ → ℕ → List ℕ → List ℕ → List ℕ → List ℕ → ℕ → List ℕ → List ℕ → ℕ → Type 0
Walked p from end vars fits met out n met' out' r = (l : List ℕ) (o : List Pair) → Marks met l → Listed out n o
    → Over r (block_walk p from end vars fits l o) ⊎ Held r met' out' (block_walk p from end vars fits l o)
