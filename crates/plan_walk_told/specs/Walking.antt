-- What the parts of a walk answer, to be joined to the call's own statement.
-- Assumes nothing.
use Rattle.std.specs.Prelude.{◌≡◌, ◌⊎◌, List, [], ◌∷◌, ◌++◌, ℕ, ◌*◌, ◌-◌, ◌≤◌, ◌<◌, length, replicate}
use Rattle.paper.specs.Numbers.{report_size, accepted}
use Rattle.paper.specs.Calls.{filled}
use Rattle.paper_table.specs.Types.{Table}
use Rattle.paper_plan.specs.LentPlan.{pair_numbers}
use Rattle.paper_plan.specs.WalkNumbers.{most_pairs, pairs_size, refuse_too_many_pairs}
use Rattle.paper_plan.specs.WalkCalls.{listed}

-- the pairs and zeros, and their count n; or they are too many, and all are zeros
pub record Few (t : Table) (plan : List ℕ) (object : ℕ) (blocks variables pairs : List ℕ) (n : ℕ) : Type 0 where
  pub few : n ≤ most_pairs
  pub count : length (listed t plan object blocks variables) ≡ n
  pub written : pairs ≡ pair_numbers (listed t plan object blocks variables) ++ replicate (pairs_size - 2 * n) 0

pub record Many (t : Table) (plan : List ℕ) (object : ℕ) (blocks variables pairs : List ℕ) (n : ℕ) : Type 0 where
  pub over : most_pairs < n
  pub many : most_pairs < length (listed t plan object blocks variables)
  pub zeros : pairs ≡ replicate pairs_size 0

abbrev pub Pairs : Table → List ℕ → ℕ → List ℕ → List ℕ → List ℕ → ℕ → Type 0
Pairs t plan object blocks variables pairs n = Many t plan object blocks variables pairs n ⊎ Few t plan object blocks variables pairs n

-- what is told of n pairs
pub record Told (n : ℕ) (report report' : List ℕ) (r : ℕ) : Type 0 where
  pub too_many : most_pairs < n → (r ≡ refuse_too_many_pairs) × (report' ≡ filled report_size (refuse_too_many_pairs ∷ []) report)
  pub counted : n ≤ most_pairs → (r ≡ accepted) × (report' ≡ filled report_size (accepted ∷ n ∷ []) report)
