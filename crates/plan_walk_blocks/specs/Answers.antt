-- The plan that lent numbers say, the walk over its blocks, and the pairs grouped.
-- Assumes nothing.
use Rattle.std.specs.Prelude.{◌≡◌, Bool, false, ◌||◌, ◌⊎◌, List, [], ◌∷◌, ◌++◌, ℕ, zero, suc, ◌+◌, ◌*◌, ◌-◌, ◌≤◌, ◌<◌, length, get_or, replicate, eqb}
use Rattle.paper_plan.specs.Collecting.{Pair}
use Rattle.paper_plan.specs.Planning.{State, block_of, walk, blocks, walk_answer}
use Rattle.paper_plan.specs.PlanNumbers.{plan_size, most_blocks, most_steps, blocks_in, steps_in, first_in, end_in}
pub use Rattle.paper_plan.specs.LentPlan.{plan_in}
unfoldable pub use Rattle.paper_plan.specs.LentPlan.{firsts_from}
use Rattle.plan_walk_steps.specs.Numbers.{Formed, Marks, Listed, Over, Held, is_one, pair_numbers}
use Rattle.plan_walk_steps.proofs.TwoPass.{by_key, runs}

-- what a walk asks of a plan's numbers
pub record Walkable (p : List ℕ) : Type 0 where
  pub long : plan_size ≤ length p
  pub few_blocks : blocks_in p ≤ most_blocks
  pub few_steps : steps_in p ≤ most_steps
  pub order : (b : ℕ) → b < blocks_in p → first_in p b ≤ end_in p b
  pub top : (b : ℕ) → b < blocks_in p → end_in p b ≤ steps_in p
  pub formed : (b : ℕ) → b < blocks_in p → (i : ℕ) → first_in p b ≤ i → i < end_in p b → Formed p (end_in p b) i

-- and of its buffers
pub record Room (vars fits met out : List ℕ) : Type 0 where
  pub vars_long : 64 ≤ length vars
  pub fits_long : 256 ≤ length fits
  pub met_long : 64 ≤ length met
  pub out_long : 1024 ≤ length out

-- the state after a block
abbrev pub after_block : List ℕ → ℕ → List ℕ → List ℕ → State → State
after_block p b vars fits s = walk (is_one vars) (is_one fits) (block_of (plan_in p) b) (get_or (plan_in p).first b 0) 0 s

abbrev pub Walks : List ℕ → ℕ → List ℕ → List ℕ → List ℕ → List ℕ → ℕ → List ℕ → List ℕ → ℕ → Type 0
Walks p b vars fits met out n met' out' r = (l : List ℕ) (o : List Pair) → Marks met l → Listed out n o
    → Over r (after_block p b vars fits record { met = l; out = o }) ⊎ Held r met' out' (after_block p b vars fits record { met = l; out = o })

-- the state after all blocks, from no marks and no pairs
abbrev pub after_all : List ℕ → List ℕ → List ℕ → List ℕ → State
after_all p bs vars fits = blocks (is_one vars) (is_one fits) (plan_in p) bs record { met = []; out = [] }

abbrev pub Given : List ℕ → List ℕ → List ℕ → List ℕ → List ℕ → List ℕ → ℕ → Type 0
Given p bs vars fits met' out' r = Over r (after_all p bs vars fits) ⊎ Held r met' out' (after_all p bs vars fits)

-- n pairs of a buffer, from pair i on
abbrev pub key_in : List ℕ → ℕ → ℕ
key_in f i = get_or f (2 * i) 0

unfoldable pub pairs_from : List ℕ → ℕ → ℕ → List Pair
pairs_from f i zero = []
pairs_from f i (suc n) = (get_or f (2 * i) 0, get_or f (2 * i + 1) 0) ∷ pairs_from f (suc i) n

-- one of the first i pairs has this key
unfoldable pub before : List ℕ → ℕ → ℕ → Bool
before f zero k = false
before f (suc i) k = eqb k (key_in f i) || before f i k

abbrev pub Emitted : List ℕ → ℕ → ℕ → ℕ → List ℕ → ℕ → List ℕ → ℕ → Type 0
Emitted f i n k out m out' r = (o : List Pair) → Listed out m o → Listed out' r (o ++ by_key k (pairs_from f i (n - i)))

-- all pairs, grouped by key
abbrev pub Grouped : List ℕ → ℕ → List ℕ → Type 0
Grouped f n out = Listed out n (runs (λ k. false) (pairs_from f 0 n))

-- the answer of the plan for these blocks, and zeros; or it has over 512 pairs, and all are zeros
abbrev pub answer_of : List ℕ → List ℕ → List ℕ → List ℕ → List Pair
answer_of p bs vars fits = walk_answer (is_one vars) (is_one fits) (plan_in p) bs

pub record TooMany (p bs vars fits out : List ℕ) (r : ℕ) : Type 0 where
  pub told : r ≡ 513
  pub many : 512 < length (answer_of p bs vars fits)
  pub zeros : out ≡ replicate 1024 0

pub record Holds (p bs vars fits out : List ℕ) (r : ℕ) : Type 0 where
  pub few : r ≤ 512
  pub count : length (answer_of p bs vars fits) ≡ r
  pub written : out ≡ pair_numbers (answer_of p bs vars fits) ++ replicate (1024 - 2 * r) 0

abbrev pub Answered : List ℕ → List ℕ → List ℕ → List ℕ → List ℕ → ℕ → Type 0
Answered p bs vars fits out r = TooMany p bs vars fits out r ⊎ Holds p bs vars fits out r
