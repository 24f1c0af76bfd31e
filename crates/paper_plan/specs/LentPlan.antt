-- The plan that lent numbers say, the values that lent variables say, and pairs as numbers.
-- States: 01, "Plan and walk": "three a step: kind, first, second"; "Steps 1 to 4 hold a variable, record or fragment number, .., and the step to go to; 5 key number and
-- row"; "The variables are 64 lent bytes, 1 for true" (READINGS 96, 105, 106). Numbers that are no well-formed plan say something too; no walk asks for it.
-- Assumes nothing.
use Rattle.std.specs.Prelude.{Bool, cond, List, [], ◌∷◌, ℕ, zero, suc, get_or, eqb}
use Rattle.paper_plan.specs.Collecting.{Pair}
use Rattle.paper_plan.specs.Planning.{Test, if_true, unless_true, unless_applies, if_met, Step, leave, list, Plan}
use Rattle.paper_plan.specs.PlanNumbers.{step_if_true, step_unless_true, step_unless_applies, step_list, blocks_in, steps_in, first_in, kind_at, one_at, two_at}

-- 1 for true: any other byte is not
abbrev pub is_one : List ℕ → ℕ → Bool
is_one b i = eqb (get_or b i 0) 1

-- a step of kind k
unfoldable pub test_of : ℕ → ℕ → Test
test_of k a = cond (eqb k step_if_true) (if_true a) (cond (eqb k step_unless_true) (unless_true a) (cond (eqb k step_unless_applies) (unless_applies a) (if_met a)))

unfoldable pub step_of : ℕ → ℕ → ℕ → Step
step_of k a b = cond (eqb k step_list) (list a b) (leave (test_of k a) b)

abbrev pub step_at : List ℕ → ℕ → Step
step_at p i = step_of (kind_at p i) (one_at p i) (two_at p i)

-- n steps from number i on
unfoldable pub steps_from : List ℕ → ℕ → ℕ → List Step
steps_from p i zero = []
steps_from p i (suc n) = step_at p i ∷ steps_from p (suc i) n

-- the first steps of n blocks from block b on
unfoldable pub firsts_from : List ℕ → ℕ → ℕ → List ℕ
firsts_from p b zero = []
firsts_from p b (suc n) = first_in p b ∷ firsts_from p (suc b) n

-- the plan
abbrev pub plan_in : List ℕ → Plan
plan_in p = record { first = firsts_from p 0 (blocks_in p); steps = steps_from p 0 (steps_in p) }

-- pairs as they stand in the output: key number and row
abbrev pub pair_numbers : List Pair → List ℕ
pair_numbers [] = []
pair_numbers (p ∷ ps) = p.0 ∷ p.1 ∷ pair_numbers ps
