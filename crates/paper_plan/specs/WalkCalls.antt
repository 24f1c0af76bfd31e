-- What gw_walk answers, and what it leaves in each buffer.
-- States: 01, "Sizes and refusals", the rows 14 and 15 and the paragraph "Order", for a walk: "1, 2, 7, 8, 9, 14, 15" (READINGS 1, 2, 5, 104 to 108).
-- Assumes nothing.
use Rattle.std.specs.Prelude.{◌≡◌, true, List, [], ◌∷◌, ℕ, ◌≤◌, ◌<◌, length, get_or}
use Rattle.paper.specs.Numbers.{report_size, accepted}
use Rattle.paper.specs.Refusals.{number_of}
use Rattle.paper.specs.Calls.{filled, tells}
use Rattle.paper.specs.declared.Refusal.TheVariants.{Buffer, OverLength}
use Rattle.paper_table.specs.TableNumbers.{most_table, input_table}
use Rattle.paper_table.specs.Types.{Table, table_of, is_object}
use Rattle.paper_table.specs.Judging.{judge, table_number}
use Rattle.paper_table.specs.TableCalls.{tells_table}
use Rattle.paper_table.specs.declared.TableAnswer.{TableAnswer}
use Rattle.paper_table.specs.declared.TableAnswer.TheVariants.{Accepted}
use Rattle.paper_query.specs.Enclosing.{definition_at}
use Rattle.paper_plan.specs.Applies.{applies}
use Rattle.paper_plan.specs.Collecting.{Pair}
use Rattle.paper_plan.specs.Planning.{walk_answer}
use Rattle.paper_plan.specs.PlanNumbers.{blocks_in, WellFormed}
use Rattle.paper_plan.specs.LentPlan.{is_one, plan_in, pair_numbers}
use Rattle.paper_plan.specs.WalkNumbers.{most_pairs, most_walked, pairs_size, variables_size, refuse_walk, refuse_too_many_pairs}

-- Refusal 14 is where this is not so: "not a well-formed plan, an unknown block, no object's record, or over 64 blocks"; of the variables "fewer is 14".
pub record CanWalk (t : Table) (plan : List ℕ) (object : ℕ) (blocks variables : List ℕ) : Type 0 where
  pub well_formed : WellFormed t plan
  pub known : (j : ℕ) → j < length blocks → get_or blocks j 0 < blocks_in plan
  pub object_record : is_object (definition_at t object) ≡ true
  pub few_blocks : length blocks ≤ most_walked
  pub all_variables : variables_size ≤ length variables

-- what is listed then: the blocks as given are walked for that object type
abbrev pub listed : Table → List ℕ → ℕ → List ℕ → List ℕ → List Pair
listed t plan object blocks variables = walk_answer (is_one variables) (λ k. applies t k object) (plan_in plan) blocks

-- the buffers are long enough, and the table is accepted
abbrev pub WalkLent : List ℕ → List ℕ → Type 0
WalkLent pairs report = (report_size ≤ length report) × (pairs_size ≤ length pairs)

abbrev pub Right : List ℕ → Type 0
Right table = (length table ≤ most_table) × (judge table ≡ Accepted)

-- gw_walk: the table's bytes, the plan's numbers, the object's record, the blocks' numbers, the variables' bytes; pairs and report before and after; the answer
pub data Walked (table plan : List ℕ) (object : ℕ) (blocks variables pairs report pairs' report' : List ℕ) : ℕ → Type 0 where
  -- a shorter report is untouched, as all else, and the answer is 1
  short_report : length report < report_size → pairs' ≡ pairs → report' ≡ report →
      Walked table plan object blocks variables pairs report pairs' report' (number_of Buffer)
  -- refusals 1 and 2 touch no other buffer
  short_pairs : report_size ≤ length report → length pairs < pairs_size → pairs' ≡ pairs → report' ≡ tells Buffer report →
      Walked table plan object blocks variables pairs report pairs' report' (number_of Buffer)
  long_table : WalkLent pairs report → most_table < length table → pairs' ≡ pairs → report' ≡ tells (OverLength input_table) report →
      Walked table plan object blocks variables pairs report pairs' report' (number_of (OverLength input_table))
  -- the others zero the fixed size: first what is said of the table
  refuses_table : {a : TableAnswer} → WalkLent pairs report → length table ≤ most_table → judge table ≡ a → (a ≡ Accepted → ⊥) →
      pairs' ≡ filled pairs_size [] pairs → report' ≡ tells_table a report →
      Walked table plan object blocks variables pairs report pairs' report' (table_number a)
  -- then what is asked of a walk
  refuses_walk : WalkLent pairs report → Right table → (CanWalk (table_of table) plan object blocks variables → ⊥) →
      pairs' ≡ filled pairs_size [] pairs → report' ≡ filled report_size (refuse_walk ∷ []) report →
      Walked table plan object blocks variables pairs report pairs' report' refuse_walk
  -- over 512 pairs
  too_many_pairs : WalkLent pairs report → Right table → CanWalk (table_of table) plan object blocks variables →
      most_pairs < length (listed (table_of table) plan object blocks variables) →
      pairs' ≡ filled pairs_size [] pairs → report' ≡ filled report_size (refuse_too_many_pairs ∷ []) report →
      Walked table plan object blocks variables pairs report pairs' report' refuse_too_many_pairs
  -- success: the pairs and their count
  lists : WalkLent pairs report → Right table → CanWalk (table_of table) plan object blocks variables →
      length (listed (table_of table) plan object blocks variables) ≤ most_pairs →
      pairs' ≡ filled pairs_size (pair_numbers (listed (table_of table) plan object blocks variables)) pairs →
      report' ≡ filled report_size (accepted ∷ length (listed (table_of table) plan object blocks variables) ∷ []) report →
      Walked table plan object blocks variables pairs report pairs' report' accepted
