-- From the answer of the plan's numbers, by a byte for each record, to the pairs of the walk; and what is told of them.
use mathlib.Core.Path.{◌≡◌, refl, sym, ap, ◌∙◌}
use mathlib.Core.Logic.{◌⊎◌, inl, inr}
use mathlib.Core.List.{List, [], ◌∷◌, ◌++◌}
use Prim.Native.Nat.{ℕ, ◌*◌, ◌-◌, ◌≤◌, ◌<◌}
use native.Mathlib.Omega.{arith}
use lib.ListN.{length, replicate}
use Rattle.paper.specs.Numbers.{report_size, accepted}
use Rattle.paper.specs.Calls.{filled}
use Rattle.paper_table.specs.Types.{table_of}
use Rattle.table_types.specs.Booked.{Booked}
use Rattle.paper_plan.specs.Collecting.{Pair}
use Rattle.paper_plan.specs.LentPlan.{pair_numbers}
use Rattle.paper_plan.specs.WalkNumbers.{most_pairs, pairs_size, refuse_too_many_pairs}
use Rattle.paper_plan.specs.WalkCalls.{CanWalk, listed}
use Rattle.plan_walk_types.specs.Fits.{Fits}
use Rattle.plan_walk_blocks.specs.Answers.{answer_of, TooMany, Holds, Answered}
use Rattle.plan_walk_lent.proofs.LentLaws.{lent_answer}
use Rattle.plan_walk_told.specs.Walking.{Pairs, Told}

pub pairs_listed : (t book plan : List ℕ) (o : ℕ) (blocks variables fits pairs : List ℕ) (n : ℕ) → Booked t book → CanWalk (table_of t) plan o blocks variables → Fits (table_of t) o fits
    → Answered plan blocks variables fits pairs n → Pairs (table_of t) plan o blocks variables pairs n
pairs_listed t book plan o blocks variables fits pairs n b c f a = go a
  where
    same : answer_of plan blocks variables fits ≡ listed (table_of t) plan o blocks variables
    same = lent_answer t book plan variables fits b c.well_formed o f blocks c.known

    size : length (answer_of plan blocks variables fits) ≡ length (listed (table_of t) plan o blocks variables)
    size = ap length same

    go : TooMany plan blocks variables fits pairs n ⊎ Holds plan blocks variables fits pairs n → Pairs (table_of t) plan o blocks variables pairs n
    go (inl x) = inl record { over = omega (arith, x.told); many = omega (arith, x.many, size); zeros = x.zeros }
    go (inr x) = inr record {
      few = x.few;
      count = sym size ∙ x.count;
      written = x.written ∙ ap (λ (l : List Pair). pair_numbers l ++ replicate (pairs_size - 2 * n) 0) same;
    }

pub told_many : (n : ℕ) (report report' : List ℕ) → most_pairs < n → report' ≡ filled report_size (refuse_too_many_pairs ∷ 0 ∷ []) report → Told n report report' refuse_too_many_pairs
told_many n report report' h e = record { too_many = λ l. (refl, e); counted = λ l. absurd (omega arith) }

pub told_few : (n : ℕ) (report report' : List ℕ) → n ≤ most_pairs → report' ≡ filled report_size (accepted ∷ n ∷ []) report → Told n report report' accepted
told_few n report report' h e = record { too_many = λ l. absurd (omega arith); counted = λ l. (refl, e) }
