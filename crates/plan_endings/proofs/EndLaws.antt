-- The sizes; and what is told of the steps of a plan.
use mathlib.Core.Path.{◌≡◌, refl}
use mathlib.Core.List.{List, [], ◌∷◌}
use Prim.Native.Nat.{ℕ, ◌≤◌, ◌<◌}
use native.Mathlib.Omega.{arith}
use lib.ListN.{get_or}
use Rattle.std.specs.Prelude.{Result, Ok, Err}
use Rattle.paper.specs.Numbers.{rows_size, report_size, accepted}
use Rattle.paper.specs.Calls.{filled}
use Rattle.paper.specs.declared.Refusal.{Refusal}
use Rattle.paper.specs.declared.Refusal.TheVariants.{Buffer}
use Rattle.call_buffers.specs.Buffers.{Asks, Sized, cleared}
use Rattle.call_buffers.specs.Buffers.{short_rows as asks-rows, long_document as asks-document, long_table as asks-table}
use Rattle.paper_plan.specs.PlanNumbers.{plan_size}
use Rattle.paper_plan.specs.PlanCalls.{refuse_too_many_steps}
use Rattle.plan_endings.specs.Endings.{PlanAsks, PlanSized, MadeTold}
use Rattle.plan_endings.specs.Endings.{short_plan as asks-plan, long_document as asks-long, long_table as asks-long-table}

pub sized_short : (plan document table : ℕ) → plan < plan_size → PlanSized plan document table (Err Buffer)
sized_short plan document table h = asks-plan h

pub sized_rest : (plan document table : ℕ) (s : Result (Unit {0}) Refusal) → plan_size ≤ plan → Sized rows_size document table s → PlanSized plan document table s
sized_rest plan document table (Ok u) h w = (h, w.1, w.2)
sized_rest plan document table (Err r) h w = go r w
  where
    go : (y : Refusal) → Asks rows_size document table y → PlanAsks plan document table y
    go _ (asks-rows u) = absurd (omega arith)
    go _ (asks-document u l) = asks-long h l
    go _ (asks-table u l m) = asks-long-table h l m

-- too many steps, or their count
pub told_many : (steps : ℕ) (plan plan' report report' : List ℕ) → steps ≡ 4097 → plan' ≡ cleared 0 plan → report' ≡ filled report_size (refuse_too_many_steps ∷ 0 ∷ []) report →
    MadeTold steps plan plan' report report' refuse_too_many_steps
told_many steps plan plan' report report' h p q = record { too_many = λ e. (refl, p, q); counted = λ l. absurd (omega arith) }

pub told_counts : (steps : ℕ) (plan report report' : List ℕ) → (steps ≡ 4097 → ⊥) → report' ≡ filled report_size (accepted ∷ get_or plan 0 0 ∷ steps ∷ 0 ∷ 0 ∷ 0 ∷ []) report →
    MadeTold steps plan plan report report' accepted
told_counts steps plan report report' h q = record { too_many = λ e. absurd (h e); counted = λ l. (refl, refl, q) }
