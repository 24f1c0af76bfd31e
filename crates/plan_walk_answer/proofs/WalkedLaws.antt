-- From what is judged and walked to what `gw_walk` must do: first in pairs of the fixed size, then in longer ones.
use mathlib.Core.Path.{◌≡◌, refl, sym, ap, ◌∙◌, subst}
use mathlib.Core.List.{List, [], ◌++◌}
use Prim.Native.Nat.{ℕ, ◌-◌, ◌≤◌, ◌<◌}
use native.Mathlib.Omega.{arith}
use lib.ListN.{length, take, drop, replicate}
use lib.Seq.{length-take-le}
use Rattle.paper.specs.Numbers.{report_size}
use Rattle.paper.specs.Refusals.{number_of}
use Rattle.paper.specs.Calls.{filled, tells}
use Rattle.paper.specs.declared.Refusal.TheVariants.{Buffer, OverLength}
use Rattle.paper_table.specs.TableNumbers.{most_table, input_table}
use Rattle.paper_table.specs.Types.{table_of}
use Rattle.paper_table.specs.Judging.{judge, table_number}
use Rattle.paper_table.specs.TableCalls.{tells_table}
use Rattle.paper_table.specs.declared.TableAnswer.{TableAnswer}
use Rattle.paper_table.specs.declared.TableAnswer.TheVariants.{Accepted}
use Rattle.call_buffers.specs.Buffers.{cleared}
use Rattle.paper_plan.specs.LentPlan.{pair_numbers}
use Rattle.paper_plan.specs.WalkNumbers.{pairs_size}
use Rattle.paper_plan.specs.WalkCalls.{listed, WalkLent, Walked, short_report, short_pairs, long_table, refuses_table, refuses_walk, too_many_pairs, lists}
use Rattle.plan_walk_told.proofs.FixedLaws.{none_beyond, all_cleared}

-- In pairs of the fixed size.
module _ (table plan : List ℕ) (object : ℕ) (blocks variables pairs report pairs' report' : List ℕ) (lent : WalkLent pairs report) (e : length pairs ≡ pairs_size) where
  pub table_refused : (a : TableAnswer) (n : ℕ) → length table ≤ most_table → a ≡ judge table → (a ≡ Accepted → ⊥) →
      pairs' ≡ cleared 0 pairs → n ≡ table_number a → report' ≡ tells_table a report → Walked table plan object blocks variables pairs report pairs' report' n
  table_refused a n s q w c p t =
      subst (Walked table plan object blocks variables pairs report pairs' report') (sym p) (refuses_table lent s (sym q) w (all_cleared pairs pairs' e c) t)

-- Pairs too short, a table too long.
module _ (table plan : List ℕ) (object : ℕ) (blocks variables pairs report report' : List ℕ) (n : ℕ) where
  pub pairs_short : report_size ≤ length report → length pairs < pairs_size → n ≡ number_of Buffer → report' ≡ tells Buffer report → Walked table plan object blocks variables pairs report pairs report' n
  pairs_short h w e t = subst (Walked table plan object blocks variables pairs report pairs report') (sym e) (short_pairs h w refl t)

  pub table_long : WalkLent pairs report → most_table < length table → n ≡ number_of (OverLength input_table) → report' ≡ tells (OverLength input_table) report →
      Walked table plan object blocks variables pairs report pairs report' n
  table_long l w e t = subst (Walked table plan object blocks variables pairs report pairs report') (sym e) (long_table l w refl t)

-- What is done to the fixed size of longer pairs is done to these, and nothing beyond.
module _ (table plan : List ℕ) (object : ℕ) (blocks variables pairs report pairs₁ pairs' report' : List ℕ) (lent : WalkLent pairs report) (short : length table ≤ most_table)
    (e : pairs' ≡ pairs₁ ++ drop pairs_size pairs) where
  beyond : (xs : List ℕ) → pairs₁ ≡ filled pairs_size xs (take pairs_size pairs) → pairs' ≡ filled pairs_size xs pairs
  beyond xs q = e ∙ ap (λ (l : List ℕ). l ++ drop pairs_size pairs) (q ∙ sym (none_beyond (xs ++ replicate (pairs_size - length xs) 0) (take pairs_size pairs) (length-take-le {A = ℕ} pairs_size pairs lent.1)))

  pub walked_beyond : {n : ℕ} → Walked table plan object blocks variables (take pairs_size pairs) report pairs₁ report' n → Walked table plan object blocks variables pairs report pairs' report' n
  walked_beyond (short_report h f g) = absurd (omega (arith, lent.0))
  walked_beyond (short_pairs h w f g) = absurd (omega (arith, length-take-le {A = ℕ} pairs_size pairs lent.1))
  walked_beyond (long_table l w f g) = absurd (omega arith)
  walked_beyond (refuses_table l s j n f g) = refuses_table lent s j n (beyond [] f) g
  walked_beyond (refuses_walk l r n f g) = refuses_walk lent r n (beyond [] f) g
  walked_beyond (too_many_pairs l r c m f g) = too_many_pairs lent r c m (beyond [] f) g
  walked_beyond (lists l r c m f g) = lists lent r c m (beyond (pair_numbers (listed (table_of table) plan object blocks variables)) f) g
