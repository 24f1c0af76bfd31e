-- Of every input and buffers some result is as `Walked` says.
use mathlib.Core.Path.{◌≡◌, refl}
use mathlib.Core.List.{List}
use Prim.Native.Nat.{ℕ, ◌≤◌}
use native.Mathlib.Nat.{lt_of_not-le}
use native.Mathlib.Decide.{dec_le}
use native.Mathlib.Omega.{arith}
use lib.ListN.{length}
use Rattle.paper.specs.Numbers.{report_size, accepted}
use Rattle.paper.specs.Refusals.{number_of}
use Rattle.paper.specs.declared.Refusal.TheVariants.{Buffer, OverLength}
use Rattle.paper_table.specs.TableNumbers.{most_table, input_table}
use Rattle.paper_table.specs.Types.{table_of}
use Rattle.paper_table.specs.Judging.{judge, table_number}
use Rattle.paper_table.specs.declared.TableAnswer.{TableAnswer}
use Rattle.paper_table.specs.declared.TableAnswer.TheVariants.{Accepted, Framing, TooMany, Breaks}
use Rattle.paper_plan.specs.WalkNumbers.{most_pairs, pairs_size, refuse_walk, refuse_too_many_pairs}
use Rattle.paper_plan.specs.WalkCalls.{CanWalk, listed, WalkLent, Right, Walked, short_report, short_pairs, long_table, refuses_table, refuses_walk, too_many_pairs, lists}
use Rattle.plan_walk_answer.proofs.Decided.{can_walk_decided}

accepts_or_not : (a : TableAnswer) → Dec (a ≡ Accepted)
accepts_or_not Accepted = yes refl
accepts_or_not (Framing at) = no (λ e. let z : ◌≡◌ {A = ℕ} 0 1 = cc in omega arith)
accepts_or_not (TooMany at) = no (λ e. let z : ◌≡◌ {A = ℕ} 0 1 = cc in omega arith)
accepts_or_not (Breaks i k m p a) = no (λ e. let z : ◌≡◌ {A = ℕ} 0 1 = cc in omega arith)

module _ (table plan : List ℕ) (object : ℕ) (blocks variables pairs report : List ℕ) where
  abbrev Some : Type 0
  Some = (pairs' report' : List ℕ) × (a : ℕ) × Walked table plan object blocks variables pairs report pairs' report' a

  of_pairs : WalkLent pairs report → Right table → CanWalk (table_of table) plan object blocks variables → Dec (length (listed (table_of table) plan object blocks variables) ≤ most_pairs) → Some
  of_pairs l r c (yes f) = (_, _, accepted, lists l r c f refl refl)
  of_pairs l r c (no f) = (_, _, refuse_too_many_pairs, too_many_pairs l r c (lt_of_not-le f) refl refl)

  of_walk : WalkLent pairs report → Right table → Dec (CanWalk (table_of table) plan object blocks variables) → Some
  of_walk l r (yes c) = of_pairs l r c (dec_le (length (listed (table_of table) plan object blocks variables)) most_pairs)
  of_walk l r (no n) = (_, _, refuse_walk, refuses_walk l r n refl refl)

  of_rules : WalkLent pairs report → length table ≤ most_table → Dec (judge table ≡ Accepted) → Some
  of_rules l s (yes j) = of_walk l (s, j) (can_walk_decided (table_of table) plan object blocks variables)
  of_rules l s (no n) = (_, _, table_number (judge table), refuses_table l s refl n refl refl)

  of_table : WalkLent pairs report → Dec (length table ≤ most_table) → Some
  of_table l (yes s) = of_rules l s (accepts_or_not (judge table))
  of_table l (no s) = (_, _, number_of (OverLength input_table), long_table l (lt_of_not-le s) refl refl)

  of_buffers : report_size ≤ length report → Dec (pairs_size ≤ length pairs) → Some
  of_buffers h (yes w) = of_table (h, w) (dec_le (length table) most_table)
  of_buffers h (no w) = (_, _, number_of Buffer, short_pairs h (lt_of_not-le w) refl refl)

  of_report : Dec (report_size ≤ length report) → Some
  of_report (yes h) = of_buffers h (dec_le pairs_size (length pairs))
  of_report (no h) = (_, _, number_of Buffer, short_report (lt_of_not-le h) refl refl)

  pub walked_some : (pairs' report' : List ℕ) × (a : ℕ) × Walked table plan object blocks variables pairs report pairs' report' a
  walked_some = of_report (dec_le report_size (length report))
