-- One thing only may gw_walk answer and leave in its buffers: its checks come one after another, and each that fails fixes all.
use mathlib.Core.Path.{◌≡◌, sym, ◌∙◌}
use mathlib.Core.List.{List, [], ◌∷◌}
use Prim.Native.Nat.{ℕ, ◌≤◌, ◌<◌}
use native.Mathlib.Omega.{arith}
use lib.ListN.{length}
use Rattle.paper.specs.Numbers.{report_size, accepted}
use Rattle.paper.specs.Refusals.{number_of}
use Rattle.paper.specs.Calls.{filled, tells}
use Rattle.paper.specs.declared.Refusal.TheVariants.{Buffer, OverLength}
use Rattle.paper_table.specs.TableNumbers.{most_table, input_table}
use Rattle.paper_table.specs.Types.{table_of}
use Rattle.paper_table.specs.Judging.{judge, table_number}
use Rattle.paper_table.specs.TableCalls.{tells_table}
use Rattle.paper_table.specs.declared.TableAnswer.TheVariants.{Accepted}
use Rattle.paper_query.proofs.InOrder.{Left, left, One, Checks, failed, later, checks_one}
use Rattle.paper_plan.specs.LentPlan.{pair_numbers}
use Rattle.paper_plan.specs.WalkNumbers.{most_pairs, pairs_size, refuse_walk, refuse_too_many_pairs}
use Rattle.paper_plan.specs.WalkCalls.{CanWalk, listed, Walked, short_report, short_pairs, long_table, refuses_table, refuses_walk, too_many_pairs, lists}

-- the last one leaves one thing
abbrev Is : Left → Left → Type 0
Is x y = y ≡ x

is_one : (z : Left) → One (Is z)
unfolding One
is_one z x y e f = e ∙ sym f

module _ (table plan : List ℕ) (object : ℕ) (blocks variables pairs report : List ℕ) where
  abbrev count : ℕ
  count = length (listed (table_of table) plan object blocks variables)

  -- a refusal that zeroes the output and shows nothing
  abbrev refused : ℕ → Left
  refused n = left n (filled pairs_size [] pairs) (filled report_size (n ∷ []) report)

  -- the checks, one after another
  abbrev FewPairs : Left → Type 0
  FewPairs = Checks (most_pairs < count) (count ≤ most_pairs) (refused refuse_too_many_pairs)
      (Is (left accepted (filled pairs_size (pair_numbers (listed (table_of table) plan object blocks variables)) pairs) (filled report_size (accepted ∷ count ∷ []) report)))

  abbrev Walks : Left → Type 0
  Walks = Checks (CanWalk (table_of table) plan object blocks variables → ⊥) (CanWalk (table_of table) plan object blocks variables) (refused refuse_walk) FewPairs

  abbrev TableRight : Left → Type 0
  TableRight =
      Checks (judge table ≡ Accepted → ⊥) (judge table ≡ Accepted) (left (table_number (judge table)) (filled pairs_size [] pairs) (tells_table (judge table) report)) Walks

  abbrev TableShort : Left → Type 0
  TableShort = Checks (most_table < length table) (length table ≤ most_table) (left (number_of (OverLength input_table)) pairs (tells (OverLength input_table) report)) TableRight

  abbrev PairsLent : Left → Type 0
  PairsLent = Checks (length pairs < pairs_size) (pairs_size ≤ length pairs) (left (number_of Buffer) pairs (tells Buffer report)) TableShort

  abbrev ReportLent : Left → Type 0
  ReportLent = Checks (length report < report_size) (report_size ≤ length report) (left (number_of Buffer) pairs report) PairsLent

  report_lent_one : One ReportLent
  report_lent_one =
      checks_one _ _ (λ a b. omega arith)
      (checks_one _ _ (λ a b. omega arith)
      (checks_one _ _ (λ a b. omega arith)
      (checks_one _ _ (λ a b. a b)
      (checks_one _ _ (λ a b. a b)
      (checks_one _ _ (λ a b. omega arith) (is_one _))))))

  in_order : {pairs' report' : List ℕ} {a : ℕ} → Walked table plan object blocks variables pairs report pairs' report' a → ReportLent (left a pairs' report')
  in_order (short_report h e f) = failed h cc
  in_order (short_pairs h w e f) = later h (failed w cc)
  in_order (long_table l w e f) = later l.0 (later l.1 (failed w cc))
  in_order (refuses_table l s j n e f) = later l.0 (later l.1 (later s (failed (λ z. n (sym j ∙ z)) cc)))
  in_order (refuses_walk l r n e f) = later l.0 (later l.1 (later r.0 (later r.1 (failed n cc))))
  in_order (too_many_pairs l r c m e f) = later l.0 (later l.1 (later r.0 (later r.1 (later c (failed m cc)))))
  in_order (lists l r c m e f) = later l.0 (later l.1 (later r.0 (later r.1 (later c (later m cc)))))

pub walked_one : {table plan : List ℕ} {object : ℕ} {blocks variables pairs report pairs' report' pairs'' report'' : List ℕ} {a a' : ℕ} →
    Walked table plan object blocks variables pairs report pairs' report' a → Walked table plan object blocks variables pairs report pairs'' report'' a' →
    (a ≡ a') × (pairs' ≡ pairs'') × (report' ≡ report'')
unfolding One
walked_one {table} {plan} {object} {blocks} {variables} {pairs} {report} c c' =
    let e = report_lent_one table plan object blocks variables pairs report _ _ (in_order table plan object blocks variables pairs report c) (in_order table plan object blocks variables pairs report c') in
    (cc, cc, cc)
