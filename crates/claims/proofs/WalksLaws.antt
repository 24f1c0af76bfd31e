-- What `gw_walk` answers and leaves in the buffers, case by case of its statement.
use mathlib.Core.Path.{◌≡◌, refl, ap, ◌∙◌}
use mathlib.Core.Bool.{true}
use mathlib.Core.Logic.{◌⊎◌, ◌↔◌, inl, inr}
use mathlib.Core.List.{List, [], ◌∷◌, ◌++◌}
use Prim.Native.Nat.{ℕ, suc, ◌*◌, ◌-◌, ◌≤◌, ◌<◌}
use native.Mathlib.Omega.{arith}
use lib.ListN.{length, get_or, take, drop, replicate}
use lib.Dec.{eqb}
use Rattle.paper.specs.Numbers.{report_size}
use Rattle.paper.specs.Refusals.{number_of}
use Rattle.paper.specs.declared.Refusal.TheVariants.{Buffer, OverLength}
use Rattle.paper_table.specs.TableNumbers.{most_table, input_table}
use Rattle.paper_table.specs.Types.{table_of}
use Rattle.paper_table.specs.Judging.{judge, table_number, table_shown}
use Rattle.paper_table.specs.TableCalls.{tells_table}
use Rattle.paper_table.specs.declared.TableAnswer.{TableAnswer}
use Rattle.paper_table.specs.declared.TableAnswer.TheVariants.{Accepted, Framing, TooMany, Breaks}
use Rattle.paper_plan.specs.Collecting.{Pair, elem}
use Rattle.paper_plan.specs.LentPlan.{pair_numbers}
use Rattle.paper_plan.specs.WalkNumbers.{most_pairs, pairs_size, refuse_walk, refuse_too_many_pairs}
use Rattle.paper_plan.specs.WalkCalls.{CanWalk, listed, WalkLent, Right, Walked, short_report, short_pairs, long_table, refuses_table, refuses_walk, too_many_pairs, lists}
use Rattle.paper_plan.proofs.WalkCallsOne.{walked_one}
use Rattle.plan_theory.proofs.Document.{Among}
use Rattle.plan_walk_told.proofs.FixedLaws.{flat_length}
use Rattle.claims.proofs.BuffersLaws.{filled_kept, filled_head, tells_fits}
use Rattle.claims.proofs.CheckedLaws.{told_fits}

-- a table's refusal is 7 to 9
table_number_is : (a : TableAnswer) → (a ≡ Accepted → ⊥) → (2 < table_number a) × (table_number a < refuse_walk)
table_number_is Accepted w = absurd (w refl)
table_number_is (Framing at) w = (omega arith, omega arith)
table_number_is (TooMany at) w = (omega arith, omega arith)
table_number_is (Breaks i k m p a) w = (omega arith, omega arith)

pairs_fit : (ps : List Pair) → length ps ≤ most_pairs → length (pair_numbers ps) ≤ pairs_size
pairs_fit ps h = omega (arith, flat_length ps)

module _ {table plan : List ℕ} {object : ℕ} {blocks variables pairs report pairs' report' : List ℕ} {a : ℕ} (c : Walked table plan object blocks variables pairs report pairs' report' a) where
  -- each check in its turn
  pub first_the_table : WalkLent pairs report → length table ≤ most_table → (judge table ≡ Accepted → ⊥) → (a ≡ table_number (judge table)) × (report' ≡ tells_table (judge table) report)
  first_the_table l s w = let e = walked_one c (refuses_table l s refl w refl refl) in (e.0, e.2)

  -- a shorter report: nothing is touched
  pub short_kept : length report < report_size → (a ≡ 1) × (pairs' ≡ pairs) × (report' ≡ report)
  short_kept l = walked_one c (short_report l refl refl)

module _ {table plan : List ℕ} {object : ℕ} {blocks variables pairs report pairs' report' : List ℕ} where
  -- 0, 14 and 15, each exactly where it is due
  to_listed : {a : ℕ} → Walked table plan object blocks variables pairs report pairs' report' a → a ≡ 0 →
      WalkLent pairs report × Right table × CanWalk (table_of table) plan object blocks variables × (length (listed (table_of table) plan object blocks variables) ≤ most_pairs)
  to_listed (short_report h e f) l = let z : ⊥ = omega arith in absurd z
  to_listed (short_pairs h w e f) l = let z : ⊥ = omega arith in absurd z
  to_listed (long_table h w e f) l = let z : ⊥ = omega arith in absurd z
  to_listed (refuses_table {a = b} h s j n e f) l = let z : ⊥ = omega (arith, (table_number_is b n).0) in absurd z
  to_listed (refuses_walk h r n e f) l = let z : ⊥ = omega arith in absurd z
  to_listed (too_many_pairs h r w m e f) l = let z : ⊥ = omega arith in absurd z
  to_listed (lists h r w m e f) l = (h, r, w, m)

  pub listed_exactly : {a : ℕ} → Walked table plan object blocks variables pairs report pairs' report' a →
      (a ≡ 0) ↔ (WalkLent pairs report × Right table × CanWalk (table_of table) plan object blocks variables × (length (listed (table_of table) plan object blocks variables) ≤ most_pairs))
  listed_exactly c = (to_listed c, λ h. (walked_one c (lists h.0 h.1 h.2 h.3 refl refl)).0)

  to_refused : {a : ℕ} → Walked table plan object blocks variables pairs report pairs' report' a → a ≡ 14 →
      WalkLent pairs report × Right table × (CanWalk (table_of table) plan object blocks variables → ⊥)
  to_refused (short_report h e f) l = let z : ⊥ = omega arith in absurd z
  to_refused (short_pairs h w e f) l = let z : ⊥ = omega arith in absurd z
  to_refused (long_table h w e f) l = let z : ⊥ = omega arith in absurd z
  to_refused (refuses_table {a = b} h s j n e f) l = let z : ⊥ = omega (arith, (table_number_is b n).1) in absurd z
  to_refused (refuses_walk h r n e f) l = (h, r, n)
  to_refused (too_many_pairs h r w m e f) l = let z : ⊥ = omega arith in absurd z
  to_refused (lists h r w m e f) l = let z : ⊥ = omega arith in absurd z

  pub refused_exactly : {a : ℕ} → Walked table plan object blocks variables pairs report pairs' report' a →
      (a ≡ 14) ↔ (WalkLent pairs report × Right table × (CanWalk (table_of table) plan object blocks variables → ⊥))
  refused_exactly c = (to_refused c, λ h. (walked_one c (refuses_walk h.0 h.1 h.2 refl refl)).0)

  to_many : {a : ℕ} → Walked table plan object blocks variables pairs report pairs' report' a → a ≡ 15 →
      WalkLent pairs report × Right table × CanWalk (table_of table) plan object blocks variables × (most_pairs < length (listed (table_of table) plan object blocks variables))
  to_many (short_report h e f) l = let z : ⊥ = omega arith in absurd z
  to_many (short_pairs h w e f) l = let z : ⊥ = omega arith in absurd z
  to_many (long_table h w e f) l = let z : ⊥ = omega arith in absurd z
  to_many (refuses_table {a = b} h s j n e f) l = let z : ⊥ = omega (arith, (table_number_is b n).1) in absurd z
  to_many (refuses_walk h r n e f) l = let z : ⊥ = omega arith in absurd z
  to_many (too_many_pairs h r w m e f) l = (h, r, w, m)
  to_many (lists h r w m e f) l = let z : ⊥ = omega arith in absurd z

  pub many_exactly : {a : ℕ} → Walked table plan object blocks variables pairs report pairs' report' a →
      (a ≡ 15) ↔ (WalkLent pairs report × Right table × CanWalk (table_of table) plan object blocks variables × (most_pairs < length (listed (table_of table) plan object blocks variables)))
  many_exactly c = (to_many c, λ h. (walked_one c (too_many_pairs h.0 h.1 h.2 h.3 refl refl)).0)

  -- success: the pairs and zeros, and their count
  pub pairs_listed : {a : ℕ} → Walked table plan object blocks variables pairs report pairs' report' a → a ≡ 0 →
      (take pairs_size pairs' ≡ pair_numbers (listed (table_of table) plan object blocks variables) ++ replicate (pairs_size - 2 * length (listed (table_of table) plan object blocks variables)) 0)
      × (take 2 report' ≡ 0 ∷ length (listed (table_of table) plan object blocks variables) ∷ [])
  pairs_listed (short_report h e f) l = let z : ⊥ = omega arith in absurd z
  pairs_listed (short_pairs h w e f) l = let z : ⊥ = omega arith in absurd z
  pairs_listed (long_table h w e f) l = let z : ⊥ = omega arith in absurd z
  pairs_listed (refuses_table {a = b} h s j n e f) l = let z : ⊥ = omega (arith, (table_number_is b n).0) in absurd z
  pairs_listed (refuses_walk h r n e f) l = let z : ⊥ = omega arith in absurd z
  pairs_listed (too_many_pairs h r w m e f) l = let z : ⊥ = omega arith in absurd z
  pairs_listed (lists h r w m e f) l = (
    ap (take pairs_size) e ∙ filled_head pairs_size (pair_numbers (listed (table_of table) plan object blocks variables)) pairs (pairs_fit (listed (table_of table) plan object blocks variables) m)
        ∙ ap (λ (z : ℕ). pair_numbers (listed (table_of table) plan object blocks variables) ++ replicate (pairs_size - z) 0) (flat_length (listed (table_of table) plan object blocks variables)),
    ap (take 2) f,
  )

  -- refusals 1 and 2: the pairs are untouched
  kept : {a : ℕ} → Walked table plan object blocks variables pairs report pairs' report' a → 0 < a → a < 3 → pairs' ≡ pairs
  kept (short_report h e f) l m = e
  kept (short_pairs h w e f) l m = e
  kept (long_table h w e f) l m = e
  kept (refuses_table {a = b} h s j n e f) l m = let z : ⊥ = omega (arith, (table_number_is b n).0) in absurd z
  kept (refuses_walk h r n e f) l m = let z : ⊥ = omega arith in absurd z
  kept (too_many_pairs h r w k e f) l m = let z : ⊥ = omega arith in absurd z
  kept (lists h r w k e f) l m = let z : ⊥ = omega arith in absurd z

  pub pairs_kept : {a : ℕ} → Walked table plan object blocks variables pairs report pairs' report' a → (a ≡ 1) ⊎ (a ≡ 2) → pairs' ≡ pairs
  pairs_kept c (inl l) = kept c (omega arith) (omega arith)
  pairs_kept c (inr l) = kept c (omega arith) (omega arith)

  -- the other refusals: zeros alone
  pub pairs_zeroed : {a : ℕ} → Walked table plan object blocks variables pairs report pairs' report' a → 2 < a → take pairs_size pairs' ≡ replicate pairs_size 0
  pairs_zeroed (short_report h e f) l = let z : ⊥ = omega arith in absurd z
  pairs_zeroed (short_pairs h w e f) l = let z : ⊥ = omega arith in absurd z
  pairs_zeroed (long_table h w e f) l = let z : ⊥ = omega arith in absurd z
  pairs_zeroed (refuses_table h s j n e f) l = ap (take pairs_size) e ∙ filled_head pairs_size [] pairs (omega arith)
  pairs_zeroed (refuses_walk h r n e f) l = ap (take pairs_size) e ∙ filled_head pairs_size [] pairs (omega arith)
  pairs_zeroed (too_many_pairs h r w m e f) l = ap (take pairs_size) e ∙ filled_head pairs_size [] pairs (omega arith)
  pairs_zeroed (lists h r w m e f) l = let z : ⊥ = omega arith in absurd z

  -- the report begins with the answer
  pub report_tells : {a : ℕ} → Walked table plan object blocks variables pairs report pairs' report' a → report_size ≤ length report → (ns : List ℕ) × (report' ≡ a ∷ ns)
  report_tells (short_report h e f) l = let z : ⊥ = omega arith in absurd z
  report_tells (short_pairs h w e f) l = (_, f)
  report_tells (long_table h w e f) l = (_, f)
  report_tells (refuses_table h s j n e f) l = (_, f)
  report_tells (refuses_walk h r n e f) l = (_, f)
  report_tells (too_many_pairs h r w m e f) l = (_, f)
  report_tells (lists h r w m e f) l = (_, f)

  -- beyond the fixed sizes nothing is written
  pub pairs_tail : {a : ℕ} → Walked table plan object blocks variables pairs report pairs' report' a → (length pairs' ≡ length pairs) × (drop pairs_size pairs' ≡ drop pairs_size pairs)
  pairs_tail (short_report h e f) = (ap length e, ap (drop pairs_size) e)
  pairs_tail (short_pairs h w e f) = (ap length e, ap (drop pairs_size) e)
  pairs_tail (long_table h w e f) = (ap length e, ap (drop pairs_size) e)
  pairs_tail (refuses_table h s j n e f) = filled_kept pairs_size [] pairs pairs' (omega arith) h.1 e
  pairs_tail (refuses_walk h r n e f) = filled_kept pairs_size [] pairs pairs' (omega arith) h.1 e
  pairs_tail (too_many_pairs h r w m e f) = filled_kept pairs_size [] pairs pairs' (omega arith) h.1 e
  pairs_tail (lists h r w m e f) =
      filled_kept pairs_size (pair_numbers (listed (table_of table) plan object blocks variables)) pairs pairs' (pairs_fit (listed (table_of table) plan object blocks variables) m) h.1 e

  pub report_tail : {a : ℕ} → Walked table plan object blocks variables pairs report pairs' report' a → (length report' ≡ length report) × (drop report_size report' ≡ drop report_size report)
  report_tail (short_report h e f) = (ap length f, ap (drop report_size) f)
  report_tail (short_pairs h w e f) = filled_kept report_size (number_of Buffer ∷ []) report report' (tells_fits Buffer) h f
  report_tail (long_table h w e f) = filled_kept report_size (number_of (OverLength input_table) ∷ input_table ∷ []) report report' (tells_fits (OverLength input_table)) h.0 f
  report_tail (refuses_table {a = b} h s j n e f) = filled_kept report_size (table_number b ∷ table_shown b) report report' (told_fits b) h.0 f
  report_tail (refuses_walk h r n e f) = filled_kept report_size (refuse_walk ∷ []) report report' (omega arith) h.0 f
  report_tail (too_many_pairs h r w m e f) = filled_kept report_size (refuse_too_many_pairs ∷ []) report report' (omega arith) h.0 f
  report_tail (lists h r w m e f) = filled_kept report_size (0 ∷ length (listed (table_of table) plan object blocks variables) ∷ []) report report' (omega arith) h.0 f

-- holders that are all among the rows
pub among : (rows holders : List ℕ) → ((j : ℕ) → j < length holders → elem eqb (get_or holders j 0) rows ≡ true) → Among rows holders
among rows [] f = tt
among rows (h ∷ hs) f = (f 0 (omega arith), among rows hs (λ j l. f (suc j) (omega arith)))
