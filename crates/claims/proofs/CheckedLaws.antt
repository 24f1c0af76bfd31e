-- What `gw_check_table` answers and leaves in the report, case by case of its statement.
use mathlib.Core.Path.{◌≡◌, refl, ap}
use mathlib.Core.List.{List, ◌∷◌, []}
use Prim.Native.Nat.{ℕ, ◌≤◌, ◌<◌}
use native.Mathlib.Nat.{lt_of_not-le}
use native.Mathlib.Decide.{dec_le}
use native.Mathlib.Omega.{arith}
use lib.ListN.{length, drop}
use Rattle.paper.specs.Numbers.{report_size}
use Rattle.paper.specs.Refusals.{number_of}
use Rattle.paper.specs.Calls.{tells}
use Rattle.paper.specs.declared.Refusal.TheVariants.{Buffer, OverLength}
use Rattle.paper_table.specs.TableNumbers.{most_table, input_table}
use Rattle.paper_table.specs.Judging.{judge, table_number, table_shown}
use Rattle.paper_table.specs.TableCalls.{tells_table, Checked, short_report, over_length, judges}
use Rattle.paper_table.specs.declared.TableAnswer.{TableAnswer}
use Rattle.paper_table.specs.declared.TableAnswer.TheVariants.{Accepted, Framing, TooMany, Breaks}
use Rattle.claims.proofs.BuffersLaws.{filled_kept}

-- some result is as `Checked` says
module _ (table report : List ℕ) where
  of_table : report_size ≤ length report → Dec (length table ≤ most_table) → (report' : List ℕ) × (a : ℕ) × Checked table report report' a
  of_table h (yes l) = (tells_table (judge table) report, table_number (judge table), judges h l refl)
  of_table h (no l) = (tells (OverLength input_table) report, number_of (OverLength input_table), over_length h (lt_of_not-le l) refl)

  of_report : Dec (report_size ≤ length report) → (report' : List ℕ) × (a : ℕ) × Checked table report report' a
  of_report (yes h) = of_table h (dec_le (length table) most_table)
  of_report (no h) = (report, number_of Buffer, short_report (lt_of_not-le h) refl)

  pub checked_some : (report' : List ℕ) × (a : ℕ) × Checked table report report' a
  checked_some = of_report (dec_le report_size (length report))

-- an answer's numbers fit the report, and 0 is that of one alone
pub told_fits : (a : TableAnswer) → length (table_number a ∷ table_shown a) ≤ report_size
told_fits Accepted = omega arith
told_fits (Framing at) = omega arith
told_fits (TooMany at) = omega arith
told_fits (Breaks i k m p a) = omega arith

accepted_number : (a : TableAnswer) → table_number a ≡ 0 → a ≡ Accepted
accepted_number Accepted e = refl
accepted_number (Framing at) e = let z : ⊥ = omega arith in absurd z
accepted_number (TooMany at) e = let z : ⊥ = omega arith in absurd z
accepted_number (Breaks i k m p a) e = let z : ⊥ = omega arith in absurd z

module _ {table report report' : List ℕ} where
  -- a shorter report is untouched
  pub short_kept : {a : ℕ} → Checked table report report' a → length report < report_size → (a ≡ 1) × (report' ≡ report)
  short_kept (short_report h e) l = (refl, e)
  short_kept (over_length h m e) l = let z : ⊥ = omega arith in absurd z
  short_kept (judges h m e) l = let z : ⊥ = omega arith in absurd z

  -- the report begins with the answer
  pub report_tells : {a : ℕ} → Checked table report report' a → report_size ≤ length report → (ns : List ℕ) × (report' ≡ a ∷ ns)
  report_tells (short_report h e) l = let z : ⊥ = omega arith in absurd z
  report_tells (over_length h m e) l = (_, e)
  report_tells (judges h m e) l = (_, e)

  -- beyond the fixed size nothing is written
  pub report_tail : {a : ℕ} → Checked table report report' a → (length report' ≡ length report) × (drop report_size report' ≡ drop report_size report)
  report_tail (short_report h e) = (ap length e, ap (drop report_size) e)
  report_tail (over_length h m e) = filled_kept report_size (number_of (OverLength input_table) ∷ input_table ∷ []) report report' (omega arith) h e
  report_tail (judges h m e) = filled_kept report_size (table_number (judge table) ∷ table_shown (judge table)) report report' (told_fits (judge table)) h e

  -- 0 says that the table is accepted
  pub accepts : {a : ℕ} → Checked table report report' a → a ≡ 0 → (length table ≤ most_table) × (judge table ≡ Accepted)
  accepts (short_report h e) l = let z : ⊥ = omega arith in absurd z
  accepts (over_length h m e) l = let z : ⊥ = omega arith in absurd z
  accepts (judges h m e) l = (m, accepted_number (judge table) l)
