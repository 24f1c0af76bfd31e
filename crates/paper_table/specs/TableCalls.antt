-- What gw_check_table answers, and what it leaves in its report.
-- States: 01, "Sizes and refusals", the paragraph "Order", for a call that is given a table alone.
-- Assumes nothing.
use Rattle.std.specs.Prelude.{◌≡◌, List, ◌∷◌, ℕ, ◌≤◌, ◌<◌, length}
use Rattle.paper.specs.Numbers.{report_size}
use Rattle.paper.specs.Refusals.{number_of}
use Rattle.paper.specs.Calls.{filled, tells}
use Rattle.paper.specs.declared.Refusal.TheVariants.{Buffer, OverLength}
use Rattle.paper_table.specs.TableNumbers.{most_table, input_table}
use Rattle.paper_table.specs.Judging.{judge, table_number, table_shown}
use Rattle.paper_table.specs.declared.TableAnswer.{TableAnswer}

-- the report of an answer: its number, then what it shows, then zeros; beyond them nothing is written
abbrev pub tells_table : TableAnswer → List ℕ → List ℕ
tells_table a old = filled report_size (table_number a ∷ table_shown a) old

-- gw_check_table: the table's bytes; the report before and after; the answer
pub data Checked (table report report' : List ℕ) : ℕ → Type 0 where
  -- a shorter report is untouched and the answer is 1
  short_report : length report < report_size → report' ≡ report → Checked table report report' (number_of Buffer)
  -- the table is over its length
  over_length : report_size ≤ length report → most_table < length table →
      report' ≡ tells (OverLength input_table) report → Checked table report report' (number_of (OverLength input_table))
  -- else it is judged
  judges : report_size ≤ length report → length table ≤ most_table →
      report' ≡ tells_table (judge table) report → Checked table report report' (table_number (judge table))
