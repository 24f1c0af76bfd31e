-- What gw_check answers, and what it leaves in each buffer.
-- States: 01, "Sizes and refusals", the paragraph "Order", for a call that is given a table and a document.
-- Assumes nothing.
use Rattle.std.specs.Prelude.{◌≡◌, List, [], ◌∷◌, ℕ, ◌≤◌, ◌<◌, length}
use Rattle.paper.specs.Numbers.{report_size, rows_size, most_text, input_document, accepted}
use Rattle.paper.specs.Language.{Document}
use Rattle.paper.specs.Tokens.{Text, Tokens}
use Rattle.paper.specs.Rows.{Row, flat}
use Rattle.paper.specs.Refusals.{number_of}
use Rattle.paper.specs.Reading.{rows_are, refuses, TextAnswer}
use Rattle.paper.specs.Calls.{filled, tells}
use Rattle.paper.specs.declared.Refusal.{Refusal}
use Rattle.paper.specs.declared.Refusal.TheVariants.{Buffer, OverLength}
use Rattle.paper_table.specs.TableNumbers.{most_table, input_table}
use Rattle.paper_table.specs.Types.{table_of}
use Rattle.paper_table.specs.Judging.{judge, table_number}
use Rattle.paper_table.specs.TableCalls.{tells_table}
use Rattle.paper_table.specs.declared.TableAnswer.{TableAnswer}
use Rattle.paper_table.specs.declared.TableAnswer.TheVariants.{Accepted}
use Rattle.paper_query.specs.Constructs.{Doc}
use Rattle.paper_query.specs.QueryRules.{Judged, query_number, query_shown}
use Rattle.paper_query.specs.declared.QueryAnswer.TheVariants.{Fits, Breaks}

abbrev pub read : List ℕ → List Row → Doc
read s rs = record { bytes = s; rows = rs }

-- the buffers are long enough; the inputs are not over their lengths
abbrev pub Lent : List ℕ → List ℕ → Type 0
Lent rows report = (report_size ≤ length report) × (rows_size ≤ length rows)

abbrev pub Short : List ℕ → List ℕ → Type 0
Short table document = (length document ≤ most_text) × (length table ≤ most_table)

-- gw_check: the table's and the document's bytes; rows and report before and after; the answer
pub data CheckedDocument (table document rows report rows' report' : List ℕ) : ℕ → Type 0 where
  -- a shorter report is untouched, as all else, and the answer is 1
  short_report : length report < report_size → rows' ≡ rows → report' ≡ report → CheckedDocument table document rows report rows' report' (number_of Buffer)
  -- refusals 1 and 2 touch no other buffer; of two inputs over their lengths the least is told
  short_rows : report_size ≤ length report → length rows < rows_size →
      rows' ≡ rows → report' ≡ tells Buffer report → CheckedDocument table document rows report rows' report' (number_of Buffer)
  long_document : Lent rows report → most_text < length document →
      rows' ≡ rows → report' ≡ tells (OverLength input_document) report →
      CheckedDocument table document rows report rows' report' (number_of (OverLength input_document))
  long_table : Lent rows report → length document ≤ most_text → most_table < length table →
      rows' ≡ rows → report' ≡ tells (OverLength input_table) report →
      CheckedDocument table document rows report rows' report' (number_of (OverLength input_table))
  -- the others zero the fixed size: first what is said of the table
  refuses_table : {a : TableAnswer} → Lent rows report → Short table document → judge table ≡ a → (a ≡ Accepted → ⊥) →
      rows' ≡ filled rows_size [] rows → report' ≡ tells_table a report → CheckedDocument table document rows report rows' report' (table_number a)
  -- then the reading of the document
  refuses_text : {t : Text} {r : Refusal} → Lent rows report → Short table document → judge table ≡ Accepted →
      Tokens 0 document t → TextAnswer Document t (refuses r) →
      rows' ≡ filled rows_size [] rows → report' ≡ tells r report → CheckedDocument table document rows report rows' report' (number_of r)
  -- then its rules
  breaks_rule : {t : Text} {rs : List Row} {i k : ℕ} → Lent rows report → Short table document → judge table ≡ Accepted →
      Tokens 0 document t → TextAnswer Document t (rows_are rs) → Judged (table_of table) (read document rs) (Breaks i k) →
      rows' ≡ filled rows_size [] rows → report' ≡ filled report_size (query_number (Breaks i k) ∷ query_shown (Breaks i k)) report →
      CheckedDocument table document rows report rows' report' (query_number (Breaks i k))
  -- success: the rows and their count
  accepts : {t : Text} {rs : List Row} → Lent rows report → Short table document → judge table ≡ Accepted →
      Tokens 0 document t → TextAnswer Document t (rows_are rs) → Judged (table_of table) (read document rs) Fits →
      rows' ≡ filled rows_size (flat rs) rows → report' ≡ filled report_size (accepted ∷ length rs ∷ []) report →
      CheckedDocument table document rows report rows' report' accepted
