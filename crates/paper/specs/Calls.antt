-- What each call answers, and what it leaves in each buffer.
-- States: 01, "Sizes and refusals", the paragraph "Order".
-- Assumes nothing.
use Rattle.std.specs.Prelude.{◌≡◌, List, [], ◌∷◌, ◌++◌, ℕ, ◌≤◌, ◌<◌, ◌-◌, length, drop, replicate}
use Rattle.paper.specs.Numbers.{report_size, rows_size, most_text, input_document, accepted}
use Rattle.paper.specs.Language.{Document}
use Rattle.paper.specs.Tokens.{Text, Tokens}
use Rattle.paper.specs.Rows.{flat}
use Rattle.paper.specs.Refusals.{number_of, shown_of}
use Rattle.paper.specs.Reading.{rows_are, refuses, TextAnswer}
use Rattle.paper.specs.declared.Refusal.{Refusal}
use Rattle.paper.specs.declared.Refusal.TheVariants.{Buffer, OverLength}

-- a buffer whose fixed size now holds the numbers ns and then zeros; beyond it nothing is written
abbrev pub filled : ℕ → List ℕ → List ℕ → List ℕ
filled size ns old = (ns ++ replicate (size - length ns) 0) ++ drop size old

-- the report of a refusal: its number, then what it shows
abbrev pub tells : Refusal → List ℕ → List ℕ
tells r old = filled report_size (number_of r ∷ shown_of r) old

-- gw_parse: the document's bytes; rows and report before and after; the answer
pub data Parsed (document rows report rows' report' : List ℕ) : ℕ → Type 0 where
  -- a shorter report is untouched, as all else, and the answer is 1
  short_report : length report < report_size → rows' ≡ rows → report' ≡ report → Parsed document rows report rows' report' (number_of Buffer)
  -- refusals 1 and 2 touch no other buffer
  short_rows : report_size ≤ length report → length rows < rows_size →
      rows' ≡ rows → report' ≡ tells Buffer report → Parsed document rows report rows' report' (number_of Buffer)
  over_length : report_size ≤ length report → rows_size ≤ length rows → most_text < length document →
      rows' ≡ rows → report' ≡ tells (OverLength input_document) report → Parsed document rows report rows' report' (number_of (OverLength input_document))
  -- the others zero the fixed size
  refuses_text : {t : Text} {r : Refusal} → report_size ≤ length report → rows_size ≤ length rows → length document ≤ most_text →
      Tokens 0 document t → TextAnswer Document t (refuses r) →
      rows' ≡ filled rows_size [] rows → report' ≡ tells r report → Parsed document rows report rows' report' (number_of r)
  -- success: the rows and their count
  reads : {t : Text} {rs : List Rattle.paper.specs.Rows.Row} → report_size ≤ length report → rows_size ≤ length rows → length document ≤ most_text →
      Tokens 0 document t → TextAnswer Document t (rows_are rs) →
      rows' ≡ filled rows_size (flat rs) rows → report' ≡ filled report_size (accepted ∷ length rs ∷ []) report → Parsed document rows report rows' report' accepted
