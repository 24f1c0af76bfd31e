-- Of every document and buffers some result is as `Parsed` says.
use mathlib.Core.Path.{refl}
use mathlib.Core.List.{List, [], ◌∷◌}
use Prim.Native.Nat.{ℕ, ◌≤◌}
use native.Mathlib.Nat.{lt_of_not-le}
use native.Mathlib.Decide.{dec_le}
use lib.ListN.{length}
use Rattle.paper.specs.Numbers.{most_text, report_size, rows_size, input_document, accepted}
use Rattle.paper.specs.Language.{Document}
use Rattle.paper.specs.Tokens.{Text, Tokens}
use Rattle.paper.specs.Rows.{flat}
use Rattle.paper.specs.Refusals.{number_of}
use Rattle.paper.specs.Reading.{Answer, rows_are, refuses, TextAnswer}
use Rattle.paper.specs.Calls.{filled, tells, Parsed, short_report, short_rows, over_length, refuses_text, reads}
use Rattle.paper.specs.declared.Refusal.TheVariants.{Buffer, OverLength}
use Rattle.claims.proofs.StandsLaws.{tokens_some, said_of}

abbrev Some : List ℕ → List ℕ → List ℕ → Type 0
Some document rows report = (rows' : List ℕ) × (report' : List ℕ) × (a : ℕ) × Parsed document rows report rows' report' a

module _ (document rows report : List ℕ) where
  of_said : report_size ≤ length report → rows_size ≤ length rows → length document ≤ most_text → (t : Text) → Tokens 0 document t → (a : Answer) → TextAnswer Document t a → Some document rows report
  of_said h w l t k (rows_are rs) s = (filled rows_size (flat rs) rows, filled report_size (accepted ∷ length rs ∷ []) report, accepted, reads h w l k s refl refl)
  of_said h w l t k (refuses r) s = (filled rows_size [] rows, tells r report, number_of r, refuses_text h w l k s refl refl)

  of_text : report_size ≤ length report → rows_size ≤ length rows → Dec (length document ≤ most_text) → Some document rows report
  of_text h w (yes l) = let t = tokens_some document in let s = said_of Document t.1 in of_said h w l t.0 t.1 s.0 s.1
  of_text h w (no l) = (rows, tells (OverLength input_document) report, number_of (OverLength input_document), over_length h w (lt_of_not-le l) refl refl)

  of_rows : report_size ≤ length report → Dec (rows_size ≤ length rows) → Some document rows report
  of_rows h (yes w) = of_text h w (dec_le (length document) most_text)
  of_rows h (no w) = (rows, tells Buffer report, number_of Buffer, short_rows h (lt_of_not-le w) refl refl)

  of_report : Dec (report_size ≤ length report) → Some document rows report
  of_report (yes h) = of_rows h (dec_le rows_size (length rows))
  of_report (no h) = (rows, report, number_of Buffer, short_report (lt_of_not-le h) refl refl)

pub parsed_some : (document rows report : List ℕ) → Some document rows report
parsed_some document rows report = of_report document rows report (dec_le report_size (length report))
