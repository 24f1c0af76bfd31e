-- What a document that was read or judged leaves in the rows and the report.
use Rattle.std.specs.Prelude.{◌≡◌, List, [], ◌∷◌, ℕ, Result, Ok, Err}
use Rattle.paper.specs.Numbers.{report_size, accepted}
use Rattle.paper.specs.Refusals.{number_of}
use Rattle.paper.specs.Calls.{filled, tells}
use Rattle.paper.specs.declared.Refusal.{Refusal}
use Rattle.paper_query.specs.QueryNumbers.{refuse_query}
use Rattle.paper_query.specs.declared.QueryAnswer.{QueryAnswer}
use Rattle.paper_query.specs.declared.QueryAnswer.TheVariants.{Fits, Breaks}
use Rattle.call_buffers.specs.Buffers.{cleared}
use Rattle.text_cursor.specs.declared.Cursor.{Cursor}

-- accepted, with the rows as they are and their count n; or a rule is broken, and there are no rows
unfoldable pub Ended : ℕ → QueryAnswer → List ℕ → List ℕ → List ℕ → List ℕ → ℕ → Type 0
Ended n Fits rows report rows' report' r = (r ≡ accepted) × (rows' ≡ rows) × (report' ≡ filled report_size (accepted ∷ n ∷ []) report)
Ended n (Breaks row rule) rows report rows' report' r =
    (r ≡ refuse_query) × (rows' ≡ cleared 0 rows) × (report' ≡ filled report_size (refuse_query ∷ row ∷ rule ∷ []) report)

-- of a reading: the count of rows, or the refusal; and the answer's number
unfoldable pub Told : Result Cursor Refusal → List ℕ → List ℕ → ℕ → Type 0
Told (Ok d) report report' n = (n ≡ accepted) × (report' ≡ filled report_size (accepted ∷ d.rows ∷ []) report)
Told (Err r) report report' n = (n ≡ number_of r) × (report' ≡ tells r report)
