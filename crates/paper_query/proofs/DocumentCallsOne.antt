-- One thing only may gw_check answer and leave in its buffers: its checks come one after another, and each that fails fixes all.
use mathlib.Core.Path.{◌≡◌, sym, ap, ◌∙◌}
use mathlib.Core.List.{List, [], ◌∷◌}
use Prim.Native.Nat.{ℕ, ◌≤◌, ◌<◌}
use native.Mathlib.Omega.{arith}
use lib.ListN.{length}
use Rattle.paper.specs.Numbers.{report_size, rows_size, most_text, input_document, accepted}
use Rattle.paper.specs.Rows.{flat}
use Rattle.paper.specs.Refusals.{number_of}
use Rattle.paper.specs.Calls.{filled, tells}
use Rattle.paper.specs.declared.Refusal.TheVariants.{Buffer, OverLength}
use Rattle.paper_table.specs.TableNumbers.{most_table, input_table}
use Rattle.paper_table.specs.Judging.{judge, table_number}
use Rattle.paper_table.specs.TableCalls.{tells_table}
use Rattle.paper_table.specs.declared.TableAnswer.TheVariants.{Accepted}
use Rattle.paper_query.specs.QueryNumbers.{refuse_query}
use Rattle.paper_query.specs.DocumentCalls.{CheckedDocument, short_report, short_rows, long_document, long_table, refuses_table, refuses_text, breaks_rule, accepts}
use Rattle.paper_query.specs.declared.QueryAnswer.TheVariants.{Fits, Breaks}
use Rattle.paper_query.proofs.InOrder.{Left, left, One, Checks, failed, later, checks_one}
use Rattle.paper_query.proofs.ReadOne.{Reading, refused, judged, Comes, ends, goes, comes_one}

-- what the call leaves then
leaves : List ℕ → List ℕ → Reading → Left
leaves rows report (refused r) = left (number_of r) (filled rows_size [] rows) (tells r report)
leaves rows report (judged rs Fits) = left accepted (filled rows_size (flat rs) rows) (filled report_size (accepted ∷ length rs ∷ []) report)
leaves rows report (judged rs (Breaks i k)) = left refuse_query (filled rows_size [] rows) (filled report_size (refuse_query ∷ i ∷ k ∷ []) report)

data Told (table document rows report : List ℕ) (x : Left) : Type 0 where
  told : {o : Reading} → Comes table document o → x ≡ leaves rows report o → Told table document rows report x

told_one : (table document rows report : List ℕ) → One (Told table document rows report)
unfolding One
told_one table document rows report x y (told c e) (told c' e') = e ∙ ap (leaves rows report) (comes_one c c') ∙ sym e'

-- the checks, one after another
abbrev TableChecked : (table document rows report : List ℕ) → Left → Type 0
TableChecked table document rows report =
    Checks (judge table ≡ Accepted → ⊥) (judge table ≡ Accepted) (left (table_number (judge table)) (filled rows_size [] rows) (tells_table (judge table) report))
    (Told table document rows report)

abbrev TableShort : (table document rows report : List ℕ) → Left → Type 0
TableShort table document rows report =
    Checks (most_table < length table) (length table ≤ most_table) (left (number_of (OverLength input_table)) rows (tells (OverLength input_table) report))
    (TableChecked table document rows report)

abbrev DocumentShort : (table document rows report : List ℕ) → Left → Type 0
DocumentShort table document rows report =
    Checks (most_text < length document) (length document ≤ most_text) (left (number_of (OverLength input_document)) rows (tells (OverLength input_document) report))
    (TableShort table document rows report)

abbrev RowsLent : (table document rows report : List ℕ) → Left → Type 0
RowsLent table document rows report =
    Checks (length rows < rows_size) (rows_size ≤ length rows) (left (number_of Buffer) rows (tells Buffer report)) (DocumentShort table document rows report)

abbrev ReportLent : (table document rows report : List ℕ) → Left → Type 0
ReportLent table document rows report =
    Checks (length report < report_size) (report_size ≤ length report) (left (number_of Buffer) rows report) (RowsLent table document rows report)

report_lent_one : (table document rows report : List ℕ) → One (ReportLent table document rows report)
report_lent_one table document rows report =
    checks_one _ _ (λ a b. omega arith)
    (checks_one _ _ (λ a b. omega arith)
    (checks_one _ _ (λ a b. omega arith)
    (checks_one _ _ (λ a b. omega arith)
    (checks_one _ _ (λ a b. a b) (told_one table document rows report)))))

in_order : {table document rows report rows' report' : List ℕ} {a : ℕ} → CheckedDocument table document rows report rows' report' a → ReportLent table document rows report (left a rows' report')
unfolding leaves
in_order (short_report h e f) = failed h cc
in_order (short_rows h w e f) = later h (failed w cc)
in_order (long_document l w e f) = later l.0 (later l.1 (failed w cc))
in_order (long_table l v w e f) = later l.0 (later l.1 (later v (failed w cc)))
in_order (refuses_table l s j n e f) = later l.0 (later l.1 (later s.0 (later s.1 (failed (λ z. n (sym j ∙ z)) cc))))
in_order (refuses_text l s j k d e f) = later l.0 (later l.1 (later s.0 (later s.1 (later j (told (ends k d) cc)))))
in_order (breaks_rule l s j k d q e f) = later l.0 (later l.1 (later s.0 (later s.1 (later j (told (goes k d q) cc)))))
in_order (accepts l s j k d q e f) = later l.0 (later l.1 (later s.0 (later s.1 (later j (told (goes k d q) cc)))))

pub checked_document_one : {table document rows report rows' report' rows'' report'' : List ℕ} {a a' : ℕ} →
    CheckedDocument table document rows report rows' report' a → CheckedDocument table document rows report rows'' report'' a' →
    (a ≡ a') × (rows' ≡ rows'') × (report' ≡ report'')
unfolding One
checked_document_one {table} {document} {rows} {report} c c' = let e = report_lent_one table document rows report _ _ (in_order c) (in_order c') in (cc, cc, cc)
