-- What `gw_check` promises: each theorem is stated in full, and its proof is one name.
-- What the words mean, and is to be believed, stands in the `specs` of the paper crates that `Main` names.
-- Assumes nothing.
use mathlib.Core.Path.{◌≡◌}
use mathlib.Core.List.{List, ◌∷◌, []}
use mathlib.Core.Logic.{◌⊎◌, ◌↔◌}
use Prim.Native.Nat.{ℕ, ◌≤◌, ◌<◌}
use lib.ListN.{length, take, drop, replicate}
use Rattle.paper.specs.Numbers.{report_size, rows_size, most_text, input_document}
use Rattle.paper.specs.Language.{Document}
use Rattle.paper.specs.Tokens.{Text, Tokens}
use Rattle.paper.specs.Rows.{Row}
use Rattle.paper.specs.Reading.{rows_are, refuses, TextAnswer}
use Rattle.paper.specs.Refusals.{number_of}
use Rattle.paper.specs.Calls.{Parsed, tells}
use Rattle.paper.specs.declared.Refusal.{Refusal}
use Rattle.paper.specs.declared.Refusal.TheVariants.{Buffer, OverLength}
use Rattle.paper_table.specs.TableNumbers.{most_table, input_table}
use Rattle.paper_table.specs.Types.{Table, table_of}
use Rattle.paper_table.specs.Judging.{judge, table_number}
use Rattle.paper_table.specs.TableCalls.{tells_table}
use Rattle.paper_table.specs.declared.TableAnswer.TheVariants.{Accepted}
use Rattle.paper_query.specs.Constructs.{Doc}
use Rattle.paper_query.specs.QueryRules.{Broken, NotAfter, Judged}
use Rattle.paper_query.specs.DocumentCalls.{read, Lent, Short, CheckedDocument}
use Rattle.paper_query.specs.declared.QueryAnswer.{QueryAnswer}
use Rattle.paper_query.proofs.JudgedOne as document-judged
use Rattle.paper_query.proofs.DocumentCallsOne as document-calls
use Rattle.gateway.proofs.check.gw_check.Statement as gw-check
use Rattle.gateway.proofs.check.gw_check.Met as gw-check-met
use Rattle.claims.proofs.DocumentsLaws as checked-documents
use Rattle.claims.proofs.ExactlyLaws as exactly

-- ---- A DOCUMENT BY A TABLE

-- `gw_check` meets the contract in `crates/gateway/src/check.rt`, which is `CheckedDocument`: for every table, document, rows buffer and report of
-- any length and content it says the answer and every number of both buffers.
pub gw_check_meets : {M : Type 1} → gw-check.statement M
gw_check_meets = gw-check-met.met

-- Two results that satisfy it are equal.
pub gw_check_one : {table document rows report rows' report' rows'' report'' : List ℕ} {a a' : ℕ} →
    CheckedDocument table document rows report rows' report' a → CheckedDocument table document rows report rows'' report'' a' →
    (a ≡ a') × (rows' ≡ rows'') × (report' ≡ report'')
gw_check_one = document-calls.checked_document_one

-- Some result satisfies it, whatever the inputs and the buffers: that none does is refuted.
pub gw_check_some : (table document rows report : List ℕ) → ((rows' report' : List ℕ) (a : ℕ) → CheckedDocument table document rows report rows' report' a → ⊥) → ⊥
gw_check_some = exactly.checked_document_some

-- Accepted exactly when: the buffers are lent and the inputs short enough, the table is accepted, the document fits the grammar and the sizes, and
-- none of its rows breaks one of the fourteen rules.
pub document_accepted_exactly : {table document rows report rows' report' : List ℕ} {a : ℕ} → CheckedDocument table document rows report rows' report' a →
    (a ≡ 0)
    ↔ (Lent rows report × Short table document × (judge table ≡ Accepted)
    × ((rs : List Row) × ((t : Text) × Tokens 0 document t × TextAnswer Document t (rows_are rs)) × ((i k : ℕ) → Broken (table_of table) (read document rs) i k → ⊥)))
document_accepted_exactly = checked-documents.accepted_exactly

-- 10 exactly when all this is so but for the rules: some row breaks a rule, and of the breaks one comes before all others, by row, then by rule.
pub document_broken_exactly : {table document rows report rows' report' : List ℕ} {a : ℕ} → CheckedDocument table document rows report rows' report' a →
    (a ≡ 10)
    ↔ (Lent rows report × Short table document × (judge table ≡ Accepted)
    × ((rs : List Row) × (i : ℕ) × (k : ℕ) × ((t : Text) × Tokens 0 document t × TextAnswer Document t (rows_are rs))
    × (Broken (table_of table) (read document rs) i k × ((j l : ℕ) → Broken (table_of table) (read document rs) j l → NotAfter i k j l))))
document_broken_exactly = exactly.broken_exactly

-- Then the report shows that break.
pub document_break_least : {table document rows report rows' report' : List ℕ} {a : ℕ} → CheckedDocument table document rows report rows' report' a → a ≡ 10 →
    (rs : List Row) × (i : ℕ) × (k : ℕ) × ((t : Text) × Tokens 0 document t × TextAnswer Document t (rows_are rs))
    × (Broken (table_of table) (read document rs) i k × ((j l : ℕ) → Broken (table_of table) (read document rs) j l → NotAfter i k j l))
    × (take 3 report' ≡ 10 ∷ i ∷ k ∷ [])
document_break_least c h = (checked-documents.to_broken c h).3

-- One thing only is said of a document's rows against a table.
pub judged_one : {t : Table} {d : Doc} {a b : QueryAnswer} → Judged t d a → Judged t d b → a ≡ b
judged_one = document-judged.judged_one

-- The order: a document over its length is told whatever the table's length; then the table's refusal, whatever is wrong with the document; then the text's.
pub check_document_length_first : {table document rows report rows' report' : List ℕ} {a : ℕ} → CheckedDocument table document rows report rows' report' a →
    Lent rows report → most_text < length document → (a ≡ 2) × (report' ≡ tells (OverLength input_document) report)
check_document_length_first = checked-documents.first_the_document

pub check_table_first : {table document rows report rows' report' : List ℕ} {a : ℕ} → CheckedDocument table document rows report rows' report' a →
    Lent rows report → Short table document → (judge table ≡ Accepted → ⊥) → (a ≡ table_number (judge table)) × (report' ≡ tells_table (judge table) report)
check_table_first = checked-documents.then_the_table

pub check_text_next : {table document rows report rows' report' : List ℕ} {a : ℕ} → CheckedDocument table document rows report rows' report' a →
    Lent rows report → Short table document → judge table ≡ Accepted → (t : Text) (r : Refusal) → Tokens 0 document t → TextAnswer Document t (refuses r) →
    (a ≡ number_of r) × (report' ≡ tells r report)
check_text_next = checked-documents.then_the_text

-- What is left for rows that are too short, and for a table over its length.
pub check_short_rows_told : {table document rows report rows' report' : List ℕ} {a : ℕ} → CheckedDocument table document rows report rows' report' a →
    report_size ≤ length report → length rows < rows_size → (a ≡ 1) × (rows' ≡ rows) × (report' ≡ tells Buffer report)
check_short_rows_told = exactly.check_short_rows

pub check_table_length_next : {table document rows report rows' report' : List ℕ} {a : ℕ} → CheckedDocument table document rows report rows' report' a →
    Lent rows report → length document ≤ most_text → most_table < length table → (a ≡ 2) × (rows' ≡ rows) × (report' ≡ tells (OverLength input_table) report)
check_table_length_next = exactly.check_long_table

-- Success leaves in both buffers what `gw_parse` leaves.
pub check_success_parses : {table document rows report rows' report' : List ℕ} {a : ℕ} → CheckedDocument table document rows report rows' report' a → a ≡ 0 →
    Parsed document rows report rows' report' a
check_success_parses = checked-documents.success_parses

-- Refusals 1 and 2 touch no other buffer, and a shorter report is untouched itself; the other refusals zero the fixed size of the rows.
pub check_refusals_1_and_2_keep_rows : {table document rows report rows' report' : List ℕ} {a : ℕ} → CheckedDocument table document rows report rows' report' a →
    (a ≡ 1) ⊎ (a ≡ 2) → rows' ≡ rows
check_refusals_1_and_2_keep_rows = checked-documents.rows_kept

pub check_short_report_is_kept : {table document rows report rows' report' : List ℕ} {a : ℕ} → CheckedDocument table document rows report rows' report' a →
    length report < report_size → (a ≡ 1) × (rows' ≡ rows) × (report' ≡ report)
check_short_report_is_kept = checked-documents.short_kept

pub check_refusals_zero_rows : {table document rows report rows' report' : List ℕ} {a : ℕ} → CheckedDocument table document rows report rows' report' a →
    2 < a → take rows_size rows' ≡ replicate rows_size 0
check_refusals_zero_rows = checked-documents.rows_zeroed

-- The report begins with the answer; beyond the fixed sizes nothing is written.
pub check_report_tells : {table document rows report rows' report' : List ℕ} {a : ℕ} → CheckedDocument table document rows report rows' report' a →
    report_size ≤ length report → (ns : List ℕ) × (report' ≡ a ∷ ns)
check_report_tells = checked-documents.report_tells

pub check_rows_tail : {table document rows report rows' report' : List ℕ} {a : ℕ} → CheckedDocument table document rows report rows' report' a →
    (length rows' ≡ length rows) × (drop rows_size rows' ≡ drop rows_size rows)
check_rows_tail = checked-documents.rows_tail

pub check_report_tail : {table document rows report rows' report' : List ℕ} {a : ℕ} → CheckedDocument table document rows report rows' report' a →
    (length report' ≡ length report) × (drop report_size report' ≡ drop report_size report)
check_report_tail = checked-documents.report_tail
