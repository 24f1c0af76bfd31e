-- What `gw_check` answers and leaves in the buffers, case by case of its statement; and what is said of a document.
use mathlib.Core.Path.{◌≡◌, refl, ap, ◌∙◌}
use mathlib.Core.Logic.{◌⊎◌, ◌↔◌, inl, inr}
use mathlib.Core.List.{List, [], ◌∷◌}
use Prim.Native.Nat.{ℕ, ◌≤◌, ◌<◌}
use native.Mathlib.Omega.{arith}
use lib.ListN.{length, take, drop, replicate}
use Rattle.paper.specs.Numbers.{report_size, rows_size, most_text, input_document, accepted}
use Rattle.paper.specs.Language.{Document}
use Rattle.paper.specs.Tokens.{Text, Tokens}
use Rattle.paper.specs.Rows.{Row, flat}
use Rattle.paper.specs.Refusals.{number_of, shown_of}
use Rattle.paper.specs.Reading.{Fault, no_token, no_going, no_end, too_deep, too_many_rows, too_many, rows_are, refuses, TextAnswer, refused}
use Rattle.paper.specs.Calls.{tells, Parsed, reads}
use Rattle.paper.specs.declared.Refusal.{Refusal}
use Rattle.paper.specs.declared.Refusal.TheVariants.{Buffer, OverLength}
use Rattle.paper_table.specs.TableNumbers.{input_table}
use Rattle.paper_table.specs.Types.{Table, table_of}
use Rattle.paper_table.specs.Judging.{judge, table_number, table_shown}
use Rattle.paper_table.specs.declared.TableAnswer.{TableAnswer}
use Rattle.paper_table.specs.TableCalls.{tells_table}
use Rattle.paper_table.specs.declared.TableAnswer.TheVariants.{Accepted, Framing, TooMany, Breaks as TableBreaks}
use Rattle.paper_query.specs.QueryNumbers.{refuse_query}
use Rattle.paper_query.specs.Constructs.{Doc}
use Rattle.paper_query.specs.QueryRules.{Broken, NotAfter, Judged, no_break, least_break}
use Rattle.paper_query.specs.DocumentCalls.{read, Lent, Short, CheckedDocument, short_report, short_rows, long_document, long_table, refuses_table, refuses_text, breaks_rule, accepts}
use Rattle.paper_query.specs.declared.QueryAnswer.TheVariants.{Fits, Breaks}
use Rattle.paper_query.proofs.DocumentCallsOne.{checked_document_one}
use Rattle.claims.proofs.BuffersLaws.{filled_kept, filled_head, flat_fits, tells_fits, said_number}
use Rattle.claims.proofs.CheckedLaws.{told_fits}

-- no rule is broken at any row; of the breaks, that of row i and rule k comes first
abbrev pub NoBreak : Table → Doc → Type 0
NoBreak t d = (i k : ℕ) → Broken t d i k → ⊥

abbrev pub LeastBreak : Table → Doc → ℕ → ℕ → Type 0
LeastBreak t d i k = Broken t d i k × ((j l : ℕ) → Broken t d j l → NotAfter i k j l)

pub fits_exactly : (t : Table) (d : Doc) → Judged t d Fits ↔ NoBreak t d
fits_exactly t d = (to, λ h. no_break h)
  where
    to : Judged t d Fits → NoBreak t d
    to (no_break h) = h

pub breaks_exactly : (t : Table) (d : Doc) (i k : ℕ) → Judged t d (Breaks i k) ↔ LeastBreak t d i k
breaks_exactly t d i k = (to, λ h. least_break h.0 h.1)
  where
    to : Judged t d (Breaks i k) → LeastBreak t d i k
    to (least_break b m) = (b, m)

-- the rows of a document that is read
abbrev pub Rows : List ℕ → List Row → Type 0
Rows document rs = (t : Text) × Tokens 0 document t × TextAnswer Document t (rows_are rs)

-- numbers of answers: a table's refusal is 7 to 9, a text's 3 to 8
table_number_is : (a : TableAnswer) → (a ≡ Accepted → ⊥) → (2 < table_number a) × (table_number a < refuse_query)
table_number_is Accepted w = absurd (w refl)
table_number_is (Framing at) w = (omega arith, omega arith)
table_number_is (TooMany at) w = (omega arith, omega arith)
table_number_is (TableBreaks i k m p a) w = (omega arith, omega arith)

fault_less : {t : Text} {r : Refusal} → Fault Document t r → number_of r < refuse_query
fault_less (no_token b) = omega arith
fault_less (no_going k h s) = omega arith
fault_less (no_end w s) = omega arith
fault_less (too_deep k h o) = omega arith
fault_less (too_many_rows k h o) = omega arith
fault_less (too_many k h o) = omega arith

text_number : {t : Text} {r : Refusal} → TextAnswer Document t (refuses r) → (2 < number_of r) × (number_of r < refuse_query)
text_number (refused f l) = (said_number (refused f l), fault_less f)

module _ {table document rows report rows' report' : List ℕ} {a : ℕ} (c : CheckedDocument table document rows report rows' report' a) where
  -- Each check in its turn, and what it fixes.
  pub first_the_document : Lent rows report → most_text < length document → (a ≡ 2) × (report' ≡ tells (OverLength input_document) report)
  first_the_document l w = let e = checked_document_one c (long_document l w refl refl) in (e.0, e.2)

  pub then_the_table : Lent rows report → Short table document → (judge table ≡ Accepted → ⊥) → (a ≡ table_number (judge table)) × (report' ≡ tells_table (judge table) report)
  then_the_table l s w = let e = checked_document_one c (refuses_table l s refl w refl refl) in (e.0, e.2)

  pub then_the_text : Lent rows report → Short table document → judge table ≡ Accepted → (t : Text) (r : Refusal) → Tokens 0 document t → TextAnswer Document t (refuses r) → (a ≡ number_of r) × (report' ≡ tells r report)
  then_the_text l s j t r k d = let e = checked_document_one c (refuses_text l s j k d refl refl) in (e.0, e.2)

module _ {table document rows report rows' report' : List ℕ} where
  -- 0: all is kept to, and no rule is broken
  to_accepted : {a : ℕ} → CheckedDocument table document rows report rows' report' a → a ≡ 0 → Lent rows report × Short table document × (judge table ≡ Accepted) × ((rs : List Row) × Rows document rs × NoBreak (table_of table) (read document rs))
  to_accepted (short_report h e f) l = let z : ⊥ = omega arith in absurd z
  to_accepted (short_rows h w e f) l = let z : ⊥ = omega arith in absurd z
  to_accepted (long_document h w e f) l = let z : ⊥ = omega arith in absurd z
  to_accepted (long_table h v w e f) l = let z : ⊥ = omega arith in absurd z
  to_accepted (refuses_table {a = b} h s j n e f) l = let z : ⊥ = omega (arith, (table_number_is b n).0) in absurd z
  to_accepted (refuses_text h s j k d e f) l = let z : ⊥ = omega (arith, (text_number d).0) in absurd z
  to_accepted (breaks_rule h s j k d q e f) l = let z : ⊥ = omega arith in absurd z
  to_accepted (accepts {t} {rs} h s j k d q e f) l = (h, s, j, (rs, (t, k, d), (fits_exactly (table_of table) (read document rs)).0 q))

  pub accepted_exactly : {a : ℕ} → CheckedDocument table document rows report rows' report' a →
      (a ≡ 0) ↔ (Lent rows report × Short table document × (judge table ≡ Accepted) × ((rs : List Row) × Rows document rs × NoBreak (table_of table) (read document rs)))
  accepted_exactly c = (to_accepted c, λ h. (checked_document_one c (accepts h.0 h.1 h.2 h.3.1.1 h.3.1.2 (no_break h.3.2) refl refl)).0)

  -- 10: all is kept to but a rule, and the report shows the least row and its least rule
  pub to_broken : {a : ℕ} → CheckedDocument table document rows report rows' report' a → a ≡ 10 →
      Lent rows report × Short table document × (judge table ≡ Accepted) × ((rs : List Row) × (i : ℕ) × (k : ℕ) × Rows document rs × LeastBreak (table_of table) (read document rs) i k × (take 3 report' ≡ 10 ∷ i ∷ k ∷ []))
  to_broken (short_report h e f) l = let z : ⊥ = omega arith in absurd z
  to_broken (short_rows h w e f) l = let z : ⊥ = omega arith in absurd z
  to_broken (long_document h w e f) l = let z : ⊥ = omega arith in absurd z
  to_broken (long_table h v w e f) l = let z : ⊥ = omega arith in absurd z
  to_broken (refuses_table {a = b} h s j n e f) l = let z : ⊥ = omega (arith, (table_number_is b n).1) in absurd z
  to_broken (refuses_text h s j k d e f) l = let z : ⊥ = omega (arith, (text_number d).1) in absurd z
  to_broken (breaks_rule {t} {rs} {i} {k = m} h s j k d q e f) l = (h, s, j, (rs, i, m, (t, k, d), (breaks_exactly (table_of table) (read document rs) i m).0 q, ap (take 3) f))
  to_broken (accepts h s j k d q e f) l = let z : ⊥ = omega arith in absurd z

  pub broken_exactly : {a : ℕ} → CheckedDocument table document rows report rows' report' a →
      (a ≡ 10) ↔ (Lent rows report × Short table document × (judge table ≡ Accepted) × ((rs : List Row) × (i : ℕ) × (k : ℕ) × Rows document rs × LeastBreak (table_of table) (read document rs) i k × (take 3 report' ≡ 10 ∷ i ∷ k ∷ [])))
  broken_exactly c = (to_broken c, λ h. (checked_document_one c (breaks_rule h.0 h.1 h.2 h.3.3.1 h.3.3.2 (least_break h.3.4.0 h.3.4.1) refl refl)).0)

  -- a shorter report: nothing is touched
  pub short_kept : {a : ℕ} → CheckedDocument table document rows report rows' report' a → length report < report_size → (a ≡ 1) × (rows' ≡ rows) × (report' ≡ report)
  short_kept c l = checked_document_one c (short_report l refl refl)

  -- refusals 1 and 2: the rows are untouched
  kept : {a : ℕ} → CheckedDocument table document rows report rows' report' a → 0 < a → a < 3 → rows' ≡ rows
  kept (short_report h e f) l m = e
  kept (short_rows h w e f) l m = e
  kept (long_document h w e f) l m = e
  kept (long_table h v w e f) l m = e
  kept (refuses_table {a = b} h s j n e f) l m = let z : ⊥ = omega (arith, (table_number_is b n).0) in absurd z
  kept (refuses_text h s j k d e f) l m = let z : ⊥ = omega (arith, (text_number d).0) in absurd z
  kept (breaks_rule h s j k d q e f) l m = let z : ⊥ = omega arith in absurd z
  kept (accepts h s j k d q e f) l m = let z : ⊥ = omega arith in absurd z

  pub rows_kept : {a : ℕ} → CheckedDocument table document rows report rows' report' a → (a ≡ 1) ⊎ (a ≡ 2) → rows' ≡ rows
  rows_kept c (inl l) = kept c (omega arith) (omega arith)
  rows_kept c (inr l) = kept c (omega arith) (omega arith)

  -- the other refusals: zeros alone
  pub rows_zeroed : {a : ℕ} → CheckedDocument table document rows report rows' report' a → 2 < a → take rows_size rows' ≡ replicate rows_size 0
  rows_zeroed (short_report h e f) l = let z : ⊥ = omega arith in absurd z
  rows_zeroed (short_rows h w e f) l = let z : ⊥ = omega arith in absurd z
  rows_zeroed (long_document h w e f) l = let z : ⊥ = omega arith in absurd z
  rows_zeroed (long_table h v w e f) l = let z : ⊥ = omega arith in absurd z
  rows_zeroed (refuses_table h s j n e f) l = ap (take rows_size) e ∙ filled_head rows_size [] rows (omega arith)
  rows_zeroed (refuses_text h s j k d e f) l = ap (take rows_size) e ∙ filled_head rows_size [] rows (omega arith)
  rows_zeroed (breaks_rule h s j k d q e f) l = ap (take rows_size) e ∙ filled_head rows_size [] rows (omega arith)
  rows_zeroed (accepts h s j k d q e f) l = let z : ⊥ = omega arith in absurd z

  -- beyond the fixed size nothing is written
  pub rows_tail : {a : ℕ} → CheckedDocument table document rows report rows' report' a → (length rows' ≡ length rows) × (drop rows_size rows' ≡ drop rows_size rows)
  rows_tail (short_report h e f) = (ap length e, ap (drop rows_size) e)
  rows_tail (short_rows h w e f) = (ap length e, ap (drop rows_size) e)
  rows_tail (long_document h w e f) = (ap length e, ap (drop rows_size) e)
  rows_tail (long_table h v w e f) = (ap length e, ap (drop rows_size) e)
  rows_tail (refuses_table h s j n e f) = filled_kept rows_size [] rows rows' (omega arith) h.1 e
  rows_tail (refuses_text h s j k d e f) = filled_kept rows_size [] rows rows' (omega arith) h.1 e
  rows_tail (breaks_rule h s j k d q e f) = filled_kept rows_size [] rows rows' (omega arith) h.1 e
  rows_tail (accepts {rs} h s j k d q e f) = filled_kept rows_size (flat rs) rows rows' (flat_fits rs k d) h.1 e

  pub report_tail : {a : ℕ} → CheckedDocument table document rows report rows' report' a → (length report' ≡ length report) × (drop report_size report' ≡ drop report_size report)
  report_tail (short_report h e f) = (ap length f, ap (drop report_size) f)
  report_tail (short_rows h w e f) = filled_kept report_size (number_of Buffer ∷ []) report report' (tells_fits Buffer) h f
  report_tail (long_document h w e f) = filled_kept report_size (number_of (OverLength input_document) ∷ input_document ∷ []) report report' (tells_fits (OverLength input_document)) h.0 f
  report_tail (long_table h v w e f) = filled_kept report_size (number_of (OverLength input_table) ∷ input_table ∷ []) report report' (tells_fits (OverLength input_table)) h.0 f
  report_tail (refuses_table {a = b} h s j n e f) = filled_kept report_size (table_number b ∷ table_shown b) report report' (told_fits b) h.0 f
  report_tail (refuses_text {r} h s j k d e f) = filled_kept report_size (number_of r ∷ shown_of r) report report' (tells_fits r) h.0 f
  report_tail (breaks_rule {i} {k = m} h s j k d q e f) = filled_kept report_size (refuse_query ∷ i ∷ m ∷ []) report report' (omega arith) h.0 f
  report_tail (accepts {rs} h s j k d q e f) = filled_kept report_size (accepted ∷ length rs ∷ []) report report' (omega arith) h.0 f

  -- the report begins with the answer
  pub report_tells : {a : ℕ} → CheckedDocument table document rows report rows' report' a → report_size ≤ length report → (ns : List ℕ) × (report' ≡ a ∷ ns)
  report_tells (short_report h e f) l = let z : ⊥ = omega arith in absurd z
  report_tells (short_rows h w e f) l = (_, f)
  report_tells (long_document h w e f) l = (_, f)
  report_tells (long_table h v w e f) l = (_, f)
  report_tells (refuses_table h s j n e f) l = (_, f)
  report_tells (refuses_text h s j k d e f) l = (_, f)
  report_tells (breaks_rule h s j k d q e f) l = (_, f)
  report_tells (accepts h s j k d q e f) l = (_, f)

-- success leaves what reading the document does
pub success_parses : {table document rows report rows' report' : List ℕ} {a : ℕ} → CheckedDocument table document rows report rows' report' a → a ≡ 0 → Parsed document rows report rows' report' a
success_parses (short_report h e f) l = let z : ⊥ = omega arith in absurd z
success_parses (short_rows h w e f) l = let z : ⊥ = omega arith in absurd z
success_parses (long_document h w e f) l = let z : ⊥ = omega arith in absurd z
success_parses (long_table h v w e f) l = let z : ⊥ = omega arith in absurd z
success_parses (refuses_table {a = b} h s j n e f) l = let z : ⊥ = omega (arith, (table_number_is b n).0) in absurd z
success_parses (refuses_text h s j k d e f) l = let z : ⊥ = omega (arith, (text_number d).0) in absurd z
success_parses (breaks_rule h s j k d q e f) l = let z : ⊥ = omega arith in absurd z
success_parses (accepts h s j k d q e f) l = reads h.0 h.1 s.0 k d e f
