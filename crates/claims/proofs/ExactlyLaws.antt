-- When exactly `gw_parse` and `gw_check_table` accept, and which refusal they tell; and that `gw_check` has a result.
use mathlib.Core.Path.{◌≡◌, refl, ap, ◌∙◌}
use mathlib.Core.Logic.{◌↔◌}
use mathlib.Core.Option.{none}
use mathlib.Core.List.{List, []}
use Prim.Native.Nat.{ℕ, ◌≤◌, ◌<◌}
use native.Mathlib.Nat.{lt_of_not-le}
use native.Mathlib.Decide.{dec_le}
use native.Mathlib.Omega.{arith}
use lib.ListN.{length}
use Rattle.paper.specs.Numbers.{report_size, rows_size, most_text, input_document}
use Rattle.paper.specs.Language.{Document}
use Rattle.paper.specs.Tokens.{Text, Tokens}
use Rattle.paper.specs.Rows.{Row}
use Rattle.paper.specs.Refusals.{number_of}
use Rattle.paper.specs.Reading.{Answer, rows_are, refuses, TextAnswer}
use Rattle.paper.specs.Calls.{tells, Parsed, short_report, short_rows, over_length, refuses_text, reads}
use Rattle.paper.specs.declared.Refusal.{Refusal}
use Rattle.paper.specs.declared.Refusal.TheVariants.{Buffer, OverLength}
use Rattle.paper_table.specs.TableNumbers.{most_table, input_table}
use Rattle.paper_table.specs.House.{framing_offset}
use Rattle.paper_table.specs.TableSizes.{counts_offset}
use Rattle.paper_table.specs.Types.{table_of}
use Rattle.paper_table.specs.Judging.{breaks, judge, table_number}
use Rattle.paper_table.specs.TableCalls.{tells_table, Checked}
use Rattle.paper_table.specs.TableCalls as table-cases
use Rattle.paper_table.specs.declared.TableAnswer.TheVariants.{Accepted}
use Rattle.paper_table.proofs.TableCallsOne.{checked_one}
use Rattle.paper_query.specs.QueryRules.{Judged, least_break}
use Rattle.paper_query.specs.DocumentCalls as check-cases
use Rattle.paper_query.specs.DocumentCalls.{read, Lent, Short, CheckedDocument}
use Rattle.paper_query.specs.declared.QueryAnswer.{QueryAnswer}
use Rattle.paper_query.specs.declared.QueryAnswer.TheVariants.{Fits, Breaks}
use Rattle.paper_query.proofs.DocumentCallsOne.{checked_document_one}
use Rattle.paper_theory.proofs.CallsOne.{parsed_one}
use Rattle.claims.proofs.BuffersLaws.{said_number}
use Rattle.claims.proofs.StandsLaws.{tokens_some, said_of}
use Rattle.claims.proofs.CheckedLaws.{accepts}
use Rattle.claims.proofs.JudgedLaws as judged
use Rattle.claims.proofs.DocumentsLaws.{LeastBreak, to_broken}
use Rattle.claims.proofs.CoercionsSome.{unjudged, accepts_or_not}

-- the rows of a document that is read; what it is refused for
abbrev Rows : List ℕ → List Row → Type 0
Rows document rs = (t : Text) × Tokens 0 document t × TextAnswer Document t (rows_are rs)

abbrev NoRows : List ℕ → Refusal → Type 0
NoRows document r = (t : Text) × Tokens 0 document t × TextAnswer Document t (refuses r)

-- ---- gw_parse
module _ {document rows report rows' report' : List ℕ} where
  to_read : {a : ℕ} → Parsed document rows report rows' report' a → a ≡ 0 → (report_size ≤ length report) × (rows_size ≤ length rows) × (length document ≤ most_text) × ((rs : List Row) × Rows document rs)
  to_read (short_report h e f) l = let z : ⊥ = omega arith in absurd z
  to_read (short_rows h w e f) l = let z : ⊥ = omega arith in absurd z
  to_read (over_length h w m e f) l = let z : ⊥ = omega arith in absurd z
  to_read (refuses_text h w m k s e f) l = let z : ⊥ = omega (arith, said_number s) in absurd z
  to_read (reads {t} {rs} h w m k s e f) l = (h, w, m, (rs, (t, k, s)))

  pub parsed_exactly : {a : ℕ} → Parsed document rows report rows' report' a →
      (a ≡ 0) ↔ ((report_size ≤ length report) × (rows_size ≤ length rows) × (length document ≤ most_text) × ((rs : List Row) × Rows document rs))
  parsed_exactly c = (to_read c, λ h. (parsed_one c (reads h.0 h.1 h.2 h.3.1.1 h.3.1.2 refl refl)).0)

  to_refused : {a : ℕ} → Parsed document rows report rows' report' a → 2 < a →
      (report_size ≤ length report) × (rows_size ≤ length rows) × (length document ≤ most_text) × ((r : Refusal) × NoRows document r × (a ≡ number_of r) × (report' ≡ tells r report))
  to_refused (short_report h e f) l = let z : ⊥ = omega arith in absurd z
  to_refused (short_rows h w e f) l = let z : ⊥ = omega arith in absurd z
  to_refused (over_length h w m e f) l = let z : ⊥ = omega arith in absurd z
  to_refused (refuses_text {t} {r} h w m k s e f) l = (h, w, m, (r, (t, k, s), refl, f))
  to_refused (reads h w m k s e f) l = let z : ⊥ = omega arith in absurd z

  -- the refusal that the text asks for is told, and none other
  pub parse_refuses : {a : ℕ} → Parsed document rows report rows' report' a → report_size ≤ length report → rows_size ≤ length rows → length document ≤ most_text →
      (r : Refusal) → NoRows document r → (a ≡ number_of r) × (report' ≡ tells r report)
  parse_refuses c h w m r s = let e = parsed_one c (refuses_text h w m s.1 s.2 refl refl) in (e.0, e.2)

  pub parse_told : {a : ℕ} → Parsed document rows report rows' report' a → 2 < a →
      (report_size ≤ length report) × (rows_size ≤ length rows) × (length document ≤ most_text) × ((r : Refusal) × NoRows document r × (a ≡ number_of r) × (report' ≡ tells r report))
  parse_told = to_refused

  -- 1 and 2: the sizes are tested in this order, and the rows are left as they were
  pub parse_short_rows : {a : ℕ} → Parsed document rows report rows' report' a → report_size ≤ length report → length rows < rows_size → (a ≡ 1) × (rows' ≡ rows) × (report' ≡ tells Buffer report)
  parse_short_rows c h w = parsed_one c (short_rows h w refl refl)

  pub parse_over_length : {a : ℕ} → Parsed document rows report rows' report' a → report_size ≤ length report → rows_size ≤ length rows → most_text < length document →
      (a ≡ 2) × (rows' ≡ rows) × (report' ≡ tells (OverLength input_document) report)
  parse_over_length c h w m = parsed_one c (over_length h w m refl refl)

-- ---- gw_check_table
module _ {table report report' : List ℕ} where
  to_accepted : {a : ℕ} → Checked table report report' a → a ≡ 0 → (report_size ≤ length report) × (length table ≤ most_table) × (framing_offset table ≡ none) × (counts_offset table ≡ none) × (breaks (table_of table) ≡ [])
  to_accepted (table-cases.short_report h e) l = let z : ⊥ = omega arith in absurd z
  to_accepted (table-cases.over_length h m e) l = let z : ⊥ = omega arith in absurd z
  to_accepted (table-cases.judges h m e) l = let j = (judged.accepted_exactly table).0 (accepts {table = table} {report = report} {report' = report'} (table-cases.judges h m e) l).1 in (h, m, j.0, j.1, j.2)

  from_accepted : {a : ℕ} → Checked table report report' a → report_size ≤ length report → length table ≤ most_table → judge table ≡ Accepted → a ≡ 0
  from_accepted c h m j = (checked_one c (table-cases.judges h m refl)).0 ∙ ap table_number j

  pub checked_exactly : {a : ℕ} → Checked table report report' a →
      (a ≡ 0) ↔ ((report_size ≤ length report) × (length table ≤ most_table) × (framing_offset table ≡ none) × (counts_offset table ≡ none) × (breaks (table_of table) ≡ []))
  checked_exactly c = (to_accepted c, λ h. from_accepted c h.0 h.1 ((judged.accepted_exactly table).1 (h.2, h.3, h.4)))

  -- what is said of the table is told, and shown
  pub checked_tells : {a : ℕ} → Checked table report report' a → report_size ≤ length report → length table ≤ most_table → (a ≡ table_number (judge table)) × (report' ≡ tells_table (judge table) report)
  checked_tells c h m = checked_one c (table-cases.judges h m refl)

  pub checked_long : {a : ℕ} → Checked table report report' a → report_size ≤ length report → most_table < length table → (a ≡ 2) × (report' ≡ tells (OverLength input_table) report)
  checked_long c h m = checked_one c (table-cases.over_length h m refl)

-- ---- gw_check
module _ (table document rows report : List ℕ) (h : (rows' report' : List ℕ) (a : ℕ) → CheckedDocument table document rows report rows' report' a → ⊥) where
  of_rules : Lent rows report → Short table document → judge table ≡ Accepted → (t : Text) → Tokens 0 document t → (rs : List Row) → TextAnswer Document t (rows_are rs) →
      (a : QueryAnswer) → Judged (table_of table) (read document rs) a → ⊥
  of_rules l s j t k rs d Fits q = h _ _ _ (check-cases.accepts l s j k d q refl refl)
  of_rules l s j t k rs d (Breaks i r) q = h _ _ _ (check-cases.breaks_rule l s j k d q refl refl)

  of_text : Lent rows report → Short table document → judge table ≡ Accepted → (t : Text) → Tokens 0 document t → (a : Answer) → TextAnswer Document t a → ⊥
  of_text l s j t k (rows_are rs) d = unjudged (table_of table) (read document rs) (of_rules l s j t k rs d)
  of_text l s j t k (refuses r) d = h _ _ _ (check-cases.refuses_text l s j k d refl refl)

  of_table : Lent rows report → Short table document → Dec (judge table ≡ Accepted) → ⊥
  of_table l s (yes j) = let t = tokens_some document in let d = said_of Document t.1 in of_text l s j t.0 t.1 d.0 d.1
  of_table l s (no n) = h _ _ _ (check-cases.refuses_table l s refl n refl refl)

  of_lengths : Lent rows report → Dec (length document ≤ most_text) → Dec (length table ≤ most_table) → ⊥
  of_lengths l (yes x) (yes y) = of_table l (x, y) (accepts_or_not (judge table))
  of_lengths l (yes x) (no y) = h _ _ _ (check-cases.long_table l x (lt_of_not-le y) refl refl)
  of_lengths l (no x) y = h _ _ _ (check-cases.long_document l (lt_of_not-le x) refl refl)

  of_buffers : Dec (report_size ≤ length report) → Dec (rows_size ≤ length rows) → ⊥
  of_buffers (yes r) (yes w) = of_lengths (r, w) (dec_le (length document) most_text) (dec_le (length table) most_table)
  of_buffers (yes r) (no w) = h _ _ _ (check-cases.short_rows r (lt_of_not-le w) refl refl)
  of_buffers (no r) w = h _ _ _ (check-cases.short_report (lt_of_not-le r) refl refl)

  pub checked_document_some : ⊥
  checked_document_some = of_buffers (dec_le report_size (length report)) (dec_le rows_size (length rows))

module _ {table document rows report rows' report' : List ℕ} {a : ℕ} (c : CheckedDocument table document rows report rows' report' a) where
  pub check_short_rows : report_size ≤ length report → length rows < rows_size → (a ≡ 1) × (rows' ≡ rows) × (report' ≡ tells Buffer report)
  check_short_rows h w = checked_document_one c (check-cases.short_rows h w refl refl)

  pub check_long_table : Lent rows report → length document ≤ most_text → most_table < length table → (a ≡ 2) × (rows' ≡ rows) × (report' ≡ tells (OverLength input_table) report)
  check_long_table l v w = checked_document_one c (check-cases.long_table l v w refl refl)

-- 10: some row breaks a rule, and of the breaks one comes first
module _ {table document rows report rows' report' : List ℕ} where
  pub broken_exactly : {a : ℕ} → CheckedDocument table document rows report rows' report' a →
      (a ≡ 10) ↔ (Lent rows report × Short table document × (judge table ≡ Accepted) × ((rs : List Row) × (i : ℕ) × (k : ℕ) × Rows document rs × LeastBreak (table_of table) (read document rs) i k))
  broken_exactly c = (
    λ e. let b = to_broken c e in (b.0, b.1, b.2, (b.3.0, b.3.1, b.3.2, b.3.3, b.3.4)),
    λ h. (checked_document_one c (check-cases.breaks_rule h.0 h.1 h.2 h.3.3.1 h.3.3.2 (least_break h.3.4.0 h.3.4.1) refl refl)).0,
  )
