-- Opening an operation: what each call on a table, a document and an operation's name does before its own part.
-- States: 01, "Sizes and refusals", the paragraph "Order", from 7 to 12: table 7, 8, 9, document 3 to 6 and 8, 10, 12. Refusals 1 and 2 come before, by each call's buffers.
-- Row 12: "no operation of that name, or an empty name and not exactly one operation" (READINGS 19).
-- Assumes nothing.
use Rattle.std.specs.Prelude.{◌≡◌, cond, ◌&&◌, List, [], ◌∷◌, ℕ, ltb}
use Rattle.std.proofs.Math.Option.{Option, none, some}
use Rattle.paper.specs.Numbers.{kind_operation}
use Rattle.paper.specs.Language.{Document}
use Rattle.paper.specs.Tokens.{Text, Tokens}
use Rattle.paper.specs.Rows.{Row}
use Rattle.paper.specs.Refusals.{number_of, shown_of}
use Rattle.paper.specs.Reading.{rows_are, refuses, TextAnswer}
use Rattle.paper.specs.declared.Refusal.{Refusal}
use Rattle.paper_table.specs.Lists.{first_at}
use Rattle.paper_table.specs.Types.{table_of}
use Rattle.paper_table.specs.Judging.{judge, table_number, table_shown}
use Rattle.paper_table.specs.declared.TableAnswer.{TableAnswer}
use Rattle.paper_table.specs.declared.TableAnswer.TheVariants.{Accepted}
use Rattle.paper_query.specs.Constructs.{Doc, count, is, called, numbers_where}
use Rattle.paper_query.specs.QueryRules.{Judged, query_number, query_shown}
use Rattle.paper_query.specs.DocumentCalls.{read}
use Rattle.paper_query.specs.declared.QueryAnswer.TheVariants.{Fits, Breaks}

abbrev pub refuse_no_operation : ℕ
refuse_no_operation = 12

-- a table and a document that are accepted, and the document's rows
pub record AcceptedDocument (table document : List ℕ) (rs : List Row) : Type 0 where
  pub table_right : judge table ≡ Accepted
  pub text : Text
  pub tokens : Tokens 0 document text
  pub said : TextAnswer Document text (rows_are rs)
  pub judged : Judged (table_of table) (read document rs) Fits

-- the operation that a name means: the empty name the only one, if there is one only; another the first so named
abbrev pub only_one : List ℕ → Option ℕ
only_one [] = none
only_one (i ∷ []) = some i
only_one (i ∷ j ∷ more) = none

abbrev pub if_below : ℕ → ℕ → Option ℕ
if_below n i = cond (ltb i n) (some i) none

abbrev pub operation_meant : Doc → List ℕ → Option ℕ
operation_meant d [] = only_one (numbers_where (is kind_operation) d)
operation_meant d (b ∷ bs) = if_below (count d) (first_at (λ r. is kind_operation r && called d (b ∷ bs) r) d.rows)

-- it stops, with a refusal's number and what it shows; or it opens an operation of the document's rows
pub data Outcome : Type 0 where
  stops : ℕ → List ℕ → Outcome
  opens : List Row → ℕ → Outcome

pub data Opened (table document name : List ℕ) : Outcome → Type 0 where
  table_refused : {a : TableAnswer} → judge table ≡ a → (a ≡ Accepted → ⊥) → Opened table document name (stops (table_number a) (table_shown a))
  text_refused : {t : Text} {r : Refusal} → judge table ≡ Accepted → Tokens 0 document t → TextAnswer Document t (refuses r) →
      Opened table document name (stops (number_of r) (shown_of r))
  rule_broken : {t : Text} {rs : List Row} {i k : ℕ} → judge table ≡ Accepted → Tokens 0 document t → TextAnswer Document t (rows_are rs) →
      Judged (table_of table) (read document rs) (Breaks i k) → Opened table document name (stops (query_number (Breaks i k)) (query_shown (Breaks i k)))
  no_operation : {rs : List Row} → AcceptedDocument table document rs → operation_meant (read document rs) name ≡ none →
      Opened table document name (stops refuse_no_operation [])
  opened : {rs : List Row} {op : ℕ} → AcceptedDocument table document rs → operation_meant (read document rs) name ≡ some op →
      Opened table document name (opens rs op)
