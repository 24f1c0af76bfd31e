-- That no result is as a coercing call's statement says is refuted, whatever the inputs and the buffers.
use mathlib.Core.Path.{◌≡◌, refl}
use mathlib.Core.Logic.{inl, inr}
use mathlib.Core.Option.{Option, none, some}
use mathlib.Core.List.{List}
use Prim.Native.Nat.{ℕ, zero, suc, ◌≤◌, ◌<◌}
use native.Mathlib.Nat.{lt_of_not-le}
use native.Mathlib.Decide.{dec_le}
use native.Mathlib.Omega.{arith}
use lib.ListN.{length}
use Rattle.paper.specs.Numbers.{most_text, report_size}
use Rattle.paper.specs.Language.{Document, VariablesText}
use Rattle.paper.specs.Tokens.{Text, Tokens}
use Rattle.paper.specs.Rows.{Row}
use Rattle.paper.specs.Reading.{Answer, rows_are, refuses, TextAnswer}
use Rattle.paper_table.specs.TableNumbers.{most_table}
use Rattle.paper_table.specs.Types.{Table, table_of}
use Rattle.paper_table.specs.Judging.{judge}
use Rattle.paper_table.specs.declared.TableAnswer.{TableAnswer}
use Rattle.paper_table.specs.declared.TableAnswer.TheVariants.{Accepted, Framing, TooMany, Breaks as TableBreaks}
use Rattle.paper_query.specs.Constructs.{Doc}
use Rattle.paper_query.specs.QueryRules.{Broken, NotAfter, Judged, no_break, least_break}
use Rattle.paper_query.specs.DocumentCalls.{read}
use Rattle.paper_query.specs.Opening.{AcceptedDocument, operation_meant, Outcome, stops, opens, Opened, table_refused, text_refused, rule_broken, no_operation, opened}
use Rattle.paper_query.specs.declared.QueryAnswer.{QueryAnswer}
use Rattle.paper_query.specs.declared.QueryAnswer.TheVariants.{Fits, Breaks}
use Rattle.paper_values.specs.ValueNumbers.{most_coerced}
use Rattle.paper_values.specs.Kinds.{kind_of_type}
use Rattle.paper_values.specs.DocumentDues.{ReachedField}
use Rattle.paper_values.specs.ValueCalls as calls
use Rattle.paper_values.specs.ValueCalls.{Ending, ends, yields, VariablesEnd, ArgumentsEnd, ValueLent, ValueShort, Coerced, CoercedVariables, CoercedArguments}
use Rattle.paper_values.proofs.CallsExact.{variables_have, arguments_have}
use Rattle.claims.proofs.StandsLaws.{tokens_some, said_of}

-- ---- the rules: if no break is the least there is none, row by row and rule by rule

module _ (t : Table) (d : Doc) (h : (a : QueryAnswer) → Judged t d a → ⊥) where
  not_after : (i k : ℕ) → ((j l : ℕ) → j < i → Broken t d j l → ⊥) → ((l : ℕ) → l < k → Broken t d i l → ⊥) → (j l : ℕ) → Broken t d j l → Dec (j ≤ i) → NotAfter i k j l
  not_after i k f g j l b (no z) = inl (lt_of_not-le z)
  not_after i k f g j l b (yes z) = same_row (dec_le i j)
    where
      same_rule : i ≡ j → Dec (k ≤ l) → NotAfter i k j l
      same_rule e (yes w) = inr (e, w)
      same_rule e (no w) = absurd (g l (lt_of_not-le w) (rw e b))

      same_row : Dec (i ≤ j) → NotAfter i k j l
      same_row (yes w) = same_rule (omega (arith, z, w)) (dec_le k l)
      same_row (no w) = absurd (f j l (lt_of_not-le w) b)

  none_in_row : (i : ℕ) → ((j l : ℕ) → j < i → Broken t d j l → ⊥) → (m l : ℕ) → l < m → Broken t d i l → ⊥
  none_in_row i f zero l z b = omega (arith, z)
  none_in_row i f (suc m) l z b = h (Breaks i l) (least_break b (λ j x c. not_after i l f (λ y w. none_in_row i f m y (omega (arith, z, w))) j x c (dec_le j i)))

  none_before : (i j l : ℕ) → j < i → Broken t d j l → ⊥
  none_before zero j l z b = omega (arith, z)
  none_before (suc i) j l z b = none_in_row j (λ x y w. none_before i x y (omega (arith, z, w))) (suc l) l (omega arith) b

  pub unjudged : ⊥
  unjudged = h Fits (no_break (λ i k b. none_before (suc i) i k (omega arith) b))

-- ---- opening

pub accepts_or_not : (a : TableAnswer) → Dec (a ≡ Accepted)
accepts_or_not Accepted = yes refl
accepts_or_not (Framing at) = no (λ e. let z : ◌≡◌ {A = ℕ} 0 1 = cc in omega arith)
accepts_or_not (TooMany at) = no (λ e. let z : ◌≡◌ {A = ℕ} 0 1 = cc in omega arith)
accepts_or_not (TableBreaks i k m p a) = no (λ e. let z : ◌≡◌ {A = ℕ} 0 1 = cc in omega arith)

module _ (table document name : List ℕ) (h : (o : Outcome) → Opened table document name o → ⊥) where
  of_name : {rs : List Row} → AcceptedDocument table document rs → (m : Option ℕ) → operation_meant (read document rs) name ≡ m → ⊥
  of_name a none q = h _ (no_operation a q)
  of_name a (some op) q = h _ (opened a q)

  of_rules : judge table ≡ Accepted → (t : Text) → Tokens 0 document t → (rs : List Row) → TextAnswer Document t (rows_are rs) → (a : QueryAnswer) → Judged (table_of table) (read document rs) a → ⊥
  of_rules j t k rs s Fits q = of_name (record { table_right = j; text = t; tokens = k; said = s; judged = q }) (operation_meant (read document rs) name) refl
  of_rules j t k rs s (Breaks i r) q = h _ (rule_broken j k s q)

  of_text : judge table ≡ Accepted → (t : Text) → Tokens 0 document t → (a : Answer) → TextAnswer Document t a → ⊥
  of_text j t k (rows_are rs) s = unjudged (table_of table) (read document rs) (λ a q. of_rules j t k rs s a q)
  of_text j t k (refuses r) s = h _ (text_refused j k s)

  of_table : Dec (judge table ≡ Accepted) → ⊥
  of_table (yes j) = let t = tokens_some document in let s = said_of Document t.1 in of_text j t.0 t.1 s.0 s.1
  of_table (no n) = h _ (table_refused refl n)

  pub unopened : ⊥
  unopened = of_table (accepts_or_not (judge table))

-- ---- how the calls end

module _ (table document name variables : List ℕ) where
  module _ (h : (e : Ending) → VariablesEnd table document name variables e → ⊥) where
    after_text : (rs : List Row) (op : ℕ) → Opened table document name (opens rs op) → (t : Text) → Tokens 0 variables t → (a : Answer) → TextAnswer VariablesText t a → ⊥
    after_text rs op p t k (rows_are vs) s = h _ (calls.variables_coerced p k s (variables_have (kind_of_type (table_of table)) _ _))
    after_text rs op p t k (refuses r) s = h _ (calls.text_refused p k s)

    after_opening : (o : Outcome) → Opened table document name o → ⊥
    after_opening (stops k shown) p = h _ (calls.nothing_opened p)
    after_opening (opens rs op) p = let t = tokens_some variables in let s = said_of VariablesText t.1 in after_text rs op p t.0 t.1 s.0 s.1

    variables_unended : ⊥
    variables_unended = unopened table document name after_opening

  module _ (row : ℕ) (h : (e : Ending) → ArgumentsEnd table document name variables row e → ⊥) where
    after_argument_text : (rs : List Row) (op : ℕ) → Opened table document name (opens rs op) → ReachedField (read document rs) op row → (t : Text) → Tokens 0 variables t → (a : Answer) → TextAnswer VariablesText t a → ⊥
    after_argument_text rs op p f t k (rows_are vs) s = h _ (calls.arguments_coerced p f k s (arguments_have (kind_of_type (table_of table)) _ _ _ _ _))
    after_argument_text rs op p f t k (refuses r) s = h _ (calls.variables_unread p f k s)

    after_row : (o : Outcome) → Opened table document name o → ⊥
    after_row (stops k shown) p = h _ (calls.no_operation_opened p)
    after_row (opens rs op) p = let t = tokens_some variables in let s = said_of VariablesText t.1 in h _ (calls.no_field_reached p (λ f. after_argument_text rs op p f t.0 t.1 s.0 s.1))

    arguments_unended : ⊥
    arguments_unended = unopened table document name after_row

-- ---- the calls

module _ (End : Ending → Type 0) (some_end : ((e : Ending) → End e → ⊥) → ⊥) (table document variables value report : List ℕ)
    (h : (value' report' : List ℕ) (a : ℕ) → Coerced End table document variables value report value' report' a → ⊥) where
  with_end : ValueLent value report → ValueShort table document variables → (e : Ending) → End e → ⊥
  with_end l s (ends k shown) d = h _ _ _ (calls.refused l s d refl refl)
  with_end l s (yields bs) d = h _ _ _ (calls.answered l s d refl refl)

  with_table : ValueLent value report → length document ≤ most_text → length variables ≤ most_text → Dec (length table ≤ most_table) → ⊥
  with_table l x y (yes z) = some_end (with_end l (x, y, z))
  with_table l x y (no z) = h _ _ _ (calls.long_table l x y (lt_of_not-le z) refl refl)

  with_variables : ValueLent value report → length document ≤ most_text → Dec (length variables ≤ most_text) → ⊥
  with_variables l x (yes y) = with_table l x y (dec_le (length table) most_table)
  with_variables l x (no y) = h _ _ _ (calls.long_variables l x (lt_of_not-le y) refl refl)

  with_document : ValueLent value report → Dec (length document ≤ most_text) → ⊥
  with_document l (yes x) = with_variables l x (dec_le (length variables) most_text)
  with_document l (no x) = h _ _ _ (calls.long_document l (lt_of_not-le x) refl refl)

  with_value : report_size ≤ length report → Dec (most_coerced ≤ length value) → ⊥
  with_value r (yes w) = with_document (r, w) (dec_le (length document) most_text)
  with_value r (no w) = h _ _ _ (calls.short_value r (lt_of_not-le w) refl refl)

  with_report : Dec (report_size ≤ length report) → ⊥
  with_report (yes r) = with_value r (dec_le most_coerced (length value))
  with_report (no r) = h _ _ _ (calls.short_report (lt_of_not-le r) refl refl)

pub coerced_variables_some : (table document name variables value report : List ℕ) →
    ((value' report' : List ℕ) (a : ℕ) → CoercedVariables table document name variables value report value' report' a → ⊥) → ⊥
coerced_variables_some table document name variables value report h =
    with_report (VariablesEnd table document name variables) (variables_unended table document name variables) table document variables value report h (dec_le report_size (length report))

pub coerced_arguments_some : (table document name variables : List ℕ) (row : ℕ) (value report : List ℕ) →
    ((value' report' : List ℕ) (a : ℕ) → CoercedArguments table document name variables row value report value' report' a → ⊥) → ⊥
coerced_arguments_some table document name variables row value report h =
    with_report (ArgumentsEnd table document name variables row) (arguments_unended table document name variables row) table document variables value report h (dec_le report_size (length report))
