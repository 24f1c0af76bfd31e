-- One thing only may either coercing call answer and leave in its buffers.
use mathlib.Core.Path.{◌≡◌, refl, sym, ap, ◌∙◌, subst}
use mathlib.Core.List.{List, [], ◌∷◌}
use Prim.Native.Nat.{ℕ, ◌≤◌, ◌<◌}
use native.Mathlib.Omega.{arith}
use lib.ListN.{length}
use Rattle.paper.specs.Numbers.{report_size, most_text, input_document, input_variables, accepted}
use Rattle.paper.specs.Rows.{Row}
use Rattle.paper.specs.Refusals.{number_of, shown_in_text}
use Rattle.paper.specs.Reading.{refuses}
use Rattle.paper.specs.Calls.{filled, tells}
use Rattle.paper.specs.declared.Refusal.{Refusal}
use Rattle.paper.specs.declared.Refusal.TheVariants.{Buffer, OverLength}
use Rattle.paper_table.specs.TableNumbers.{most_table, input_table}
use Rattle.paper_table.specs.Types.{table_of}
use Rattle.paper_query.specs.Enclosing.{field_at}
use Rattle.paper_query.specs.DocumentCalls.{read}
use Rattle.paper_query.specs.Opening.{stops, opens, Opened}
use Rattle.paper_query.proofs.InOrder.{Left, left, One, Checks, failed, later, checks_one}
use Rattle.paper_query.proofs.ReadOne.{said_same, rows_inj, refuses≢rows}
use Rattle.paper_query.proofs.OpeningOne.{opened_one}
use Rattle.paper_values.specs.ValueNumbers.{most_coerced}
use Rattle.paper_values.specs.Values.{Tree, Pairs, Out}
use Rattle.paper_values.specs.Kinds.{kind_of_type}
use Rattle.paper_values.specs.RowValues.{placed, arguments_at}
use Rattle.paper_values.specs.DocumentDues.{variable_dues, given_in, argument_dues, ReachedField}
use Rattle.paper_values.specs.CallRules.{CoercesVariables, CoercesArguments}
use Rattle.paper_values.specs.ValueCalls.{Ending, ends, yields, ended, as_object, VariablesEnd, nothing_opened, text_refused, variables_coerced, ArgumentsEnd, no_operation_opened, no_field_reached, variables_unread, arguments_coerced, Coerced, short_report, short_value, long_document, long_variables, long_table, refused, answered, CoercedVariables, CoercedArguments}
use Rattle.paper_values.proofs.CallsExact.{variables_one, arguments_one}

-- ---- how the call ends

stops_inj : {k k' : ℕ} {shown shown' : List ℕ} → stops k shown ≡ stops k' shown' → ends k shown ≡ ends k' shown'
stops_inj q = cc

stops≢opens : {k op : ℕ} {shown : List ℕ} {rs : List Row} → stops k shown ≡ opens rs op → ⊥
stops≢opens q = let z : ◌≡◌ {A = ℕ} 0 1 = cc in omega arith

opens_rows : {op op' : ℕ} {rs rs' : List Row} → opens rs op ≡ opens rs' op' → rs ≡ rs'
opens_rows q = cc

opens_op : {op op' : ℕ} {rs rs' : List Row} → opens rs op ≡ opens rs' op' → op ≡ op'
opens_op q = cc

refuses_inj : {r r' : Refusal} → refuses r ≡ refuses r' → r ≡ r'
refuses_inj q = cc

pub variables_end_one : {table document name variables : List ℕ} {e f : Ending} → VariablesEnd table document name variables e → VariablesEnd table document name variables f → e ≡ f
variables_end_one (nothing_opened p) (nothing_opened q) = stops_inj (opened_one p q)
variables_end_one (nothing_opened p) (text_refused q t s) = absurd (stops≢opens (opened_one p q))
variables_end_one (nothing_opened p) (variables_coerced q t s c) = absurd (stops≢opens (opened_one p q))
variables_end_one (text_refused p t s) (nothing_opened q) = absurd (stops≢opens (opened_one q p))
variables_end_one (text_refused p t s) (text_refused q t' s') = ap (λ (r : Refusal). ends (number_of r) (shown_in_text input_variables r)) (refuses_inj (said_same t t' s s'))
variables_end_one (text_refused p t s) (variables_coerced q t' s' c) = absurd (refuses≢rows (said_same t t' s s'))
variables_end_one (variables_coerced p t s c) (nothing_opened q) = absurd (stops≢opens (opened_one q p))
variables_end_one (variables_coerced p t s c) (text_refused q t' s') = absurd (refuses≢rows (said_same t' t s' s))
variables_end_one {table} {document} {name} {variables} (variables_coerced {rs} {vs} {op} {o = o} p t s c) (variables_coerced {rs = rs'} {vs = vs'} {op = op'} {o = o'} q t' s' c') =
    let x : rs' ≡ rs = opens_rows (opened_one q p) in
    let y : op' ≡ op = opens_op (opened_one q p) in
    let z : vs' ≡ vs = rows_inj (said_same t' t s' s) in
    ap (λ (o : Out Pairs). ended (as_object o)) (variables_one (kind_of_type (table_of table)) c
    (subst (λ (b : List Row). CoercesVariables (kind_of_type (table_of table)) (given_in (read variables b)) (variable_dues (read document rs) op) o') z
    (subst (λ (b : ℕ). CoercesVariables (kind_of_type (table_of table)) (given_in (read variables vs')) (variable_dues (read document rs) b) o') y
    (subst (λ (b : List Row). CoercesVariables (kind_of_type (table_of table)) (given_in (read variables vs')) (variable_dues (read document b) op') o') x c'))))

abbrev Argued : (table document variables : List ℕ) → ℕ → List Row → List Row → ℕ → Out Tree → Type 0
Argued table document variables row rs vs op o =
    CoercesArguments (kind_of_type (table_of table)) (given_in (read variables vs)) (variable_dues (read document rs) op) (placed input_document (read document rs) row)
    (arguments_at input_document (read document rs) row) (argument_dues (field_at (table_of table) (read document rs) row)) o

reached_same : {table document name : List ℕ} {row op op' : ℕ} {rs rs' : List Row} → Opened table document name (opens rs op) → Opened table document name (opens rs' op')
    → ReachedField (read document rs) op row → ReachedField (read document rs') op' row
reached_same {document} {row} {op} {op'} {rs} {rs'} p q r =
    subst (λ (b : ℕ). ReachedField (read document rs') b row) (opens_op (opened_one p q)) (subst (λ (b : List Row). ReachedField (read document b) op row) (opens_rows (opened_one p q)) r)

pub arguments_end_one : {table document name variables : List ℕ} {row : ℕ} {e f : Ending} → ArgumentsEnd table document name variables row e → ArgumentsEnd table document name variables row f → e ≡ f
arguments_end_one (no_operation_opened p) (no_operation_opened q) = stops_inj (opened_one p q)
arguments_end_one (no_operation_opened p) (no_field_reached q n) = absurd (stops≢opens (opened_one p q))
arguments_end_one (no_operation_opened p) (variables_unread q h t s) = absurd (stops≢opens (opened_one p q))
arguments_end_one (no_operation_opened p) (arguments_coerced q h t s c) = absurd (stops≢opens (opened_one p q))
arguments_end_one (no_field_reached p n) (no_operation_opened q) = absurd (stops≢opens (opened_one q p))
arguments_end_one (no_field_reached p n) (no_field_reached q m) = refl
arguments_end_one (no_field_reached p n) (variables_unread q h t s) = absurd (n (reached_same q p h))
arguments_end_one (no_field_reached p n) (arguments_coerced q h t s c) = absurd (n (reached_same q p h))
arguments_end_one (variables_unread p h t s) (no_operation_opened q) = absurd (stops≢opens (opened_one q p))
arguments_end_one (variables_unread p h t s) (no_field_reached q n) = absurd (n (reached_same p q h))
arguments_end_one (variables_unread p h t s) (variables_unread q h' t' s') = ap (λ (r : Refusal). ends (number_of r) (shown_in_text input_variables r)) (refuses_inj (said_same t t' s s'))
arguments_end_one (variables_unread p h t s) (arguments_coerced q h' t' s' c) = absurd (refuses≢rows (said_same t t' s s'))
arguments_end_one (arguments_coerced p h t s c) (no_operation_opened q) = absurd (stops≢opens (opened_one q p))
arguments_end_one (arguments_coerced p h t s c) (no_field_reached q n) = absurd (n (reached_same p q h))
arguments_end_one (arguments_coerced p h t s c) (variables_unread q h' t' s') = absurd (refuses≢rows (said_same t' t s' s))
arguments_end_one {table} {document} {name} {variables} {row} (arguments_coerced {rs} {vs} {op} {o = o} p h t s c) (arguments_coerced {rs = rs'} {vs = vs'} {op = op'} {o = o'} q h' t' s' c') =
    let x : rs' ≡ rs = opens_rows (opened_one q p) in
    let y : op' ≡ op = opens_op (opened_one q p) in
    let z : vs' ≡ vs = rows_inj (said_same t' t s' s) in
    ap ended (arguments_one (kind_of_type (table_of table)) c
    (subst (λ (b : List Row). Argued table document variables row rs b op o') z
    (subst (λ (b : ℕ). Argued table document variables row rs vs' b o') y
    (subst (λ (b : List Row). Argued table document variables row b vs' op' o') x c'))))

-- ---- what it leaves

leaves : List ℕ → List ℕ → Ending → Left
leaves value report (ends k shown) = left k (filled most_coerced [] value) (filled report_size (k ∷ shown) report)
leaves value report (yields bs) = left accepted (filled most_coerced bs value) (filled report_size (accepted ∷ length bs ∷ []) report)

data Told (End : Ending → Type 0) (value report : List ℕ) (x : Left) : Type 0 where
  told : {e : Ending} → End e → x ≡ leaves value report e → Told End value report x

module _ (End : Ending → Type 0) (one : (e f : Ending) → End e → End f → e ≡ f) (table document variables value report : List ℕ) where
  told_one : One (Told End value report)
  unfolding One
  told_one x y (told {e} c q) (told {e = f} d r) = q ∙ ap (leaves value report) (one e f c d) ∙ sym r

  abbrev TableShort : Left → Type 0
  TableShort = Checks (most_table < length table) (length table ≤ most_table) (left (number_of (OverLength input_table)) value (tells (OverLength input_table) report)) (Told End value report)

  abbrev VariablesShort : Left → Type 0
  VariablesShort = Checks (most_text < length variables) (length variables ≤ most_text) (left (number_of (OverLength input_variables)) value (tells (OverLength input_variables) report)) TableShort

  abbrev DocumentShort : Left → Type 0
  DocumentShort = Checks (most_text < length document) (length document ≤ most_text) (left (number_of (OverLength input_document)) value (tells (OverLength input_document) report)) VariablesShort

  abbrev ValueBuffer : Left → Type 0
  ValueBuffer = Checks (length value < most_coerced) (most_coerced ≤ length value) (left (number_of Buffer) value (tells Buffer report)) DocumentShort

  abbrev ReportLent : Left → Type 0
  ReportLent = Checks (length report < report_size) (report_size ≤ length report) (left (number_of Buffer) value report) ValueBuffer

  report_lent_one : One ReportLent
  report_lent_one =
      checks_one _ _ (λ a b. omega arith)
      (checks_one _ _ (λ a b. omega arith)
      (checks_one _ _ (λ a b. omega arith)
      (checks_one _ _ (λ a b. omega arith)
      (checks_one _ _ (λ a b. omega arith) told_one))))

  in_order : {value' report' : List ℕ} {n : ℕ} → Coerced End table document variables value report value' report' n → ReportLent (left n value' report')
  unfolding leaves
  in_order (short_report h e f) = failed h cc
  in_order (short_value h w e f) = later h (failed w cc)
  in_order (long_document l w e f) = later l.0 (later l.1 (failed w cc))
  in_order (long_variables l x w e f) = later l.0 (later l.1 (later x (failed w cc)))
  in_order (long_table l x y w e f) = later l.0 (later l.1 (later x (later y (failed w cc))))
  in_order (refused l s d e f) = later l.0 (later l.1 (later s.0 (later s.1 (later s.2 (told d cc)))))
  in_order (answered l s d e f) = later l.0 (later l.1 (later s.0 (later s.1 (later s.2 (told d cc)))))

  pub coerced_one : {value' report' value'' report'' : List ℕ} {n n' : ℕ} →
      Coerced End table document variables value report value' report' n → Coerced End table document variables value report value'' report'' n' →
      (n ≡ n') × (value' ≡ value'') × (report' ≡ report'')
  unfolding One
  coerced_one c c' = let e = report_lent_one _ _ (in_order c) (in_order c') in (cc, cc, cc)

pub coerced_variables_one : {table document name variables value report value' report' value'' report'' : List ℕ} {n n' : ℕ} →
    CoercedVariables table document name variables value report value' report' n → CoercedVariables table document name variables value report value'' report'' n' →
    (n ≡ n') × (value' ≡ value'') × (report' ≡ report'')
coerced_variables_one {table} {document} {name} {variables} {value} {report} c c' =
    coerced_one (VariablesEnd table document name variables) (λ e f x y. variables_end_one x y) table document variables value report c c'

pub coerced_arguments_one : {table document name variables value report value' report' value'' report'' : List ℕ} {row n n' : ℕ} →
    CoercedArguments table document name variables row value report value' report' n → CoercedArguments table document name variables row value report value'' report'' n' →
    (n ≡ n') × (value' ≡ value'') × (report' ≡ report'')
coerced_arguments_one {table} {document} {name} {variables} {value} {report} {row = row} c c' =
    coerced_one (ArgumentsEnd table document name variables row) (λ e f x y. arguments_end_one x y) table document variables value report c c'
