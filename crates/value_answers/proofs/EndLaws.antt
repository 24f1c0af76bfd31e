-- From what is read and coerced to how a call ends.
use mathlib.Core.Path.{◌≡◌, refl, sym, ap, ◌∙◌, subst}
use mathlib.Core.Logic.{◌⊎◌, inl, inr}
use mathlib.Core.List.{List, [], ◌∷◌}
use Prim.Native.Nat.{ℕ, ◌≤◌}
use native.Mathlib.Omega.{arith}
use lib.ListN.{length}
use lib.Dec.{T}
use denote.Enum.Declared.{tag_of}
use types.Run.{OneOf}
use Rattle.std.specs.Prelude.{Result, Ok, Err}
use Rattle.paper.specs.Numbers.{most_text, rows_size, kind_field, input_document, input_variables}
use Rattle.paper.specs.Language.{Document, VariablesText}
use Rattle.paper.specs.Rows.{Row}
use Rattle.paper.specs.Refusals.{number_of, shown_in_text}
use Rattle.paper.specs.declared.Refusal.{Refusal}
use Rattle.paper.proofs.Lexing.{from}
use Rattle.paper_theory.proofs.TokensLaws.{tokens_are}
use Rattle.paper_theory.proofs.GoingSaid.{going_halt}
use Rattle.paper_theory.proofs.CallsGoing.{from_rising}
use Rattle.paper_table.specs.Types.{table_of}
use Rattle.paper_query.specs.Constructs.{Doc, count, row_of, is}
use Rattle.paper_query.specs.Enclosing.{field_at}
use Rattle.paper_query.specs.DocumentCalls.{read}
use Rattle.paper_query.specs.Opening.{stops, opens, Opened}
use Rattle.text_cursor.specs.declared.Cursor.{Cursor}
use Rattle.text_documents.specs.Documents.{Ended as TextEnded}
use Rattle.query_rows.specs.Rowed.{rows_in, doc_of}
use Rattle.query_rows.proofs.ReadRows.{Taken, ended_taken}
use Rattle.query_spreads.proofs.OwnerLaws.{row_within}
use Rattle.query_opening.specs.Opens.{Ready, Opens, stop_number, stop_shown}
use Rattle.query_opening.specs.declared.NotOpened.{NotOpened}
use Rattle.query_opening.specs.declared.NotOpened.TheVariants.{BadTable, BadText as BadDocument, Broken, NoOperation}
use Rattle.query_subtrees.specs.Past.{Pasts}
use Rattle.query_counts.proofs.FewRows.{taken_variables}
use Rattle.paper_values.specs.ValueNumbers.{most_coerced}
use Rattle.paper_values.specs.Values.{Tree, Out}
use Rattle.paper_values.specs.RowValues.{placed, arguments_at}
use Rattle.paper_values.specs.DocumentDues.{variable_dues, given_in, argument_dues, ReachedField}
use Rattle.paper_values.specs.ValueCalls.{Ending, ends, ended, VariablesEnd, nothing_opened, text_refused, variables_coerced, ArgumentsEnd, no_operation_opened, no_field_reached, variables_unread, arguments_coerced}
use Rattle.paper_values.proofs.CallsExact.{variables_have, arguments_have}
use Rattle.value_texts.proofs.TextSpans.{taken_spanned, taken_object}
use Rattle.value_definitions.proofs.ReadLaws.{taken_treed}
use Rattle.value_held.specs.Given.{kinds_in}
use Rattle.value_fields.specs.Wants.{Prepared, Wants}
use Rattle.std.proofs.Common.{Option as Maybe, Some, Result, Ok, Err}
use Rattle.value_fields.specs.declared.Span.{Span}
use Rattle.value_fields.proofs.AcceptedLaws.{accepted_slim}
use Rattle.value_fields.proofs.MeantLaws.{opened_operation}
use Rattle.value_endings.specs.Endings.{ending_of}
use Rattle.value_endings.specs.declared.NotCoerced.{NotCoerced}
use Rattle.value_variables.specs.Variables.{Asked}
use Rattle.value_results.specs.Results.{Few, FieldServes, result_of, outcome_of}
use Rattle.value_results.specs.Results.{Gives as Comes}
use Rattle.value_results.specs.declared.RefusedValue.{RefusedValue}
use Rattle.value_results.specs.declared.Task.{Task}
use Rattle.value_results.specs.declared.Task.TheVariants.{OfOperation}
use Rattle.value_answers.specs.Answers.{Stands, Standing, ended_of, Gives, ReadEnd, unread, done, FieldEnd, unreached, reached, OpenEnd, EndFor}
use Rattle.value_answers.specs.declared.Call.{Call}
use Rattle.value_answers.specs.declared.Call.TheVariants.{Variables, Arguments}

-- ---- what is asked of rows with their pasts

module _ (t book s rows past s1 rows1 past1 : List ℕ) (n n1 : ℕ) (st : Stands t book s rows n) (tk : Taken VariablesText s1 rows1 n1) (h : Pasts (rows_in rows n) past) (h1 : Pasts (rows_in rows1 n1) past1) where
  pub asks_both : Asked t book s rows n past s1 rows1 n1 past1
  asks_both = record {
    ready = record { booked = st.booked; slim = accepted_slim t st.accepted; treed = taken_treed Document s rows past n st.taken h; spanned = taken_spanned Document tt s rows n st.taken };
    taken = st.taken;
    ready1 = record { booked = st.booked; slim = accepted_slim t st.accepted; treed = taken_treed VariablesText s1 rows1 past1 n1 tk h1; spanned = taken_spanned VariablesText tt s1 rows1 n1 tk };
    some1 = (taken_object s1 rows1 n1 tk).0;
  }

pub stands_few : (t book s rows held out : List ℕ) (n op : ℕ) → Stands t book s rows n → length held ≡ 448 → length out ≡ most_coerced → Few (doc_of s rows n) op held out
stands_few t book s rows held out n op st a b = record { few = taken_variables s rows n st.taken op; held_size = a; out_size = b }

-- ---- what comes of the task

same_end : (o : Result ℕ RefusedValue) (v : List ℕ) → outcome_of o v ≡ ending_of (ended_of o) v
same_end (Ok at) v = refl
same_end (Err f) v = refl

pub task_ends : {x : Out Tree} {v : List ℕ} {o : Result ℕ RefusedValue} {e : Result ℕ NotCoerced} → Comes x v o → e ≡ ended_of o → Gives x v e
task_ends {x} {v} {o} g q = subst (λ (z : Result ℕ NotCoerced). Gives x v z) (sym q) record { same = g.same ∙ same_end o v }

-- ---- the variables text

module _ (t : List ℕ) (d : Doc) (op : ℕ) (task : Task) (s1 rows rows1 : List ℕ) (r : Result Cursor Refusal) (f : TextEnded VariablesText s1 rows rows1 r) where
  pub text_taken : (c : Cursor) → length s1 ≤ most_text → length rows ≡ rows_size → r ≡ Ok c → Taken VariablesText s1 rows1 c.rows
  text_taken c l e q = ended_taken VariablesText s1 rows rows1 c.rows l e (subst (λ (x : Result Cursor Refusal). TextEnded VariablesText s1 rows rows1 x) q f)

  pub text_unread : (z : Refusal) → r ≡ Err z → ReadEnd t d op task s1 (ends (number_of z) (shown_in_text input_variables z))
  text_unread z q = unread (tokens_are s1) (going_halt VariablesText (from s1 0) (from_rising s1) rows z (subst (λ (x : Result Cursor Refusal). TextEnded VariablesText s1 rows rows1 x) q f))

pub text_read : (t : List ℕ) (d : Doc) (op : ℕ) (task : Task) (s1 rows1 v : List ℕ) (n1 : ℕ) (e : Result ℕ NotCoerced) → Taken VariablesText s1 rows1 n1 → Gives (result_of t d op (doc_of s1 rows1 n1) task) v e →
    ReadEnd t d op task s1 (ending_of e v)
text_read t d op task s1 rows1 v n1 e tk g =
    subst (ReadEnd t d op task s1) (ap (λ (rs : List Row). ended (result_of t d op (read s1 rs) task)) (sym tk.are) ∙ g.same) (done (tokens_are s1) tk.said)

-- ---- the operation's field

row_there : (d : Doc) (row : ℕ) → T (is kind_field (row_of d row)) → row ≤ count d
row_there d row f = let l = row_within d (is kind_field) row refl f in omega arith

pub field_serves : (t : List ℕ) (s rows : List ℕ) (n op row : ℕ) (w : Maybe Span) (k : Span) → Wants t (doc_of s rows n) op row w → w ≡ Some k → ReachedField (doc_of s rows n) op row × FieldServes t (doc_of s rows n) row k.start k.end
field_serves t s rows n op row w k h q =
    let x = subst (Wants t (doc_of s rows n) op row) q h in
    (x.0, record { there = row_there (doc_of s rows n) row x.0.field; holds = x.1 })

pub stands_prepared : (t book s rows : List ℕ) (n op : ℕ) → Standing t book s rows n op → Prepared t book s rows n op
stands_prepared t book s rows n op st = record { accepted = st.stands.accepted; booked = st.stands.booked; rowed = st.stands.taken.rowed; operation = st.operation }

pub by_call : (t : List ℕ) (d : Doc) (op : ℕ) (variables : List ℕ) (e : Ending) {call z : Call} → call ≡ z → OpenEnd t d op z variables e → OpenEnd t d op call variables e
by_call t d op variables e q = subst (λ (x : Call). OpenEnd t d op x variables e) (sym q)

-- ---- in whole

module _ {table document name : List ℕ} {rs : List Row} {op : ℕ} (o : Opened table document name (opens rs op)) (variables : List ℕ) where
  variables_end : {e : Ending} → ReadEnd table (read document rs) op OfOperation variables e → VariablesEnd table document name variables e
  variables_end (unread k s) = text_refused o k s
  variables_end (done {vs = vs} k s) = variables_coerced o k s (variables_have (kinds_in table) (given_in (read variables vs)) (variable_dues (read document rs) op))

  arguments_end : {row : ℕ} {e : Ending} → FieldEnd table (read document rs) op row variables e → ArgumentsEnd table document name variables row e
  arguments_end (unreached f) = no_field_reached o f
  arguments_end (reached f (unread k s)) = variables_unread o f k s
  arguments_end {row} (reached f (done {vs = vs} k s)) =
      arguments_coerced o f k s
      (arguments_have (kinds_in table) (given_in (read variables vs)) (variable_dues (read document rs) op) (placed input_document (read document rs) row) (arguments_at input_document (read document rs) row)
      (argument_dues (field_at (table_of table) (read document rs) row)))

  pub open_end : (call : Call) (e : Ending) → OpenEnd table (read document rs) op call variables e → EndFor call table document name variables e
  open_end Variables e h = variables_end h
  open_end (Arguments row) e h = arguments_end h

module _ (table document name variables rows book : List ℕ) where
  pub ready_standing : {n op : ℕ} → Ready table document name rows book n op → Standing table book document rows n op
  ready_standing r = record { stands = record { accepted = r.accepted.table_right; booked = r.booked; taken = r.taken }; operation = opened_operation r.opened }

  stopped : (o : NotOpened) → Opens table document name rows book (Err o) → Opened table document name (stops (stop_number (Err o)) (stop_shown (Err o)))
  stopped (BadTable a) h = h
  stopped (BadDocument r) h = h
  stopped (Broken i k) h = h
  stopped NoOperation h = h

  pub not_opened : (call : Call) (o : NotOpened) → Opens table document name rows book (Err o) → EndFor call table document name variables (ends (stop_number (Err o)) (stop_shown (Err o)))
  not_opened Variables o h = nothing_opened (stopped o h)
  not_opened (Arguments row) o h = no_operation_opened (stopped o h)
