-- From what is read, judged and told to what a check must do.
use mathlib.Core.Path.{◌≡◌, sym, ap, ◌∙◌, subst}
use mathlib.Core.List.{List, [], ◌∷◌, ◌++◌, append-nil}
use Prim.Native.Nat.{ℕ, ◌-◌, ◌*◌, ◌≤◌}
use native.Mathlib.Omega.{arith}
use lib.ListN.{length, take, drop, replicate, drop_of_length-le}
use lib.Seq.{length-take-le, take_at}
use Rattle.std.specs.Prelude.{Result, Ok, Err}
use Rattle.paper.specs.Numbers.{most_text, row_size, rows_size, report_size, accepted}
use Rattle.paper.specs.Language.{Document}
use Rattle.paper.specs.Rows.{Row, flat}
use Rattle.paper.specs.Refusals.{number_of}
use Rattle.paper.specs.Calls.{filled, tells}
use Rattle.paper.specs.declared.Refusal.{Refusal}
use Rattle.paper.proofs.Lexing.{from}
use Rattle.paper_theory.proofs.TokensLaws.{tokens_are}
use Rattle.paper_theory.proofs.GoingSaid.{going_halt}
use Rattle.paper_theory.proofs.CallsGoing.{from_rising}
use Rattle.paper_table.specs.Types.{table_of}
use Rattle.paper_table.specs.Judging.{judge, table_number}
use Rattle.paper_table.specs.TableCalls.{tells_table}
use Rattle.paper_table.specs.declared.TableAnswer.{TableAnswer}
use Rattle.paper_table.specs.declared.TableAnswer.TheVariants.{Accepted}
use Rattle.paper_query.specs.QueryRules.{Judged}
use Rattle.paper_query.specs.DocumentCalls.{read, Lent, Short, CheckedDocument, refuses_table, refuses_text, breaks_rule, accepts}
use Rattle.paper_query.specs.declared.QueryAnswer.{QueryAnswer}
use Rattle.paper_query.specs.declared.QueryAnswer.TheVariants.{Fits, Breaks}
use Rattle.query_rows.specs.Rowed.{doc_of}
use Rattle.query_rows.proofs.ReadRows.{Taken, cleared_taken}
use Rattle.text_cursor.specs.declared.Cursor.{Cursor}
use Rattle.call_buffers.specs.Buffers.{cleared}
use Rattle.call_endings.specs.Endings.{Ended}
use Rattle.text_answer.specs.Parsing.{Filled}
use Rattle.text_answer.proofs.FilledLaws.{rows_filled, whole_room, whole_size}

-- rows of the fixed size have nothing beyond it
pub none_beyond : (xs rows : List ℕ) → length rows ≡ rows_size → xs ≡ xs ++ drop rows_size rows
none_beyond xs rows e = sym (ap (λ (l : List ℕ). xs ++ l) (drop_of_length-le rows {i = rows_size} (omega arith)) ∙ append-nil xs)

all_cleared : (rows rows₁ : List ℕ) → length rows ≡ rows_size → length rows₁ ≡ rows_size → cleared 0 rows₁ ≡ filled rows_size [] rows
all_cleared rows rows₁ e f = ap (λ (n : ℕ). replicate (n - 0) 0) f ∙ none_beyond (replicate rows_size 0) rows e

-- a document read through: its rows, with what all that is judged of them asks
pub done_taken : (s rows rows₁ : List ℕ) (r : Result Cursor Refusal) (d : Cursor) → length s ≤ most_text → length rows ≡ rows_size → Filled Document s rows rows₁ r → r ≡ Ok d → Taken Document s rows₁ d.rows
done_taken s rows rows₁ r d l e f q = cleared_taken Document s rows rows₁ d.rows l e (subst (λ (x : Result Cursor Refusal). Filled Document s rows rows₁ x) q f)

-- A document read by an accepted table, in rows of the fixed size.
module _ (table document rows report rows₁ : List ℕ) (lent : Lent rows report) (short : Short table document) (e : length rows ≡ rows_size) (j : judge table ≡ Accepted)
    (r : Result Cursor Refusal) (f : Filled Document document rows rows₁ r) where
  pub text_refused : (report' : List ℕ) (z : Refusal) (n : ℕ) → r ≡ Err z → n ≡ number_of z → report' ≡ tells z report → CheckedDocument table document rows report rows₁ report' n
  text_refused report' z n q a p =
      let g = subst (λ (y : Result Cursor Refusal). Filled Document document rows rows₁ y) q f in
      subst (CheckedDocument table document rows report rows₁ report') (sym a)
      (refuses_text lent short j (tokens_are document) (going_halt Document (from document 0) (from_rising document) rows z g.0) (g.1 ∙ none_beyond (replicate rows_size 0) rows e) p)

  module _ (d : Cursor) (q : r ≡ Ok d) where
    taken : Taken Document document rows₁ d.rows
    taken = done_taken document rows rows₁ r d short.0 e f q

    judged_read : (a : QueryAnswer) → Judged (table_of table) (doc_of document rows₁ d.rows) a → Judged (table_of table) (read document taken.list) a
    judged_read a = subst (λ (rs : List Row). Judged (table_of table) (read document rs) a) taken.are

    rows_left : rows₁ ≡ filled rows_size (flat taken.list) rows
    rows_left =
        let g = subst (λ (y : Result Cursor Refusal). Filled Document document rows rows₁ y) q f in
        let m = g.0 in
        let n = row_size * m.rows in
        let size = whole_size document rows m e g.1 in
        let room = whole_room document rows m e g.1 in
        let zeros : List ℕ = replicate (length m.cells - n) 0 in
        let first : length (take n m.cells) ≡ n = length-take-le n m.cells (omega arith) in
        let same : take n m.cells ≡ flat taken.list = sym (take_at (take n m.cells) zeros n first) ∙ ap (take n) (sym g.2) ∙ ap (λ (k : ℕ). take (row_size * k) rows₁) g.3 ∙ taken.cells in
        none_beyond rows₁ rows e ∙ ap (λ (l : List ℕ). l ++ drop rows_size rows) g.2 ∙ rows_filled m.cells rows n size room ∙ ap (λ (l : List ℕ). filled rows_size l rows) same

    pub judged_told : (rows' report' : List ℕ) (a : QueryAnswer) (n : ℕ) → Judged (table_of table) (doc_of document rows₁ d.rows) a → Ended d.rows a rows₁ report rows' report' n →
        CheckedDocument table document rows report rows' report' n
    unfolding Ended
    judged_told rows' report' (Breaks i k) n h t =
        subst (CheckedDocument table document rows report rows' report') (sym t.0)
        (breaks_rule lent short j (tokens_are document) taken.said (judged_read (Breaks i k) h) (t.1 ∙ all_cleared rows rows₁ e taken.rowed.size) t.2)
    judged_told rows' report' Fits n h t =
        subst (CheckedDocument table document rows report rows' report') (sym t.0)
        (accepts lent short j (tokens_are document) taken.said (judged_read Fits h) (t.1 ∙ rows_left) (t.2 ∙ ap (λ (k : ℕ). filled report_size (accepted ∷ k ∷ []) report) taken.count))

-- A table that is not accepted.
pub table_refused : (table document rows report rows' report' : List ℕ) (a : TableAnswer) (n : ℕ) → Lent rows report → Short table document → length rows ≡ rows_size → a ≡ judge table → (a ≡ Accepted → ⊥) →
    rows' ≡ cleared 0 rows → n ≡ table_number a → report' ≡ tells_table a report → CheckedDocument table document rows report rows' report' n
table_refused table document rows report rows' report' a n lent short e q w c p t =
    subst (CheckedDocument table document rows report rows' report') (sym p) (refuses_table lent short (sym q) w (c ∙ all_cleared rows rows e e) t)
