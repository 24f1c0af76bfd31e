-- One thing only comes of opening an operation: the table is judged, the document read and judged, the operation found, each in one way.
use mathlib.Core.Path.{◌≡◌, refl, sym, ap, ◌∙◌}
use mathlib.Core.Option.{Option, none, some}
use mathlib.Core.List.{List, [], ◌∷◌}
use Prim.Native.Nat.{ℕ}
use Rattle.paper.specs.Rows.{Row}
use Rattle.paper.specs.Refusals.{number_of, shown_of}
use Rattle.paper_table.specs.Judging.{judge, table_number, table_shown}
use Rattle.paper_table.specs.declared.TableAnswer.{TableAnswer}
use Rattle.paper_table.specs.declared.TableAnswer.TheVariants.{Accepted}
use Rattle.paper_query.specs.QueryNumbers.{refuse_query}
use Rattle.paper_query.specs.DocumentCalls.{read}
use Rattle.paper_query.specs.Opening.{AcceptedDocument, operation_meant, refuse_no_operation, Outcome, stops, opens, Opened, table_refused, text_refused, rule_broken, no_operation, opened}
use Rattle.paper_query.specs.declared.QueryAnswer.TheVariants.{Fits, Breaks}
use Rattle.paper_query.proofs.ReadOne.{Reading, refused, judged, Comes, ends, goes, said_same, rows_inj, comes_one}

-- what opening gives then, and then for the operation that is meant
meant : List Row → Option ℕ → Outcome
meant rs none = stops refuse_no_operation []
meant rs (some op) = opens rs op

outcome : List ℕ → List ℕ → Reading → Outcome
outcome document name (refused r) = stops (number_of r) (shown_of r)
outcome document name (judged rs Fits) = meant rs (operation_meant (read document rs) name)
outcome document name (judged rs (Breaks i k)) = stops refuse_query (i ∷ k ∷ [])

-- the two checks in order
data InOrder (table document name : List ℕ) (o : Outcome) : Type 0 where
  failed : (judge table ≡ Accepted → ⊥) → o ≡ stops (table_number (judge table)) (table_shown (judge table)) → InOrder table document name o
  later : {r : Reading} → judge table ≡ Accepted → Comes table document r → o ≡ outcome document name r → InOrder table document name o

in_order : {table document name : List ℕ} {o : Outcome} → Opened table document name o → InOrder table document name o
unfolding outcome meant
in_order {table} (table_refused j n) = failed (λ e. n (sym j ∙ e)) (ap (λ (a : TableAnswer). stops (table_number a) (table_shown a)) (sym j))
in_order (text_refused j k s) = later j (ends k s) refl
in_order (rule_broken j k s q) = later j (goes k s q) refl
in_order {document} {name} (no_operation {rs} a e) = later a.table_right (goes a.tokens a.said a.judged) (ap (meant rs) (sym e))
in_order {document} {name} (opened {rs} a e) = later a.table_right (goes a.tokens a.said a.judged) (ap (meant rs) (sym e))

order_one : {table document name : List ℕ} {o o' : Outcome} → InOrder table document name o → InOrder table document name o' → o ≡ o'
order_one (failed n e) (failed n' e') = e ∙ sym e'
order_one (failed n e) (later j c e') = absurd (n j)
order_one (later j c e) (failed n' e') = absurd (n' j)
order_one {document} {name} (later j c e) (later j' c' e') = e ∙ ap (outcome document name) (comes_one c c') ∙ sym e'

pub opened_one : {table document name : List ℕ} {o o' : Outcome} → Opened table document name o → Opened table document name o' → o ≡ o'
opened_one p q = order_one (in_order p) (in_order q)

-- a document has one list of rows
pub accepted_one : {table document : List ℕ} {rs rs' : List Row} → AcceptedDocument table document rs → AcceptedDocument table document rs' → rs ≡ rs'
accepted_one a b = rows_inj (said_same a.tokens b.tokens a.said b.said)
