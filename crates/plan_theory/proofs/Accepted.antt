-- An accepted document has few rows, each behind its parent, and keeps rules 7 and 8.
use mathlib.Core.Path.{◌≡◌, refl, subst}
use mathlib.Core.Logic.{◌⊎◌}
use mathlib.Core.List.{List, [], ◌∷◌}
use Prim.Native.Nat.{ℕ, ◌<◌, ◌≤◌}
use native.Mathlib.Omega.{arith}
use lib.ListN.{length, replicate, length-replicate}
use Rattle.paper.specs.Grammar.{nt}
use Rattle.paper.specs.Numbers.{most_rows, rows_size, no_parent}
use Rattle.paper.specs.Language.{Part, Document}
use Rattle.paper.specs.Tokens.{Text, Tokens}
use Rattle.paper.specs.Rows.{Row}
use Rattle.paper.specs.Reading.{rows_are, refuses, TextAnswer, accepts}
use Rattle.paper.proofs.Lexing.{from}
use Rattle.paper.proofs.Going.{Out, start, whole, halt, go}
use Rattle.paper_theory.proofs.TokensLaws.{tokens_from}
use Rattle.paper_theory.proofs.CallsGoing.{from_rising}
use Rattle.paper_theory.proofs.GoingSaid.{going_whole, going_halt}
use Rattle.paper_theory.proofs.SaidOne.{said_one}
use Rattle.paper_table.specs.Types.{table_of}
use Rattle.paper_query.specs.Constructs.{count, parent_of}
use Rattle.paper_query.specs.DocumentCalls.{read}
use Rattle.query_rows.proofs.TextRows.{text_rows}
use Rattle.paper_query.specs.Opening.{AcceptedDocument}
use Rattle.plan_theory.proofs.Plannable.{Plannable, judged_plannable}

-- a text that has rows has at most 2,048
pub said_few : (p : Part) (s : List ℕ) (t : Text) (rs : List Row) → Tokens 0 s t → TextAnswer p t (rows_are rs) → length rs ≤ most_rows
said_few p s t rs k a = on (go (start cells) (nt p ∷ []) (from s 0)) refl
  where
    cells : List ℕ
    cells = replicate rows_size 0

    said : TextAnswer p (from s 0) (rows_are rs)
    said = subst (λ (x : Text). TextAnswer p x (rows_are rs)) (tokens_from k) a

    on : (o : Out) → go (start cells) (nt p ∷ []) (from s 0) ≡ o → length rs ≤ most_rows
    on (whole m) q =
        let g = going_whole p (from s 0) cells m (length-replicate {A = ℕ} rows_size 0) q in
        let e : rows_are rs ≡ rows_are g.0 = said_one said g.1 in
        let z : rs ≡ g.0 = cc in
        rw z g.3
    on (halt r) q =
        let e : rows_are rs ≡ refuses r = said_one said (going_halt p (from s 0) (from_rising s) cells r q) in
        let z : ◌≡◌ {A = ℕ} 0 1 = cc in absurd (omega arith)

pub said_parents : (p : Part) (s : List ℕ) (t : Text) (rs : List Row) → Tokens 0 s t → TextAnswer p t (rows_are rs) → (i : ℕ) → i < count (read s rs) → (parent_of (read s rs) i < i) ⊎ (parent_of (read s rs) i ≡ no_parent)
said_parents p s t rs k (accepts {es = es} w r c) i h = (text_rows s t es k i h).0

pub accepted_plannable : (table document : List ℕ) (rs : List Row) → AcceptedDocument table document rs → Plannable (read document rs)
accepted_plannable table document rs a =
    judged_plannable (table_of table) (read document rs) (said_few Document document a.text rs a.tokens a.said) (said_parents Document document a.text rs a.tokens a.said) a.judged
