-- One thing only comes of a text that is read, and of a document that is judged.
use mathlib.Core.Path.{◌≡◌, subst}
use mathlib.Core.List.{List}
use Prim.Native.Nat.{ℕ}
use native.Mathlib.Omega.{arith}
use Rattle.paper.specs.Language.{Part, Document}
use Rattle.paper.specs.Tokens.{Text, Tokens}
use Rattle.paper.specs.Rows.{Row}
use Rattle.paper.specs.Reading.{Answer, rows_are, refuses, TextAnswer}
use Rattle.paper.specs.declared.Refusal.{Refusal}
use Rattle.paper_theory.proofs.SaidOne.{said_one}
use Rattle.paper_theory.proofs.TokensLaws.{tokens_one}
use Rattle.paper_table.specs.Types.{table_of}
use Rattle.paper_query.specs.QueryRules.{Judged}
use Rattle.paper_query.specs.DocumentCalls.{read}
use Rattle.paper_query.specs.declared.QueryAnswer.{QueryAnswer}
use Rattle.paper_query.proofs.JudgedOne.{judged_one}

-- what comes of an accepted table and a document: it is refused, or it has rows and is judged
pub data Reading : Type 0 where
  refused : Refusal → Reading
  judged : List Row → QueryAnswer → Reading

pub data Comes (table document : List ℕ) : Reading → Type 0 where
  ends : {t : Text} {r : Refusal} → Tokens 0 document t → TextAnswer Document t (refuses r) → Comes table document (refused r)
  goes : {t : Text} {rs : List Row} {q : QueryAnswer} → Tokens 0 document t → TextAnswer Document t (rows_are rs) → Judged (table_of table) (read document rs) q → Comes table document (judged rs q)

-- what the text says, for two ways of having its tokens
pub said_same : {p : Part} {s : List ℕ} {t t' : Text} {a a' : Answer} → Tokens 0 s t → Tokens 0 s t' → TextAnswer p t a → TextAnswer p t' a' → a ≡ a'
said_same {p} {a'} k k' s s' = said_one s (subst (λ (z : Text). TextAnswer p z a') (tokens_one k' k) s')

pub rows_inj : {rs rs' : List Row} → rows_are rs ≡ rows_are rs' → rs ≡ rs'
rows_inj q = cc

pub refuses≢rows : {r : Refusal} {rs : List Row} → refuses r ≡ rows_are rs → ⊥
refuses≢rows q = let z : ◌≡◌ {A = ℕ} 0 1 = cc in omega arith

pub comes_one : {table document : List ℕ} {o o' : Reading} → Comes table document o → Comes table document o' → o ≡ o'
comes_one (ends k s) (ends k' s') = let q = said_same k k' s s' in cc
comes_one (ends k s) (goes k' s' j') = absurd (refuses≢rows (said_same k k' s s'))
comes_one (goes k s j) (ends k' s') = absurd (refuses≢rows (said_same k' k s' s))
comes_one {table} {document} (goes {rs} {q} k s j) (goes {rs = rs'} {q = q'} k' s' j') =
    let e : rs' ≡ rs = rows_inj (said_same k' k s' s) in
    let f : q ≡ q' = judged_one j (subst (λ (z : List Row). Judged (table_of table) (read document z) q') e j') in
    cc
