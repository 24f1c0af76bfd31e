-- One thing only may a call answer and leave in its buffers.
use mathlib.Core.Path.{◌≡◌, refl, sym, ap, ◌∙◌, subst}
use mathlib.Core.List.{List, [], ◌∷◌}
use Prim.Native.Nat.{ℕ}
use native.Mathlib.Omega.{arith}
use lib.ListN.{length}
use Rattle.paper.specs.Numbers.{report_size, rows_size, accepted}
use Rattle.paper.specs.Language.{Document}
use Rattle.paper.specs.Tokens.{Text, Tokens}
use Rattle.paper.specs.Rows.{Row, flat}
use Rattle.paper.specs.Refusals.{number_of}
use Rattle.paper.specs.Reading.{Answer, rows_are, refuses, TextAnswer}
use Rattle.paper.specs.Calls.{filled, tells, Parsed, short_report, short_rows, over_length, refuses_text, reads}
use Rattle.paper.specs.declared.Refusal.{Refusal}
use Rattle.paper_theory.proofs.SaidOne.{said_one}
use Rattle.paper_theory.proofs.TokensLaws.{tokens_one}

-- what the text says, for two ways of having its tokens
said_same : {document : List ℕ} {t t' : Text} {a a' : Answer} → Tokens 0 document t → Tokens 0 document t' → TextAnswer Document t a → TextAnswer Document t' a' → a ≡ a'
said_same {a'} k k' s s' = said_one s (subst (λ (z : Text). TextAnswer Document z a') (tokens_one k' k) s')

refuses_inj : {r r' : Refusal} → refuses r ≡ refuses r' → r ≡ r'
refuses_inj q = cc

rows_inj : {rs rs' : List Row} → rows_are rs ≡ rows_are rs' → rs ≡ rs'
rows_inj q = cc

refuses≢rows : {r : Refusal} {rs : List Row} → refuses r ≡ rows_are rs → ⊥
refuses≢rows q = let z : ◌≡◌ {A = ℕ} 0 1 = cc in omega arith

pub parsed_one : {document rows report rows' report' rows'' report'' : List ℕ} {a a' : ℕ} →
    Parsed document rows report rows' report' a → Parsed document rows report rows'' report'' a' → (a ≡ a') × (rows' ≡ rows'') × (report' ≡ report'')
parsed_one (short_report h e f) (short_report h' e' f') = (refl, e ∙ sym e', f ∙ sym f')
parsed_one (short_report h e f) (short_rows h' w' e' f') = let z : ⊥ = omega arith in absurd z
parsed_one (short_report h e f) (over_length h' w' l' e' f') = let z : ⊥ = omega arith in absurd z
parsed_one (short_report h e f) (refuses_text h' w' l' k' s' e' f') = let z : ⊥ = omega arith in absurd z
parsed_one (short_report h e f) (reads h' w' l' k' s' e' f') = let z : ⊥ = omega arith in absurd z
parsed_one (short_rows h w e f) (short_report h' e' f') = let z : ⊥ = omega arith in absurd z
parsed_one (short_rows h w e f) (short_rows h' w' e' f') = (refl, e ∙ sym e', f ∙ sym f')
parsed_one (short_rows h w e f) (over_length h' w' l' e' f') = let z : ⊥ = omega arith in absurd z
parsed_one (short_rows h w e f) (refuses_text h' w' l' k' s' e' f') = let z : ⊥ = omega arith in absurd z
parsed_one (short_rows h w e f) (reads h' w' l' k' s' e' f') = let z : ⊥ = omega arith in absurd z
parsed_one (over_length h w l e f) (short_report h' e' f') = let z : ⊥ = omega arith in absurd z
parsed_one (over_length h w l e f) (short_rows h' w' e' f') = let z : ⊥ = omega arith in absurd z
parsed_one (over_length h w l e f) (over_length h' w' l' e' f') = (refl, e ∙ sym e', f ∙ sym f')
parsed_one (over_length h w l e f) (refuses_text h' w' l' k' s' e' f') = let z : ⊥ = omega arith in absurd z
parsed_one (over_length h w l e f) (reads h' w' l' k' s' e' f') = let z : ⊥ = omega arith in absurd z
parsed_one (refuses_text h w l k s e f) (short_report h' e' f') = let z : ⊥ = omega arith in absurd z
parsed_one (refuses_text h w l k s e f) (short_rows h' w' e' f') = let z : ⊥ = omega arith in absurd z
parsed_one (refuses_text h w l k s e f) (over_length h' w' l' e' f') = let z : ⊥ = omega arith in absurd z
parsed_one {report} (refuses_text h w l k s e f) (refuses_text h' w' l' k' s' e' f') =
    let q = refuses_inj (said_same k k' s s') in
    (ap number_of q, e ∙ sym e', f ∙ ap (λ (z : Refusal). tells z report) q ∙ sym f')
parsed_one (refuses_text h w l k s e f) (reads h' w' l' k' s' e' f') = absurd (refuses≢rows (said_same k k' s s'))
parsed_one (reads h w l k s e f) (short_report h' e' f') = let z : ⊥ = omega arith in absurd z
parsed_one (reads h w l k s e f) (short_rows h' w' e' f') = let z : ⊥ = omega arith in absurd z
parsed_one (reads h w l k s e f) (over_length h' w' l' e' f') = let z : ⊥ = omega arith in absurd z
parsed_one (reads h w l k s e f) (refuses_text h' w' l' k' s' e' f') = absurd (refuses≢rows (said_same k' k s' s))
parsed_one {rows} {report} (reads h w l k s e f) (reads h' w' l' k' s' e' f') =
    let q = rows_inj (said_same k k' s s') in
    (refl, e ∙ ap (λ (z : List Row). filled rows_size (flat z) rows) q ∙ sym e', f ∙ ap (λ (z : List Row). filled report_size (accepted ∷ length z ∷ []) report) q ∙ sym f')
