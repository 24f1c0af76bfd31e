-- From the machine's answer over a document's tokens to what the call must do.
use mathlib.Core.Path.{◌≡◌, ap, ◌∙◌}
use mathlib.Core.List.{List, [], ◌∷◌}
use Prim.Native.Nat.{ℕ, ◌*◌, ◌≤◌}
use native.Mathlib.Omega.{arith}
use lib.ListN.{length, take}
use Rattle.paper.specs.Grammar.{nt}
use Rattle.paper.specs.Numbers.{report_size, row_size, rows_size, most_text, accepted}
use Rattle.paper.specs.Language.{Document}
use Rattle.paper.specs.Refusals.{number_of}
use Rattle.paper.specs.Calls.{filled, tells, Parsed, refuses_text, reads}
use Rattle.paper.specs.declared.Refusal.{Refusal}
use Rattle.paper.proofs.Lexing.{from}
use Rattle.paper_theory.proofs.FromLaws.{places_rise}
use Rattle.paper_theory.proofs.TokensLaws.{tokens_are}
use Rattle.paper.proofs.Going.{State, start, whole, halt, go}
use Rattle.paper_theory.proofs.GoingSaid.{Rising, going_whole, going_halt}

pub from_rising : (s : List ℕ) → Rising (from s 0)
from_rising s = λ j k h b. places_rise s 0 j k (omega arith) h b

-- read through: the rows, then zeros
pub parsed_whole : (document rows report rows' report' cells : List ℕ) (s : State) → report_size ≤ length report → rows_size ≤ length rows → length document ≤ most_text →
    length cells ≡ rows_size → go (start cells) (nt Document ∷ []) (from document 0) ≡ whole s →
    rows' ≡ filled rows_size (take (row_size * s.rows) s.cells) rows → report' ≡ filled report_size (accepted ∷ s.rows ∷ []) report →
    Parsed document rows report rows' report' accepted
parsed_whole document rows report rows' report' cells s h w l e q r p =
    let g = going_whole Document (from document 0) cells s e q in
    reads h w l (tokens_are document) g.1
    (r ∙ ap (λ (z : List ℕ). filled rows_size z rows) (ap (λ (z : ℕ). take (row_size * z) s.cells) g.2 ∙ g.4))
    (p ∙ ap (λ (z : ℕ). filled report_size (accepted ∷ z ∷ []) report) g.2)

-- refused: zeros alone
pub parsed_halt : (document rows report rows' report' cells : List ℕ) (z : Refusal) → report_size ≤ length report → rows_size ≤ length rows → length document ≤ most_text →
    go (start cells) (nt Document ∷ []) (from document 0) ≡ halt z → rows' ≡ filled rows_size [] rows → report' ≡ tells z report →
    Parsed document rows report rows' report' (number_of z)
parsed_halt document rows report rows' report' cells z h w l q r p =
    refuses_text h w l (tokens_are document) (going_halt Document (from document 0) (from_rising document) cells z q) r p
