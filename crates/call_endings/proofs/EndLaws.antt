-- What is told and left is what `Ended` and `Told` ask, by the answer's case.
use mathlib.Core.Path.{◌≡◌, refl, sym, subst}
use mathlib.Core.List.{List, [], ◌∷◌}
use Prim.Native.Nat.{ℕ}
use Rattle.std.specs.Prelude.{Result, Ok, Err}
use Rattle.paper.specs.Numbers.{report_size, accepted}
use Rattle.paper.specs.Refusals.{number_of}
use Rattle.paper.specs.Calls.{filled, tells}
use Rattle.paper.specs.declared.Refusal.{Refusal}
use Rattle.paper_query.specs.QueryNumbers.{refuse_query}
use Rattle.paper_query.specs.declared.QueryAnswer.{QueryAnswer}
use Rattle.paper_query.specs.declared.QueryAnswer.TheVariants.{Fits, Breaks}
use Rattle.call_buffers.specs.Buffers.{cleared}
use Rattle.text_cursor.specs.declared.Cursor.{Cursor}
use Rattle.call_endings.specs.Endings.{Ended, Told}

pub ended_fits : (n : ℕ) (q : QueryAnswer) (rows report report' : List ℕ) → q ≡ Fits → report' ≡ filled report_size (accepted ∷ n ∷ []) report → Ended n q rows report rows report' accepted
unfolding Ended
ended_fits n q rows report report' e p = subst (λ (x : QueryAnswer). Ended n x rows report rows report' accepted) (sym e) (refl, refl, p)

pub ended_breaks : (n : ℕ) (q : QueryAnswer) (row rule : ℕ) (rows report rows' report' : List ℕ) → q ≡ Breaks row rule → rows' ≡ cleared 0 rows →
    report' ≡ filled report_size (refuse_query ∷ row ∷ rule ∷ []) report → Ended n q rows report rows' report' refuse_query
unfolding Ended
ended_breaks n q row rule rows report rows' report' e c p = subst (λ (x : QueryAnswer). Ended n x rows report rows' report' refuse_query) (sym e) (refl, c, p)

-- what is told of a reading, by its case
pub told_done : (r : Result Cursor Refusal) (d : Cursor) (report report' : List ℕ) → r ≡ Ok d → report' ≡ filled report_size (accepted ∷ d.rows ∷ []) report → Told r report report' accepted
unfolding Told
told_done r d report report' q p = subst (λ (x : Result Cursor Refusal). Told x report report' accepted) (sym q) (refl, p)

pub told_refused : (r : Result Cursor Refusal) (z : Refusal) (report report' : List ℕ) (n : ℕ) → r ≡ Err z → (n ≡ number_of z) × (report' ≡ tells z report) → Told r report report' n
unfolding Told
told_refused r z report report' n q t = subst (λ (x : Result Cursor Refusal). Told x report report' n) (sym q) t
