-- What the exit of a `?` returns: the refusal that the call before it returned.
use mathlib.Core.Path.{◌≡◌, sym, ap, ◌∙◌}
use Rattle.std.specs.Prelude.{Result, Err}
use Rattle.std.specs.Result.{IsErr, IsErrAnd}
use Rattle.std.proofs.lemmas.Result.{err_from_is_err_and}
use Rattle.paper.specs.declared.Refusal.{Refusal}

pub handed_on : {T : Type 0} (r : Result T Refusal) (x : Refusal) → IsErr r × IsErrAnd r (λ y. y ≡ x) → r ≡ Err x
handed_on r x e = let p = err_from_is_err_and r e.1 in p.1 ∙ ap Err p.2

-- the same, where both answer alike
pub handed_back : {T : Type 0} (r q : Result T Refusal) (x : Refusal) → IsErr r × IsErrAnd r (λ y. y ≡ x) → q ≡ Err x → r ≡ q
handed_back r q x e w = handed_on r x e ∙ sym w
