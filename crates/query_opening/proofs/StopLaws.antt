-- What is told where an opening stops.
use mathlib.Core.Path.{◌≡◌, sym, subst}
use mathlib.Core.List.{List, ◌∷◌}
use Prim.Native.Nat.{ℕ}
use Rattle.std.specs.Prelude.{Result}
use Rattle.paper.specs.Numbers.{report_size}
use Rattle.paper.specs.Calls.{filled}
use Rattle.query_opening.specs.Opens.{stop_number, stop_shown}
use Rattle.query_opening.specs.declared.OpenedOperation.{OpenedOperation}
use Rattle.query_opening.specs.declared.NotOpened.{NotOpened}

-- by the variant that it is
pub stop_told : (o z : Result OpenedOperation NotOpened) (old new : List ℕ) (n : ℕ) → o ≡ z → n ≡ stop_number z → new ≡ filled report_size (stop_number z ∷ stop_shown z) old →
    (n ≡ stop_number o) × (new ≡ filled report_size (stop_number o ∷ stop_shown o) old)
stop_told o z old new n q a b = subst (λ (y : Result OpenedOperation NotOpened). (n ≡ stop_number y) × (new ≡ filled report_size (stop_number y ∷ stop_shown y) old)) (sym q) (a, b)
