-- Checks one after another, each of which fixes all where it fails: so a call has one answer, and leaves one thing in its buffers.
use mathlib.Core.Path.{◌≡◌, sym, ◌∙◌}
use mathlib.Core.List.{List}
use Prim.Native.Nat.{ℕ}

-- what a call leaves: its answer, its output and the report
pub data Left : Type 0 where
  left : ℕ → List ℕ → List ℕ → Left

unfoldable pub One : (Left → Type 0) → Type 0
One P = (x y : Left) → P x → P y → x ≡ y

-- a check that fails, or passes and leaves all to what comes after
pub data Checks (fails passes : Type 0) (x : Left) (Q : Left → Type 0) (y : Left) : Type 0 where
  failed : fails → y ≡ x → Checks fails passes x Q y
  later : passes → Q y → Checks fails passes x Q y

pub checks_one : {fails passes : Type 0} (z : Left) (Q : Left → Type 0) → (fails → passes → ⊥) → One Q → One (Checks fails passes z Q)
unfolding One
checks_one z Q h q x y (failed a e) (failed b f) = e ∙ sym f
checks_one z Q h q x y (failed a e) (later b g) = absurd (h a b)
checks_one z Q h q x y (later a g) (failed b f) = absurd (h b a)
checks_one z Q h q x y (later a g) (later b k) = q x y g k
