-- Kinds of rows that are selections.
use mathlib.Core.Path.{◌≡◌}
use mathlib.Core.Bool.{Bool, false, ◌&&◌}
use Prim.Native.Nat.{ℕ, ◌<◌, ◌≤◌}
use lib.Dec.{leb}
use borrow.Author.Tests.{le-leb, lt-leb}
use Rattle.paper.specs.Numbers.{kind_field, kind_inline}

module _ (k : ℕ) where
  pub selection_low : k < kind_field → false ≡ leb kind_field k && leb k kind_inline
  selection_low h = rw (lt-leb kind_field k h)

  pub selection_rest : {r : Bool} → kind_field ≤ k → r ≡ leb k kind_inline → r ≡ leb kind_field k && leb k kind_inline
  selection_rest h e = rw (le-leb kind_field k h) e
