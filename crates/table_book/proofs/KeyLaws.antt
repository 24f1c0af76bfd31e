-- The test of one entry: its kind first, then its name.
use mathlib.Core.Path.{◌≡◌, refl}
use mathlib.Core.Bool.{Bool, true, false, ◌&&◌}
use Prim.Native.Nat.{ℕ, ◌<◌, ◌≤◌}
use lib.Dec.{leb}
use borrow.Author.Tests.{lt-leb, le-leb}

pub kind_below : (low high kind : ℕ) (b : Bool) {k : ℕ} → k < low → k ≡ kind → false ≡ leb low kind && (leb kind high && b)
kind_below low high kind b l e = rw (← e, lt-leb _ _ l)

pub kind_above : (low high kind : ℕ) (b : Bool) {k : ℕ} → high < k → k ≡ kind → false ≡ leb low kind && (leb kind high && b)
kind_above low high kind b {k = k} l e = rw (← e, lt-leb _ _ l) (go (leb low k))
  where
    go : (a : Bool) → false ≡ a && false
    go true = refl
    go false = refl

pub kind_between : (low high kind : ℕ) (b : Bool) {k : ℕ} → low ≤ k → k ≤ high → k ≡ kind → b ≡ leb low kind && (leb kind high && b)
kind_between low high kind b l m e = rw (← e, le-leb _ _ l, le-leb _ _ m)
