-- The selection sets of blocks, merged: the words that the laws of a walk over blocks use.
use mathlib.Core.Bool.{Bool, true, ◌&&◌}
use mathlib.Core.List.{List, [], ◌∷◌, ◌++◌}
use Prim.Native.Nat.{ℕ}
use lib.ListN.{length, get_or}
use lib.Dec.{ltb}

-- the selection sets of some blocks, merged
abbrev pub merged : List (List ℕ) → List ℕ → List ℕ
merged sets [] = []
merged sets (b ∷ bs) = get_or sets b [] ++ merged sets bs

-- blocks that the plan has
abbrev pub known : List (List ℕ) → List ℕ → Bool
known sets [] = true
known sets (b ∷ bs) = ltb b (length sets) && known sets bs
