-- Whether one passes, by the first that does.
use mathlib.Core.Path.{◌≡◌, sym, ◌∙◌}
use mathlib.Core.Bool.{Bool}
use mathlib.Core.List.{List}
use Prim.Native.Nat.{ℕ, ◌<◌}
use native.Mathlib.Decide.{dec_lt}
use native.Mathlib.Omega.{arith}
use lib.ListN.{length, drop}
use lib.Dec.{ltb}
use borrow.Author.Tests.{lt-ltb, le-ltb}
use Rattle.paper_table.specs.Lists.{any_of}
use Rattle.query_links.specs.Links.{next_with}
use Rattle.query_links.proofs.Nexts.{any_yes, any_no}

-- one passes from number i on: the first of these is an element
pub any_next : {A : Type 0} (p : A → Bool) (xs : List A) (i : ℕ) → ltb (next_with p xs i) (length xs) ≡ any_of p (drop i xs)
any_next p xs i = go (dec_lt (next_with p xs i) (length xs))
  where
    go : Dec (next_with p xs i < length xs) → ltb (next_with p xs i) (length xs) ≡ any_of p (drop i xs)
    go (yes h) = lt-ltb (next_with p xs i) (length xs) h ∙ sym (any_yes p xs i h)
    go (no h) = le-ltb (next_with p xs i) (length xs) (omega arith) ∙ sym (any_no p xs i (omega arith))
