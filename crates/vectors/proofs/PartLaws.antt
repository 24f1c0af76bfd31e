-- A count of a part's bytes counts the whole buffer's too.
use mathlib.Core.Path.{sym}
use mathlib.Core.List.{List, ◌++◌}
use Prim.Native.Nat.{ℕ, ◌≤◌}
use native.Mathlib.Omega.{arith}
use lib.ListN.{length, length-append}
use lib.Seq.{length-take-le}
use Rattle.io.specs.Counts.{IsPrefixLen}

pub counts_whole : (n : ℕ) (part rest : List ℕ) → IsPrefixLen n part → IsPrefixLen n (part ++ rest)
counts_whole n part rest c =
    let h : n ≤ length (part ++ rest) = (let a = length-append part rest in let b = c.0 in omega arith) in
    (h, sym (length-take-le {A = ℕ} n (part ++ rest) h))
