-- The parts of a token that is read.
use mathlib.Core.Path.{◌≡◌, ap}
use Prim.Native.Nat.{ℕ}
use Rattle.std.specs.Prelude.{Result, Ok, Err}
use Rattle.text_scan.specs.Head.{token_read}
use Rattle.text_scan.specs.declared.Token.{Token}

-- the parts of an answer; 0 where bytes start no token
abbrev pub kind_read : Result Token ℕ → ℕ
kind_read (Ok t) = t.kind
kind_read (Err o) = 0

abbrev pub start_read : Result Token ℕ → ℕ
start_read (Ok t) = t.start
start_read (Err o) = 0

abbrev pub end_read : Result Token ℕ → ℕ
end_read (Ok t) = t.end
end_read (Err o) = 0

pub token_parts : (r : Result Token ℕ) (k a e : ℕ) → r ≡ token_read k a e → (kind_read r ≡ k) × (start_read r ≡ a) × (end_read r ≡ e)
token_parts r k a e q = (ap kind_read q, ap start_read q, ap end_read q)
