-- What the token reader answers, in one number: a kind, and below it a start and an end of 16 bits each.
use Rattle.text_scan.specs.declared.Token.{Token}
use Rattle.text_scan.specs.Head.{token_read}
use Rattle.std.specs.Prelude.{cond, ℕ, ◌+◌, ◌*◌, ◌/◌, ◌%◌, ◌<◌, eqb, Result, Ok, Err}

-- one more than a place may be
abbrev pub places : ℕ
places = 65536

-- one more than the two places may be
abbrev pub two_places : ℕ
two_places = 4294967296

-- in place of a kind, where bytes start no token
abbrev pub no_kind : ℕ
no_kind = 127

-- an answer that one number holds
abbrev pub Fits : Result Token ℕ → Type 0
Fits (Ok t) = (t.kind < no_kind) × (t.start < places) × (t.end < places)
Fits (Err o) = o < places

abbrev pub packed_of : Result Token ℕ → ℕ
packed_of (Ok t) = t.kind * two_places + t.start * places + t.end
packed_of (Err o) = no_kind * two_places + o * places

unfoldable pub unpacked_of : ℕ → Result Token ℕ
unpacked_of n = cond (eqb (n / two_places) no_kind) (Err (n / places % places)) (token_read (n / two_places) (n / places % places) (n % places))
