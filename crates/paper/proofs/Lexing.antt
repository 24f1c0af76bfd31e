-- The tokens of a text as a function: at each place the piece that the machine finds.
use mathlib.Core.Bool.{Bool, true, false}
use mathlib.Core.List.{List, [], ◌∷◌}
use mathlib.Core.Option.{Option, none, some}
use Prim.Native.Nat.{ℕ, zero, suc, ◌+◌}
use lib.ListN.{length, take, drop}
use Rattle.paper.specs.Grammar.{nt}
use Rattle.paper.specs.Lexical.{What, is, ignored, comment, Piece}
use Rattle.paper.specs.Tokens.{Text, at_end, bad, token, classed, what_of, line_end}
use Rattle.paper.proofs.Longest.{Match, scan}
use Rattle.paper.proofs.LexTables.{lexer}

abbrev pub or_bad : Bool → ℕ → Text → Text
or_bad true at t = t
or_bad false at t = bad at

abbrev pub shown : What → ℕ → ℕ → List ℕ → Text → Text
shown (is c) at n bs t = token (record { class = classed c (take n bs); start = at; stop = at + n }) t
shown ignored at n bs t = t
shown comment at n bs t = or_bad (line_end (drop n bs)) at t

abbrev pub found : (ℕ → Text) → ℕ → List ℕ → Option (Match ℕ What) → Text
found k at bs none = bad at
found k at bs (some m) = let t = k m.size in shown (what_of m.events) at m.size bs t

-- each piece has a byte at least, so as many rounds as bytes are enough
unfoldable pub text : ℕ → ℕ → List ℕ → Text
text zero at bs = at_end at
text (suc k) at [] = at_end at
text (suc k) at (b ∷ bs) = found (λ n. text k (at + n) (drop n (b ∷ bs))) at (b ∷ bs) (scan lexer (nt Piece ∷ []) (b ∷ bs))

-- the tokens from the offset p on
unfoldable pub from : List ℕ → ℕ → Text
from s p = text (suc (length s)) p (drop p s)
