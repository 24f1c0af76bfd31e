-- What stands at the front of some bytes: a token, or an ignored piece.
use Rattle.std.specs.Prelude.{cond, List, [], ◌∷◌, ℕ, ◌+◌, drop, Result, Err}
use Rattle.std.proofs.Math.Option.{Option, none, some}
use Rattle.paper.specs.Grammar.{nt}
use Rattle.paper.specs.Lexical.{What, is, ignored, comment, Piece}
use Rattle.paper.specs.Tokens.{what_of, line_end}
use Rattle.paper.proofs.Longest.{Match, scan}
use Rattle.paper.proofs.LexTables.{lexer}
use Rattle.text_scan.specs.Head.{kind_of, token_read}
use Rattle.text_scan.specs.declared.Token.{Token}

-- the longest piece
unfoldable pub piece_at : List ℕ → Option (Match ℕ What)
piece_at bs = scan lexer (nt Piece ∷ []) bs

abbrev pub as_token : What → ℕ → ℕ → Result Token ℕ
as_token (is c) at n = token_read (kind_of c) at (at + n)
as_token ignored at n = Err at
as_token comment at n = Err at

abbrev pub token_of : ℕ → Option (Match ℕ What) → Result Token ℕ
token_of at none = Err at
token_of at (some m) = as_token (what_of m.events) at m.size

-- the token that the bytes bs, which stand at the offset `at`, begin with
unfoldable pub token_here : ℕ → List ℕ → Result Token ℕ
token_here at bs = token_of at (piece_at bs)

abbrev pub as_ignored : What → ℕ → List ℕ → ℕ
as_ignored (is c) n bs = 0
as_ignored ignored n bs = n
as_ignored comment n bs = cond (line_end (drop n bs)) n 0

abbrev pub ignored_of : List ℕ → Option (Match ℕ What) → ℕ
ignored_of bs none = 0
ignored_of bs (some m) = as_ignored (what_of m.events) m.size bs

-- the size of the ignored piece or good comment that bs begin with, or 0
unfoldable pub ignored_here : List ℕ → ℕ
ignored_here bs = ignored_of bs (piece_at bs)
