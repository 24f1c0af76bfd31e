-- The tokens of a text, and how it ends.
-- States: 01, "Reading a document": "Characters, tokens and grammar are the draft's, in valid UTF-8. Longest match"; row 3 of the refusals.
-- Assumes nothing.
use Rattle.std.specs.Prelude.{◌≡◌, Bool, true, false, ◌&&◌, ◌||◌, not, List, [], ◌∷◌, ◌++◌, ℕ, ◌+◌, ◌≤◌, T, eqb, length, drop}
use Rattle.paper.specs.Grammar.{nt, Ev, tok, mark, toks, Derives}
use Rattle.paper.specs.Language.{Class, same_c, n_query, n_mutation, n_subscription, n_fragment, n_on, n_true, n_false, n_null, n_other}
use Rattle.paper.specs.Lexical.{What, is, ignored, comment, Piece, lexical, hits_byte}

-- a token: its class, its first byte, and one past its last
pub record Tok : Type 0 where
  pub class : Class
  pub start : ℕ
  pub stop : ℕ

-- tokens, and then the end of the text, or bytes that start no token (or a comment with bad text)
pub data Text : Type 0 where
  at_end : ℕ → Text
  bad : ℕ → Text
  token : Tok → Text → Text

-- the names that the grammar tells apart, by their bytes
abbrev pub same : List ℕ → List ℕ → Bool
same [] [] = true
same [] (y ∷ ys) = false
same (x ∷ xs) [] = false
same (x ∷ xs) (y ∷ ys) = eqb x y && same xs ys

abbrev pub or_else : Bool → Class → Class → Class
or_else true a b = a
or_else false a b = b

-- the class of a name, by its bytes in ASCII
abbrev pub name_class : List ℕ → Class
name_class w =
    or_else (same w (113 ∷ 117 ∷ 101 ∷ 114 ∷ 121 ∷ [])) n_query  -- query
    (or_else (same w (109 ∷ 117 ∷ 116 ∷ 97 ∷ 116 ∷ 105 ∷ 111 ∷ 110 ∷ [])) n_mutation  -- mutation
    (or_else (same w (115 ∷ 117 ∷ 98 ∷ 115 ∷ 99 ∷ 114 ∷ 105 ∷ 112 ∷ 116 ∷ 105 ∷ 111 ∷ 110 ∷ [])) n_subscription  -- subscription
    (or_else (same w (102 ∷ 114 ∷ 97 ∷ 103 ∷ 109 ∷ 101 ∷ 110 ∷ 116 ∷ [])) n_fragment  -- fragment
    (or_else (same w (111 ∷ 110 ∷ [])) n_on  -- on
    (or_else (same w (116 ∷ 114 ∷ 117 ∷ 101 ∷ [])) n_true  -- true
    (or_else (same w (102 ∷ 97 ∷ 108 ∷ 115 ∷ 101 ∷ [])) n_false  -- false
    (or_else (same w (110 ∷ 117 ∷ 108 ∷ 108 ∷ [])) n_null n_other)))))))  -- null

-- a token's class: that of its piece, but for a name that of its bytes w
abbrev pub classed : Class → List ℕ → Class
classed c w = or_else (same_c c n_other) (name_class w) c

-- bs begins with the piece p, which es derives
abbrev pub Starts : List ℕ → List ℕ → List (Ev ℕ What) → Type 0
Starts bs p es = ((q : List ℕ) × (p ++ q ≡ bs)) × Derives lexical hits_byte (nt Piece ∷ []) es × (toks es ≡ p)

-- no beginning of bs is a piece
abbrev pub NoPiece : List ℕ → Type 0
NoPiece bs = (p : List ℕ) (es : List (Ev ℕ What)) → Starts bs p es → ⊥

-- what a piece is: the mark that its derivation has
abbrev pub what_of : List (Ev ℕ What) → What
what_of [] = ignored
what_of (tok b ∷ es) = what_of es
what_of (mark w ∷ es) = w

-- p is the longest beginning of bs that is a piece, and it is a w
pub record Longest (bs p : List ℕ) (w : What) : Type 0 where
  pub events : List (Ev ℕ What)
  pub starts : Starts bs p events
  pub what : what_of events ≡ w
  pub most : (q : List ℕ) (fs : List (Ev ℕ What)) → Starts bs q fs → length q ≤ length p

-- a comment goes to the end of its line: before a newline (10) or a carriage return (13)
abbrev pub line_end : List ℕ → Bool
line_end [] = true
line_end (b ∷ bs) = eqb b 10 || eqb b 13

-- `Tokens at bs t`: the bytes bs, which stand at the offset `at`, are the text t. At each place the longest piece is taken
pub data Tokens : ℕ → List ℕ → Text → Type 0 where
  ends : {at : ℕ} → Tokens at [] (at_end at)
  starts_none : {at b : ℕ} {bs : List ℕ} → NoPiece (b ∷ bs) → Tokens at (b ∷ bs) (bad at)
  skips : {at : ℕ} {bs : List ℕ} {t : Text} (p : List ℕ) → Longest bs p ignored → Tokens (at + length p) (drop (length p) bs) t → Tokens at bs t
  comments : {at : ℕ} {bs : List ℕ} {t : Text} (p : List ℕ) → Longest bs p comment → T (line_end (drop (length p) bs)) → Tokens (at + length p) (drop (length p) bs) t → Tokens at bs t
  bad_comment : {at : ℕ} {bs : List ℕ} (p : List ℕ) → Longest bs p comment → T (not (line_end (drop (length p) bs))) → Tokens at bs (bad at)
  tokens : {at : ℕ} {bs : List ℕ} {t : Text} (p : List ℕ) (c : Class) → Longest bs p (is c) → Tokens (at + length p) (drop (length p) bs) t →
      Tokens at bs (token (record { class = classed c p; start = at; stop = at + length p }) t)
