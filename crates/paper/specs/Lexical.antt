-- The lexical language: the productions of the draft, sections 2.1 and 2.9, over the bytes of UTF-8.
-- States: source document 002. A piece is a token, an ignored token or a comment; `X?`, `X+`, `X*` as in `Language`.
-- None is left-factored here; the machine's are, in four parts: Piece, FloatValue, IntegerPart, StringValue (`changed_l` in proofs/LexTables; `LexSame` in crate `paper_theory`).
-- Assumes nothing.
use Rattle.std.specs.Prelude.{Bool, false, ◌&&◌, ◌||◌, List, [], ◌∷◌, ℕ, leb, ltb}
use Rattle.paper.specs.Grammar.{Sym, nt, tm, act}
use Rattle.paper.specs.Language.{Class, bang, dollar, paren_l, paren_r, spread, colon, equals, at_sign, bracket_l, bracket_r, brace_l, bar, brace_r, n_other, int, float, string}

-- the bytes from one to another
pub data Span : Type 0 where
  span : ℕ → ℕ → Span

abbrev pub Set : Type 0
Set = List Span

abbrev pub within : Span → ℕ → Bool
within (span a e) b = leb a b && leb b e

abbrev pub in_set : Set → ℕ → Bool
in_set [] b = false
in_set (s ∷ ss) b = within s b || in_set ss b

-- a set hits a byte in it; no set hits what is no byte
abbrev pub hits_byte : Set → ℕ → Bool
hits_byte p b = ltb b 256 && in_set p b

-- what a piece of text is
pub data What : Type 0 where
  is : Class → What
  ignored comment : What

abbrev pub letter : Set
letter = span 0x41 0x5a ∷ span 0x5f 0x5f ∷ span 0x61 0x7a ∷ []

abbrev pub letter_or_digit : Set
letter_or_digit = span 0x30 0x39 ∷ span 0x41 0x5a ∷ span 0x5f 0x5f ∷ span 0x61 0x7a ∷ []

abbrev pub digit : Set
digit = span 0x30 0x39 ∷ []

abbrev pub non_zero : Set
non_zero = span 0x31 0x39 ∷ []

abbrev pub zero : Set
zero = span 0x30 0x30 ∷ []

abbrev pub minus : Set
minus = span 0x2d 0x2d ∷ []

abbrev pub dot : Set
dot = span 0x2e 0x2e ∷ []

abbrev pub e : Set
e = span 0x45 0x45 ∷ span 0x65 0x65 ∷ []

abbrev pub sign : Set
sign = span 0x2b 0x2b ∷ span 0x2d 0x2d ∷ []

abbrev pub quote : Set
quote = span 0x22 0x22 ∷ []

abbrev pub backslash : Set
backslash = span 0x5c 0x5c ∷ []

abbrev pub u : Set
u = span 0x75 0x75 ∷ []

abbrev pub hex : Set
hex = span 0x30 0x39 ∷ span 0x41 0x46 ∷ span 0x61 0x66 ∷ []

-- after a backslash
abbrev pub escaped : Set
escaped = span 0x22 0x22 ∷ span 0x5c 0x5c ∷ span 0x2f 0x2f ∷ span 0x62 0x62 ∷ span 0x66 0x66 ∷ span 0x6e 0x6e ∷ span 0x72 0x72 ∷ span 0x74 0x74 ∷ []

-- what a string holds as it stands: SourceCharacter but no quote, backslash or line end
abbrev pub plain : Set
plain = span 0x09 0x09 ∷ span 0x20 0x21 ∷ span 0x23 0x5b ∷ span 0x5d 0x7f ∷ []

-- what a comment holds
abbrev pub commented : Set
commented = span 0x09 0x09 ∷ span 0x20 0x7f ∷ []

-- UTF-8: a character of two bytes, and of three; E0 and ED narrow the second byte, so that no overlong form and no surrogate is one.
-- The draft's characters end at U+FFFF, so none has four.
abbrev pub lead2 : Set
lead2 = span 0xc2 0xdf ∷ []

abbrev pub e0 : Set
e0 = span 0xe0 0xe0 ∷ []

abbrev pub lead3 : Set
lead3 = span 0xe1 0xec ∷ span 0xee 0xef ∷ []

abbrev pub ed : Set
ed = span 0xed 0xed ∷ []

abbrev pub tail : Set
tail = span 0x80 0xbf ∷ []

abbrev pub tail_high : Set
tail_high = span 0xa0 0xbf ∷ []

abbrev pub tail_low : Set
tail_low = span 0x80 0x9f ∷ []

-- the byte order mark
abbrev pub ef : Set
ef = span 0xef 0xef ∷ []

abbrev pub bb : Set
bb = span 0xbb 0xbb ∷ []

abbrev pub bf : Set
bf = span 0xbf 0xbf ∷ []

abbrev pub hash : Set
hash = span 0x23 0x23 ∷ []

abbrev pub space : Set
space = span 0x09 0x09 ∷ span 0x20 0x20 ∷ []

abbrev pub comma : Set
comma = span 0x2c 0x2c ∷ []

abbrev pub lf : Set
lf = span 0x0a 0x0a ∷ []

abbrev pub cr : Set
cr = span 0x0d 0x0d ∷ []

abbrev pub b_bang : Set
b_bang = span 0x21 0x21 ∷ []

abbrev pub b_dollar : Set
b_dollar = span 0x24 0x24 ∷ []

abbrev pub b_paren_l : Set
b_paren_l = span 0x28 0x28 ∷ []

abbrev pub b_paren_r : Set
b_paren_r = span 0x29 0x29 ∷ []

abbrev pub b_colon : Set
b_colon = span 0x3a 0x3a ∷ []

abbrev pub b_equals : Set
b_equals = span 0x3d 0x3d ∷ []

abbrev pub b_at_sign : Set
b_at_sign = span 0x40 0x40 ∷ []

abbrev pub b_bracket_l : Set
b_bracket_l = span 0x5b 0x5b ∷ []

abbrev pub b_bracket_r : Set
b_bracket_r = span 0x5d 0x5d ∷ []

abbrev pub b_brace_l : Set
b_brace_l = span 0x7b 0x7b ∷ []

abbrev pub b_bar : Set
b_bar = span 0x7c 0x7c ∷ []

abbrev pub b_brace_r : Set
b_brace_r = span 0x7d 0x7d ∷ []

pub data Lex : Type 0 where
  Piece Name NameRest* IntValue FloatValue IntegerPart NegativeSign? Digit* Digit+ FractionalPart ExponentPart Sign? StringValue StringCharacter+ StringCharacter* StringCharacter Escape Wide Ignored Comment CommentCharacter* CommentCharacter Number NumberRest ExponentPart? FloatRest UnsignedPart : Lex

unfoldable pub lexical : Lex → List (List (Sym Lex Set What))
lexical Piece =
    (nt IntValue ∷ act (is int) ∷ []) ∷
    (nt FloatValue ∷ act (is float) ∷ []) ∷
    (tm b_bang ∷ act (is bang) ∷ []) ∷
    (tm b_dollar ∷ act (is dollar) ∷ []) ∷
    (tm b_paren_l ∷ act (is paren_l) ∷ []) ∷
    (tm b_paren_r ∷ act (is paren_r) ∷ []) ∷
    (tm b_colon ∷ act (is colon) ∷ []) ∷
    (tm b_equals ∷ act (is equals) ∷ []) ∷
    (tm b_at_sign ∷ act (is at_sign) ∷ []) ∷
    (tm b_bracket_l ∷ act (is bracket_l) ∷ []) ∷
    (tm b_bracket_r ∷ act (is bracket_r) ∷ []) ∷
    (tm b_brace_l ∷ act (is brace_l) ∷ []) ∷
    (tm b_bar ∷ act (is bar) ∷ []) ∷
    (tm b_brace_r ∷ act (is brace_r) ∷ []) ∷
    (tm dot ∷ tm dot ∷ tm dot ∷ act (is spread) ∷ []) ∷
    (nt Name ∷ act (is n_other) ∷ []) ∷
    (nt StringValue ∷ act (is string) ∷ []) ∷
    (nt Ignored ∷ act ignored ∷ []) ∷
    (nt Comment ∷ act comment ∷ []) ∷
    []
lexical Name = (tm letter ∷ nt NameRest* ∷ []) ∷ []
lexical NameRest* = [] ∷ (tm letter_or_digit ∷ nt NameRest* ∷ []) ∷ []
lexical IntValue = (nt IntegerPart ∷ []) ∷ []
lexical FloatValue =
    (nt IntegerPart ∷ nt FractionalPart ∷ []) ∷
    (nt IntegerPart ∷ nt ExponentPart ∷ []) ∷
    (nt IntegerPart ∷ nt FractionalPart ∷ nt ExponentPart ∷ []) ∷
    []
lexical IntegerPart = (nt NegativeSign? ∷ tm zero ∷ []) ∷ (nt NegativeSign? ∷ tm non_zero ∷ nt Digit* ∷ []) ∷ []
lexical NegativeSign? = [] ∷ (tm minus ∷ []) ∷ []
lexical Digit* = [] ∷ (tm digit ∷ nt Digit* ∷ []) ∷ []
lexical Digit+ = (tm digit ∷ nt Digit* ∷ []) ∷ []
lexical FractionalPart = (tm dot ∷ nt Digit+ ∷ []) ∷ []
lexical ExponentPart = (tm e ∷ nt Sign? ∷ nt Digit+ ∷ []) ∷ []
lexical Sign? = [] ∷ (tm sign ∷ []) ∷ []
lexical StringValue = (tm quote ∷ tm quote ∷ []) ∷ (tm quote ∷ nt StringCharacter+ ∷ tm quote ∷ []) ∷ []
lexical StringCharacter+ = (nt StringCharacter ∷ nt StringCharacter* ∷ []) ∷ []
lexical StringCharacter* = [] ∷ (nt StringCharacter ∷ nt StringCharacter* ∷ []) ∷ []
lexical StringCharacter = (tm plain ∷ []) ∷ (nt Wide ∷ []) ∷ (tm backslash ∷ nt Escape ∷ []) ∷ []
lexical Escape = (tm escaped ∷ []) ∷ (tm u ∷ tm hex ∷ tm hex ∷ tm hex ∷ tm hex ∷ []) ∷ []
lexical Wide =
    (tm lead2 ∷ tm tail ∷ []) ∷
    (tm e0 ∷ tm tail_high ∷ tm tail ∷ []) ∷
    (tm lead3 ∷ tm tail ∷ tm tail ∷ []) ∷
    (tm ed ∷ tm tail_low ∷ tm tail ∷ []) ∷
    []
lexical Ignored = (tm space ∷ []) ∷ (tm comma ∷ []) ∷ (tm lf ∷ []) ∷ (tm cr ∷ []) ∷ (tm ef ∷ tm bb ∷ tm bf ∷ []) ∷ []
lexical Comment = (tm hash ∷ nt CommentCharacter* ∷ []) ∷ []
lexical CommentCharacter* = [] ∷ (nt CommentCharacter ∷ nt CommentCharacter* ∷ []) ∷ []
lexical CommentCharacter = (tm commented ∷ []) ∷ (nt Wide ∷ []) ∷ []
-- not in the draft, and in none of the productions above: what is left of a production once its first part is read, for the proofs
lexical Number = (nt IntegerPart ∷ nt NumberRest ∷ []) ∷ []
lexical NumberRest = (act (is int) ∷ []) ∷ (nt FractionalPart ∷ nt ExponentPart? ∷ act (is float) ∷ []) ∷ (nt ExponentPart ∷ act (is float) ∷ []) ∷ []
lexical ExponentPart? = [] ∷ (nt ExponentPart ∷ []) ∷ []
lexical FloatRest = (nt FractionalPart ∷ nt ExponentPart? ∷ []) ∷ (nt ExponentPart ∷ []) ∷ []
lexical UnsignedPart = (tm zero ∷ []) ∷ (tm non_zero ∷ nt Digit* ∷ []) ∷ []
