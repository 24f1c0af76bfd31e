-- The lexical language left-factored for the machine (four parts differ), and the machine's tables. Tested in `LexChecked` of crate `paper_theory`, trusted for nothing.
use mathlib.Core.Bool.{Bool, true, false}
use mathlib.Core.Path.{◌≡◌, refl}
use mathlib.Core.Option.{some}
use mathlib.Core.List.{List, [], ◌∷◌}
use Prim.Native.Nat.{ℕ}
use lib.Dec.{eqb}
use lib.ListN.{get_elem?}
use Rattle.paper.specs.Grammar.{Sym, nt, tm, act}
use Rattle.paper.proofs.Machine.{Tables}
use Rattle.paper.specs.Language.{bang, dollar, paren_l, paren_r, spread, colon, equals, at_sign, bracket_l, bracket_r, brace_l, bar, brace_r, n_other, string}
use Rattle.paper.specs.Lexical.{span, Set, hits_byte, What, is, ignored, comment, dot, quote, b_bang, b_dollar, b_paren_l, b_paren_r, b_colon, b_equals, b_at_sign, b_bracket_l, b_bracket_r, b_brace_l, b_bar, b_brace_r}
use Rattle.paper.specs.Lexical.{Lex, lexical, Piece, Name, NameRest*, IntValue, FloatValue, IntegerPart, NegativeSign?, Digit*, Digit+, FractionalPart, ExponentPart, Sign?, StringValue, StringCharacter+, StringCharacter*, StringCharacter, Escape, Wide, Ignored, Comment, CommentCharacter*, CommentCharacter, Number, NumberRest, ExponentPart?, FloatRest, UnsignedPart}

abbrev pub num_l : Lex → ℕ
num_l Piece = 0
num_l Name = 1
num_l NameRest* = 2
num_l IntValue = 3
num_l FloatValue = 4
num_l IntegerPart = 5
num_l NegativeSign? = 6
num_l Digit* = 7
num_l Digit+ = 8
num_l FractionalPart = 9
num_l ExponentPart = 10
num_l Sign? = 11
num_l StringValue = 12
num_l StringCharacter+ = 13
num_l StringCharacter* = 14
num_l StringCharacter = 15
num_l Escape = 16
num_l Wide = 17
num_l Ignored = 18
num_l Comment = 19
num_l CommentCharacter* = 20
num_l CommentCharacter = 21
num_l Number = 22
num_l NumberRest = 23
num_l ExponentPart? = 24
num_l FloatRest = 25
num_l UnsignedPart = 26

abbrev pub all_l : List Lex
all_l = Piece ∷ Name ∷ NameRest* ∷ IntValue ∷ FloatValue ∷ IntegerPart ∷ NegativeSign? ∷ Digit* ∷ Digit+ ∷ FractionalPart ∷ ExponentPart ∷ Sign? ∷ StringValue ∷ StringCharacter+ ∷ StringCharacter* ∷ StringCharacter ∷ Escape ∷ Wide ∷ Ignored ∷ Comment ∷ CommentCharacter* ∷ CommentCharacter ∷ Number ∷ NumberRest ∷ ExponentPart? ∷ FloatRest ∷ UnsignedPart ∷ []

pub at_l : (n : Lex) → get_elem? all_l (num_l n) ≡ some n
at_l Piece = refl
at_l Name = refl
at_l NameRest* = refl
at_l IntValue = refl
at_l FloatValue = refl
at_l IntegerPart = refl
at_l NegativeSign? = refl
at_l Digit* = refl
at_l Digit+ = refl
at_l FractionalPart = refl
at_l ExponentPart = refl
at_l Sign? = refl
at_l StringValue = refl
at_l StringCharacter+ = refl
at_l StringCharacter* = refl
at_l StringCharacter = refl
at_l Escape = refl
at_l Wide = refl
at_l Ignored = refl
at_l Comment = refl
at_l CommentCharacter* = refl
at_l CommentCharacter = refl
at_l Number = refl
at_l NumberRest = refl
at_l ExponentPart? = refl
at_l FloatRest = refl
at_l UnsignedPart = refl

abbrev pub Rules : Type 0
Rules = List (List (Sym Lex Set What))

-- the parts whose productions are left-factored for the machine
abbrev pub changed_l : List (Lex × Rules)
changed_l =
    (Piece, (nt Number ∷ []) ∷ (tm b_bang ∷ act (is bang) ∷ []) ∷ (tm b_dollar ∷ act (is dollar) ∷ []) ∷ (tm b_paren_l ∷ act (is paren_l) ∷ []) ∷ (tm b_paren_r ∷ act (is paren_r) ∷ []) ∷ (tm b_colon ∷ act (is colon) ∷ []) ∷ (tm b_equals ∷ act (is equals) ∷ []) ∷ (tm b_at_sign ∷ act (is at_sign) ∷ []) ∷ (tm b_bracket_l ∷ act (is bracket_l) ∷ []) ∷ (tm b_bracket_r ∷ act (is bracket_r) ∷ []) ∷ (tm b_brace_l ∷ act (is brace_l) ∷ []) ∷ (tm b_bar ∷ act (is bar) ∷ []) ∷ (tm b_brace_r ∷ act (is brace_r) ∷ []) ∷ (tm dot ∷ tm dot ∷ tm dot ∷ act (is spread) ∷ []) ∷ (nt Name ∷ act (is n_other) ∷ []) ∷ (nt StringValue ∷ act (is string) ∷ []) ∷ (nt Ignored ∷ act ignored ∷ []) ∷ (nt Comment ∷ act comment ∷ []) ∷ []) ∷
    (FloatValue, (nt IntegerPart ∷ nt FloatRest ∷ []) ∷ []) ∷
    (IntegerPart, (nt NegativeSign? ∷ nt UnsignedPart ∷ []) ∷ []) ∷
    (StringValue, (tm quote ∷ nt StringCharacter* ∷ tm quote ∷ []) ∷ []) ∷
    []

abbrev pub or_that : Bool → Rules → Rules → Rules
or_that true r s = r
or_that false r s = s

abbrev pub same_l : Lex → Lex → Bool
same_l m n = eqb (num_l m) (num_l n)

abbrev pub look : List (Lex × Rules) → Lex → Rules → Rules
look [] n s = s
look (e ∷ es) n s = or_that (same_l e.0 n) e.1 (look es n s)

unfoldable pub lex_factored : Lex → Rules
lex_factored n = look changed_l n (lexical n)

-- tables (tested, and trusted for nothing)
abbrev pub firsts_l : Lex → Set
firsts_l Piece = span 0x09 0x0a ∷ span 0x0d 0x0d ∷ span 0x20 0x24 ∷ span 0x28 0x29 ∷ span 0x2c 0x2e ∷ span 0x30 0x3a ∷ span 0x3d 0x3d ∷ span 0x40 0x5b ∷ span 0x5d 0x5d ∷ span 0x5f 0x5f ∷ span 0x61 0x7d ∷ span 0xef 0xef ∷ []
firsts_l Name = span 0x41 0x5a ∷ span 0x5f 0x5f ∷ span 0x61 0x7a ∷ []
firsts_l NameRest* = span 0x30 0x39 ∷ span 0x41 0x5a ∷ span 0x5f 0x5f ∷ span 0x61 0x7a ∷ []
firsts_l IntValue = span 0x2d 0x2d ∷ span 0x30 0x39 ∷ []
firsts_l FloatValue = span 0x2d 0x2d ∷ span 0x30 0x39 ∷ []
firsts_l IntegerPart = span 0x2d 0x2d ∷ span 0x30 0x39 ∷ []
firsts_l NegativeSign? = span 0x2d 0x2d ∷ []
firsts_l Digit* = span 0x30 0x39 ∷ []
firsts_l Digit+ = span 0x30 0x39 ∷ []
firsts_l FractionalPart = span 0x2e 0x2e ∷ []
firsts_l ExponentPart = span 0x45 0x45 ∷ span 0x65 0x65 ∷ []
firsts_l Sign? = span 0x2b 0x2b ∷ span 0x2d 0x2d ∷ []
firsts_l StringValue = span 0x22 0x22 ∷ []
firsts_l StringCharacter+ = span 0x09 0x09 ∷ span 0x20 0x21 ∷ span 0x23 0x7f ∷ span 0xc2 0xef ∷ []
firsts_l StringCharacter* = span 0x09 0x09 ∷ span 0x20 0x21 ∷ span 0x23 0x7f ∷ span 0xc2 0xef ∷ []
firsts_l StringCharacter = span 0x09 0x09 ∷ span 0x20 0x21 ∷ span 0x23 0x7f ∷ span 0xc2 0xef ∷ []
firsts_l Escape = span 0x22 0x22 ∷ span 0x2f 0x2f ∷ span 0x5c 0x5c ∷ span 0x62 0x62 ∷ span 0x66 0x66 ∷ span 0x6e 0x6e ∷ span 0x72 0x72 ∷ span 0x74 0x75 ∷ []
firsts_l Wide = span 0xc2 0xef ∷ []
firsts_l Ignored = span 0x09 0x0a ∷ span 0x0d 0x0d ∷ span 0x20 0x20 ∷ span 0x2c 0x2c ∷ span 0xef 0xef ∷ []
firsts_l Comment = span 0x23 0x23 ∷ []
firsts_l CommentCharacter* = span 0x09 0x09 ∷ span 0x20 0x7f ∷ span 0xc2 0xef ∷ []
firsts_l CommentCharacter = span 0x09 0x09 ∷ span 0x20 0x7f ∷ span 0xc2 0xef ∷ []
firsts_l Number = span 0x2d 0x2d ∷ span 0x30 0x39 ∷ []
firsts_l NumberRest = span 0x2e 0x2e ∷ span 0x45 0x45 ∷ span 0x65 0x65 ∷ []
firsts_l ExponentPart? = span 0x45 0x45 ∷ span 0x65 0x65 ∷ []
firsts_l FloatRest = span 0x2e 0x2e ∷ span 0x45 0x45 ∷ span 0x65 0x65 ∷ []
firsts_l UnsignedPart = span 0x30 0x39 ∷ []

abbrev pub followers_l : Lex → Set
followers_l Piece = []
followers_l Name = []
followers_l NameRest* = []
followers_l IntValue = []
followers_l FloatValue = []
followers_l IntegerPart = span 0x2e 0x2e ∷ span 0x45 0x45 ∷ span 0x65 0x65 ∷ []
followers_l NegativeSign? = span 0x30 0x39 ∷ []
followers_l Digit* = span 0x2e 0x2e ∷ span 0x45 0x45 ∷ span 0x65 0x65 ∷ []
followers_l Digit+ = span 0x45 0x45 ∷ span 0x65 0x65 ∷ []
followers_l FractionalPart = span 0x45 0x45 ∷ span 0x65 0x65 ∷ []
followers_l ExponentPart = []
followers_l Sign? = span 0x30 0x39 ∷ []
followers_l StringValue = []
followers_l StringCharacter+ = []
followers_l StringCharacter* = span 0x22 0x22 ∷ []
followers_l StringCharacter = span 0x09 0x09 ∷ span 0x20 0x7f ∷ span 0xc2 0xef ∷ []
followers_l Escape = span 0x09 0x09 ∷ span 0x20 0x7f ∷ span 0xc2 0xef ∷ []
followers_l Wide = span 0x09 0x09 ∷ span 0x20 0x7f ∷ span 0xc2 0xef ∷ []
followers_l Ignored = []
followers_l Comment = []
followers_l CommentCharacter* = []
followers_l CommentCharacter = span 0x09 0x09 ∷ span 0x20 0x7f ∷ span 0xc2 0xef ∷ []
followers_l Number = []
followers_l NumberRest = []
followers_l ExponentPart? = []
followers_l FloatRest = []
followers_l UnsignedPart = span 0x2e 0x2e ∷ span 0x45 0x45 ∷ span 0x65 0x65 ∷ []

abbrev pub none_l : Lex → Bool
none_l Piece = false
none_l Name = false
none_l NameRest* = true
none_l IntValue = false
none_l FloatValue = false
none_l IntegerPart = false
none_l NegativeSign? = true
none_l Digit* = true
none_l Digit+ = false
none_l FractionalPart = false
none_l ExponentPart = false
none_l Sign? = true
none_l StringValue = false
none_l StringCharacter+ = false
none_l StringCharacter* = true
none_l StringCharacter = false
none_l Escape = false
none_l Wide = false
none_l Ignored = false
none_l Comment = false
none_l CommentCharacter* = true
none_l CommentCharacter = false
none_l Number = false
none_l NumberRest = true
none_l ExponentPart? = true
none_l FloatRest = false
none_l UnsignedPart = false

abbrev pub sample_l : Lex → List ℕ
sample_l Piece = 33 ∷ []
sample_l Name = 65 ∷ []
sample_l NameRest* = []
sample_l IntValue = 48 ∷ []
sample_l FloatValue = 48 ∷ 46 ∷ 48 ∷ []
sample_l IntegerPart = 48 ∷ []
sample_l NegativeSign? = []
sample_l Digit* = []
sample_l Digit+ = 48 ∷ []
sample_l FractionalPart = 46 ∷ 48 ∷ []
sample_l ExponentPart = 69 ∷ 48 ∷ []
sample_l Sign? = []
sample_l StringValue = 34 ∷ 34 ∷ []
sample_l StringCharacter+ = 9 ∷ []
sample_l StringCharacter* = []
sample_l StringCharacter = 9 ∷ []
sample_l Escape = 34 ∷ []
sample_l Wide = 194 ∷ 128 ∷ []
sample_l Ignored = 9 ∷ []
sample_l Comment = 35 ∷ []
sample_l CommentCharacter* = []
sample_l CommentCharacter = 9 ∷ []
sample_l Number = 48 ∷ []
sample_l NumberRest = []
sample_l ExponentPart? = []
sample_l FloatRest = 46 ∷ 48 ∷ []
sample_l UnsignedPart = 48 ∷ []

abbrev pub lexer : Tables Lex Set ℕ What
lexer = record { prods = lex_factored; hits = hits_byte; first = λ n b. hits_byte (firsts_l n) b; null = none_l; depth = 8 }
