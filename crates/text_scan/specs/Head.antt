-- What the token reader answers, told by the text: the first of its tokens.
use Rattle.text_scan.specs.declared.Token.{Token}
use Rattle.std.specs.Prelude.{List, ℕ, Result, Err, Ok}
use Rattle.paper.specs.Language.{Class, bang, dollar, paren_l, paren_r, spread, colon, equals, at_sign, bracket_l, bracket_r, brace_l, bar, brace_r, n_query, n_mutation, n_subscription, n_fragment, n_on, n_true, n_false, n_null, n_other, int, float, string}
use Rattle.paper.specs.Tokens.{Text, at_end, bad, token, name_class}

-- the number by which the code knows a class: all names are one kind, and a punctuator of one byte has that byte
abbrev pub kind_of : Class → ℕ
kind_of n_query = 1
kind_of n_mutation = 1
kind_of n_subscription = 1
kind_of n_fragment = 1
kind_of n_on = 1
kind_of n_true = 1
kind_of n_false = 1
kind_of n_null = 1
kind_of n_other = 1
kind_of int = 2
kind_of float = 3
kind_of string = 4
kind_of spread = 5
kind_of bang = 33
kind_of dollar = 36
kind_of paren_l = 40
kind_of paren_r = 41
kind_of colon = 58
kind_of equals = 61
kind_of at_sign = 64
kind_of bracket_l = 91
kind_of bracket_r = 93
kind_of brace_l = 123
kind_of bar = 124
kind_of brace_r = 125

-- which name it is
abbrev pub word_number : Class → ℕ
word_number n_query = 1
word_number n_mutation = 2
word_number n_subscription = 3
word_number n_fragment = 4
word_number n_on = 5
word_number n_true = 6
word_number n_false = 7
word_number n_null = 8
word_number n_other = 0
word_number int = 0
word_number float = 0
word_number string = 0
word_number spread = 0
word_number bang = 0
word_number dollar = 0
word_number paren_l = 0
word_number paren_r = 0
word_number colon = 0
word_number equals = 0
word_number at_sign = 0
word_number bracket_l = 0
word_number bracket_r = 0
word_number brace_l = 0
word_number bar = 0
word_number brace_r = 0

unfoldable pub word_of : List ℕ → ℕ
word_of w = word_number (name_class w)

-- the answer with this token
abbrev pub token_read : ℕ → ℕ → ℕ → Result Token ℕ
token_read k a e = Ok (record { kind = k; start = a; end = e })

-- the first token, or the end, or the bad bytes
abbrev pub head_of : Text → Result Token ℕ
head_of (at_end n) = token_read 0 n n
head_of (bad n) = Err n
head_of (token k t) = token_read (kind_of k.class) k.start k.stop
