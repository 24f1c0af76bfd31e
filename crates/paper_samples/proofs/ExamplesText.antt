-- Worked examples, computed: characters, tokens, ignored text and comments.
-- The answers are those of document 01 and of its readings; none was taken from what is computed here.
use mathlib.Core.Path.{◌≡◌, refl}
use mathlib.Core.List.{List, [], ◌∷◌, ◌++◌, map}
use Prim.Native.Nat.{ℕ}
use Prim.Native.String.{String}
use lib.Dec.{T}
use Rattle.paper.specs.Numbers.{accepted}
use Rattle.paper.specs.Tokens.{Text, at_end, bad, token}
use Rattle.paper.specs.Language.{Class, int, float, spread, n_other, n_on}
use Rattle.paper.specs.Language.{language}
use Rattle.paper.specs.Lexical.{lexical}
use Rattle.paper.proofs.Machine.{step, enter, choose}
use Rattle.paper.proofs.Longest.{scan}
use Rattle.paper.proofs.Tables.{factored}
use Rattle.paper.proofs.LexTables.{lex_factored}
use Rattle.paper.proofs.Lexing.{text, from}
use Rattle.paper.proofs.Going.{go}
use Rattle.paper.proofs.Worked.{bytes, agree, in_string, tells}

abbrev tk : Class → ℕ → ℕ → Text → Text
tk c a e t = token (record { class = c; start = a; stop = e }) t

-- the longest match, and the next begins anew
longest_matches :
    map (λ s. from (bytes s) 0) ("1.x" ∷ "007" ∷ "...." ∷ "-0.5e+3e" ∷ "1..." ∷ "on one" ∷ []) ≡
    tk int 0 1 (bad 1) ∷ tk int 0 1 (tk int 1 2 (tk int 2 3 (at_end 3))) ∷ tk spread 0 3 (bad 3) ∷ tk float 0 7 (tk n_other 7 8 (at_end 8)) ∷ tk int 0 1 (tk spread 1 4 (at_end 4)) ∷ tk n_on 0 2 (tk n_other 3 6 (at_end 6)) ∷ []
unfolding from text scan step enter choose lexical lex_factored
longest_matches = refl

-- a document, and its count of rows or its refusal: bytes that start no token, ignored text, comments
abbrev pieces : List (List ℕ × List ℕ)
pieces =
    (bytes "{a} %", 3 ∷ 4 ∷ []) ∷ (bytes "{a}#" ++ (0xf0 ∷ 0x9f ∷ 0x98 ∷ 0x80 ∷ []), 3 ∷ 3 ∷ []) ∷
    (bytes "{" ++ (0xc3 ∷ 0xa9 ∷ []) ++ bytes "}", 3 ∷ 1 ∷ []) ∷ (bytes "{a" ++ (0xef ∷ 0xbb ∷ 0xbf ∷ []) ++ bytes "b}", 0 ∷ 3 ∷ []) ∷
    (bytes "{....a}", 3 ∷ 4 ∷ []) ∷ (bytes "{a(x:&)}", 3 ∷ 5 ∷ []) ∷ (bytes "{a # " ++ (0xc3 ∷ 0xa9 ∷ 0x01 ∷ []), 3 ∷ 3 ∷ []) ∷
    (bytes "#", 4 ∷ 1 ∷ []) ∷ (bytes ",", 4 ∷ 1 ∷ []) ∷ ((0xef ∷ 0xbb ∷ 0xbf ∷ []), 4 ∷ 3 ∷ []) ∷ (bytes " ", 4 ∷ 1 ∷ []) ∷
    (bytes "\t\r\n", 4 ∷ 3 ∷ []) ∷ (bytes "&", 3 ∷ 0 ∷ []) ∷ (bytes "-", 3 ∷ 0 ∷ []) ∷ (bytes ".", 3 ∷ 0 ∷ []) ∷ (bytes "..", 3 ∷ 0 ∷ []) ∷
    ((0xc3 ∷ 0xa9 ∷ []), 3 ∷ 0 ∷ []) ∷ ((0x00 ∷ []), 3 ∷ 0 ∷ []) ∷ ((0x7f ∷ []), 3 ∷ 0 ∷ []) ∷ (bytes "\"", 3 ∷ 0 ∷ []) ∷ (bytes "\\", 3 ∷ 0 ∷ []) ∷
    (bytes "'", 3 ∷ 0 ∷ []) ∷ (bytes "?", 3 ∷ 0 ∷ []) ∷ (bytes "%", 3 ∷ 0 ∷ []) ∷ (bytes "/", 3 ∷ 0 ∷ []) ∷ (bytes ";", 3 ∷ 0 ∷ []) ∷
    (bytes "<", 3 ∷ 0 ∷ []) ∷ (bytes "~", 3 ∷ 0 ∷ []) ∷ (bytes "^", 3 ∷ 0 ∷ []) ∷ (bytes "*", 3 ∷ 0 ∷ []) ∷ (bytes "+", 3 ∷ 0 ∷ []) ∷
    (bytes "#\n{a}", 0 ∷ 2 ∷ []) ∷ (bytes "{#c\na}", 0 ∷ 2 ∷ []) ∷ (bytes "{a#c\r}", 0 ∷ 2 ∷ []) ∷ (bytes "{a}#" ++ (0xc3 ∷ 0xa9 ∷ []), 0 ∷ 2 ∷ []) ∷
    (bytes "{a}#" ++ (0x01 ∷ []), 3 ∷ 3 ∷ []) ∷ (bytes "#" ++ (0xef ∷ 0xbb ∷ 0xbf ∷ []) ++ bytes "\n{a}", 0 ∷ 2 ∷ []) ∷
    ((0xef ∷ 0xbb ∷ 0xbf ∷ []) ++ bytes "{a}", 0 ∷ 2 ∷ []) ∷ (bytes "{a" ++ (0xef ∷ 0xbb ∷ 0xbf ∷ []) ++ bytes "}", 0 ∷ 2 ∷ []) ∷
    (bytes "\r\n{\r\na\r\n}\r\n", 0 ∷ 2 ∷ []) ∷ (bytes "{a" ++ (0x0b ∷ []) ++ bytes "}", 3 ∷ 2 ∷ []) ∷
    (bytes "{a" ++ (0x0c ∷ []) ++ bytes "}", 3 ∷ 2 ∷ []) ∷ (bytes "{a" ++ (0xc2 ∷ 0xa0 ∷ []) ++ bytes "b}", 3 ∷ 2 ∷ []) ∷
    (bytes "{a" ++ (0xe2 ∷ 0x80 ∷ 0xa8 ∷ []) ++ bytes "b}", 3 ∷ 2 ∷ []) ∷ (bytes ",,,{,a,},,,", 0 ∷ 2 ∷ []) ∷ (bytes "{a #\n#\n#\r}", 0 ∷ 2 ∷ []) ∷
    (bytes "{a}#", 0 ∷ 2 ∷ []) ∷ (bytes "{a" ++ (0xef ∷ 0xbb ∷ []) ++ bytes "}", 3 ∷ 2 ∷ []) ∷
    (bytes "{a" ++ (0xef ∷ 0xbb ∷ 0xbe ∷ []) ++ bytes "}", 3 ∷ 2 ∷ []) ∷ (bytes "{a" ++ (0xef ∷ []) ++ bytes "}", 3 ∷ 2 ∷ []) ∷
    (bytes "{a" ++ (0x80 ∷ []) ++ bytes "}", 3 ∷ 2 ∷ []) ∷ (bytes "{a" ++ (0xe2 ∷ 0x80 ∷ 0xa8 ∷ []) ++ bytes "}", 3 ∷ 2 ∷ []) ∷
    (bytes "{a" ++ (0x00 ∷ []) ++ bytes "}", 3 ∷ 2 ∷ []) ∷ (bytes "{a" ++ (0x08 ∷ []) ++ bytes "}", 3 ∷ 2 ∷ []) ∷
    (bytes "{a" ++ (0x1b ∷ []) ++ bytes "}", 3 ∷ 2 ∷ []) ∷ (bytes "{ a # c\n , b } # d", 0 ∷ 3 ∷ []) ∷
    ((0xef ∷ 0xbb ∷ 0xbf ∷ []) ++ bytes "{" ++ (0xef ∷ 0xbb ∷ 0xbf ∷ []) ++ bytes "a" ++ (0xef ∷ 0xbb ∷ 0xbf ∷ []) ++ bytes "}", 0 ∷ 2 ∷ []) ∷
    (bytes "{_ __ _1 A_9z}", 0 ∷ 5 ∷ []) ∷ (bytes "{a(x:\"\\)}", 3 ∷ 5 ∷ []) ∷ (bytes "{a(x:\"a)}", 3 ∷ 5 ∷ []) ∷ (bytes "{a(x:\")}", 3 ∷ 5 ∷ []) ∷
    (bytes "{a(x:\"\"\")}", 3 ∷ 7 ∷ []) ∷ (bytes "{a(x:\"\"\"\"\"\")}", 4 ∷ 7 ∷ []) ∷ (bytes "{a(x:\"a\"\"b\")}", 4 ∷ 8 ∷ []) ∷
    (bytes "{abcdefghijklmnopqrstuvwxyz ABCDEFGHIJKLMNOPQRSTUVWXYZ _0123456789}", 0 ∷ 4 ∷ []) ∷ (bytes "`", 3 ∷ 0 ∷ []) ∷ []

pieces_told : T (agree (λ c. tells c.0) (λ c. c.1) pieces)
unfolding from text scan step enter choose lexical lex_factored language factored go
pieces_told = tt

-- what stands in a list value
abbrev in_list : String → List ℕ
in_list s = bytes "{a(x:[" ++ bytes s ++ bytes "])}"

abbrev numbers : List (String × List ℕ)
numbers =
    ("0", 0 ∷ 5 ∷ []) ∷ ("-0", 0 ∷ 5 ∷ []) ∷ ("00", 0 ∷ 6 ∷ []) ∷ ("01", 0 ∷ 6 ∷ []) ∷ ("-01", 0 ∷ 6 ∷ []) ∷ ("10", 0 ∷ 5 ∷ []) ∷ ("1.0", 0 ∷ 5 ∷ []) ∷
    ("0.0", 0 ∷ 5 ∷ []) ∷ ("-0.0", 0 ∷ 5 ∷ []) ∷ ("1.a", 3 ∷ 7 ∷ []) ∷ (".5", 3 ∷ 6 ∷ []) ∷ ("-.5", 3 ∷ 6 ∷ []) ∷ ("1e5", 0 ∷ 5 ∷ []) ∷
    ("1E5", 0 ∷ 5 ∷ []) ∷ ("1e+5", 0 ∷ 5 ∷ []) ∷ ("1e-5", 0 ∷ 5 ∷ []) ∷ ("1e", 0 ∷ 6 ∷ []) ∷ ("1e+", 3 ∷ 8 ∷ []) ∷ ("1E-", 3 ∷ 8 ∷ []) ∷
    ("1.5e10", 0 ∷ 5 ∷ []) ∷ ("1.e5", 3 ∷ 7 ∷ []) ∷ ("1.5.2", 3 ∷ 9 ∷ []) ∷ ("1..2", 3 ∷ 7 ∷ []) ∷ ("1...2", 4 ∷ 7 ∷ []) ∷ ("0x1", 0 ∷ 6 ∷ []) ∷
    ("1a", 0 ∷ 6 ∷ []) ∷ ("1_", 0 ∷ 6 ∷ []) ∷ ("--1", 3 ∷ 6 ∷ []) ∷ ("-a", 3 ∷ 6 ∷ []) ∷ ("+1", 3 ∷ 6 ∷ []) ∷ ("1-1", 0 ∷ 6 ∷ []) ∷
    ("1e5e5", 0 ∷ 6 ∷ []) ∷ ("1e5.5", 3 ∷ 9 ∷ []) ∷ ("123456789012345678901234567890", 0 ∷ 5 ∷ []) ∷ ("0e0", 0 ∷ 5 ∷ []) ∷ ("0.00e-00", 0 ∷ 5 ∷ []) ∷
    ("1,2", 0 ∷ 6 ∷ []) ∷ ("1#c\n2", 0 ∷ 6 ∷ []) ∷ ("00.5", 0 ∷ 6 ∷ []) ∷ ("-1.5E-05", 0 ∷ 5 ∷ []) ∷ ("1.", 3 ∷ 7 ∷ []) ∷ ("01 1a", 0 ∷ 8 ∷ []) ∷
    ("-", 3 ∷ 6 ∷ []) ∷ []

numbers_told : T (agree (λ c. tells (in_list c.0)) (λ c. c.1) numbers)
unfolding from text scan step enter choose lexical lex_factored language factored go
numbers_told = tt

-- what may stand between quotation marks
abbrev good_strings : List (List ℕ)
good_strings =
    [] ∷ (bytes "a") ∷ (bytes "\\\"") ∷ (bytes "\\\\") ∷ (bytes "\\/\\b\\f\\n\\r\\t") ∷ (bytes "\\u0041") ∷ (bytes "\\uABCD\\uabcd") ∷
    (bytes "\\uD800") ∷ (bytes "a\tb") ∷ ((0xc3 ∷ 0xa9 ∷ [])) ∷ ((0xef ∷ 0xbf ∷ 0xbf ∷ [])) ∷ ((0xe2 ∷ 0x80 ∷ 0xa8 ∷ 0xe2 ∷ 0x80 ∷ 0xa9 ∷ [])) ∷
    ((0x7f ∷ [])) ∷ (bytes "#,{") ∷ ((0xef ∷ 0xbb ∷ 0xbf ∷ [])) ∷ ((0xc2 ∷ 0x80 ∷ [])) ∷ ((0xdf ∷ 0xbf ∷ [])) ∷ ((0xe0 ∷ 0xa0 ∷ 0x80 ∷ [])) ∷
    ((0xed ∷ 0x9f ∷ 0xbf ∷ [])) ∷ ((0xee ∷ 0x80 ∷ 0x80 ∷ [])) ∷ ((0xef ∷ 0xbf ∷ 0xbe ∷ [])) ∷ ((0xe2 ∷ 0x80 ∷ 0xa8 ∷ 0x7f ∷ [])) ∷ []

good_strings_told : T (agree (λ s. tells (in_string s)) (λ s. accepted ∷ 4 ∷ []) good_strings)
unfolding from text scan step enter choose lexical lex_factored language factored go
good_strings_told = tt
