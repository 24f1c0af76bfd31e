-- A few worked examples, computed: the rows of document D of 01, and what the must-fail edits of the definitions would change.
-- Crate `paper_samples` has the others. The answers are those of document 01 and of its readings; none was taken from what is computed here.
use mathlib.Core.Path.{◌≡◌, refl}
use mathlib.Core.List.{List, [], ◌∷◌, ◌++◌}
use Prim.Native.Nat.{ℕ}
use Prim.Native.String.{String}
use lib.Dec.{T}
use Rattle.paper.specs.Numbers.{accepted, refuse_no_token, refuse_no_going}
use Rattle.paper.specs.Language.{language, Document}
use Rattle.paper.specs.Lexical.{lexical}
use Rattle.paper.specs.Rows.{Row, rows_of, book, flat}
use Rattle.paper.specs.Reading.{tokens_of}
use Rattle.paper.proofs.Machine.{run, step, enter, choose}
use Rattle.paper.proofs.Longest.{scan}
use Rattle.paper.proofs.Tables.{factored}
use Rattle.paper.proofs.LexTables.{lex_factored}
use Rattle.paper.proofs.Lexing.{text, from}
use Rattle.paper.proofs.Going.{go}
use Rattle.paper.proofs.Worked.{bytes, agree, in_string, reads, rows_by, tells, r}

-- document D of 01
abbrev pub D : List ℕ
D = bytes "{ a: machine(id: 4) { tag ...F } ...R a: machine(id: 4) { tag } } fragment F on Fan { rpm } fragment R on Query { fan(no: 3) { rpm } }"

abbrev pub D-rows : List Row
D-rows =
    r 1 0 65 2048 0 0 0 ∷ r 3 2 32 0 5 7 0 ∷ r 6 13 18 1 13 2 0 ∷ r 21 17 18 2 0 0 0 ∷ r 3 22 25 1 22 3 0 ∷
    r 4 26 30 1 29 1 0 ∷ r 4 33 37 0 36 1 0 ∷ r 3 38 63 0 41 7 0 ∷ r 6 49 54 7 49 2 0 ∷ r 21 53 54 8 0 0 0 ∷
    r 3 58 61 7 58 3 0 ∷ r 2 66 91 2048 75 1 0 ∷ r 9 80 83 11 80 3 0 ∷ r 3 86 89 11 86 3 0 ∷ r 2 92 134 2048 101 1 0 ∷
    r 9 106 111 14 106 5 0 ∷ r 3 114 132 14 114 3 0 ∷ r 6 118 123 16 118 2 0 ∷ r 21 122 123 17 0 0 0 ∷ r 3 127 130 16 127 3 0 ∷ []

pub D-read : reads Document 20 D ≡ accepted ∷ 20 ∷ flat D-rows
unfolding from text scan step enter choose lexical lex_factored language factored go flat
D-read = refl

pub D-derived : rows_by Document D ≡ D-rows
unfolding from text scan step enter choose lexical lex_factored language factored run rows_of book tokens_of
D-derived = refl

-- a default value is a constant, a fragment is not named `on`: the offset of the token with which no document can go on
abbrev stops : List (String × ℕ)
stops =
    ("query($a:Int=$b){a}", 13) ∷ ("query($a:Int=[$b]){a}", 14) ∷ ("query($a:Int={b:$c}){a}", 16) ∷ ("fragment on on T{a}", 9) ∷ []

stops_told : T (agree (λ c. tells (bytes c.0)) (λ c. refuse_no_going ∷ c.1 ∷ []) stops)
unfolding from text scan step enter choose lexical lex_factored language factored go
stops_told = tt

-- escapes that are none, ends of line, bytes that are no character up to U+FFFF
abbrev bad_strings : List (List ℕ)
bad_strings =
    (bytes "\\u00") ∷ (bytes "\\u00G0") ∷ (bytes "\\u") ∷ (bytes "\\U0041") ∷ (bytes "\\x") ∷ (bytes "\\") ∷ (bytes "a\nb") ∷ (bytes "a\rb") ∷
    ((0x1f ∷ [])) ∷ ((0x00 ∷ [])) ∷ ((0x80 ∷ [])) ∷ ((0xbf ∷ [])) ∷ ((0xc0 ∷ 0x80 ∷ [])) ∷ ((0xc1 ∷ 0xbf ∷ [])) ∷ ((0xc2 ∷ [])) ∷
    ((0xc2 ∷ []) ++ bytes "A") ∷ ((0xe0 ∷ 0x9f ∷ 0xbf ∷ [])) ∷ ((0xe1 ∷ 0x80 ∷ [])) ∷ ((0xe1 ∷ 0x80 ∷ []) ++ bytes "A") ∷
    ((0xf0 ∷ 0x90 ∷ 0x80 ∷ 0x80 ∷ [])) ∷ ((0xf4 ∷ 0x8f ∷ 0xbf ∷ 0xbf ∷ [])) ∷ ((0xf5 ∷ 0x80 ∷ 0x80 ∷ 0x80 ∷ [])) ∷ ((0xff ∷ [])) ∷
    ((0xfe ∷ 0xff ∷ [])) ∷ ((0xe2 ∷ []) ++ bytes "(" ++ (0xa1 ∷ [])) ∷ ((0xf0 ∷ 0x9f ∷ 0x98 ∷ 0x80 ∷ [])) ∷ ((0xed ∷ 0xa0 ∷ 0x80 ∷ [])) ∷
    (bytes "b\n") ∷ []

bad_strings_told : T (agree (λ s. tells (in_string s)) (λ s. refuse_no_token ∷ 5 ∷ []) bad_strings)
unfolding from text scan step enter choose lexical lex_factored language factored go
bad_strings_told = tt

-- a document, and its count of rows or its refusal
abbrev Case : Type 0
Case = List ℕ × List ℕ

-- 7 wrappers of a type reference: the eighth mark in the order of the text
abbrev wrappers : List Case
wrappers =
    (bytes "query($a:[[[[[[[I]]]]]]]){a}", 0 ∷ 4 ∷ []) ∷
    (bytes "query($a:[[[[[[[I]]]]]]],$b:[[[[[[[I]]]]]]]){a}", 0 ∷ 6 ∷ []) ∷
    (bytes "query($a:[[[[[[[[I]]]]]]]]){a}", 8 ∷ 16 ∷ []) ∷
    (bytes "query($a:[[[[[[[[){a}", 8 ∷ 16 ∷ []) ∷
    (bytes "query($a:[[[[I!]!]!]]){a}", 0 ∷ 4 ∷ []) ∷
    (bytes "query($a:[[[[I!]!]!]!]){a}", 8 ∷ 20 ∷ []) ∷
    (bytes "query($a:[[[[[[[I!]]]]]]]){a}", 8 ∷ 17 ∷ []) ∷
    (bytes "query($a:[[[[[[[I]]]]]]]!){a}", 8 ∷ 24 ∷ []) ∷
    []

wrappers_told : T (agree (λ c. tells c.0) (λ c. c.1) wrappers)
unfolding from text scan step enter choose lexical lex_factored language factored go
wrappers_told = tt
