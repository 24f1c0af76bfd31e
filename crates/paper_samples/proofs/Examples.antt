-- Worked examples, computed: the rows of whole documents, by the reader's machine and by `Rows`.
-- The answers are those of document 01 and of its readings; none was taken from what is computed here.
use mathlib.Core.Path.{◌≡◌, refl}
use mathlib.Core.List.{List, [], ◌∷◌, ◌++◌, map}
use Prim.Native.Nat.{ℕ}
use lib.ListN.{length}
use lib.Dec.{T}
use Rattle.paper.specs.Language.{Part, language, Document, VariablesText}
use Rattle.paper.specs.Lexical.{lexical}
use Rattle.paper.specs.Numbers.{input_variables, accepted}
use Rattle.paper.specs.Rows.{Row, rows_of, book, flat}
use Rattle.paper.specs.Reading.{tokens_of}
use Rattle.paper.proofs.Machine.{run, step, enter, choose}
use Rattle.paper.proofs.Longest.{scan}
use Rattle.paper.proofs.Tables.{factored}
use Rattle.paper.proofs.LexTables.{lex_factored}
use Rattle.paper.proofs.Lexing.{text, from}
use Rattle.paper.proofs.Going.{go}
use Rattle.paper.proofs.Worked.{bytes, agree, reads, rows_by, r}
use Rattle.paper.specs.Refusals.{number_of, shown_in_text}
use Rattle.paper.specs.declared.Refusal.TheVariants.{NoGoing}

-- a text and its rows
abbrev Case : Type 0
Case = List ℕ × List Row

-- what is to be told of it, with as many rows lent as it has
abbrev due : Case → List ℕ
due c = accepted ∷ length c.1 ∷ flat c.1

abbrev given : Part → Case → List ℕ
given p c = reads p (length c.1) c.0

-- most constructs at once; names; selections; values; definitions; directives
abbrev documents : List Case
documents = (
  bytes "query Q($a: [Int!]! = [1 2], $b: In = {n: -0.5e3}) @d { k: f(x: $a, s: \"\\u00e9\\n\", o: {p: [true null E]}) @skip(if: false) { ...F @include(if: $b) ... on T { a } ... { b } ... @d { c } } } mutation { a } subscription S { a } fragment F on T @d { a } # end",
  r 1 0 188 2048 6 1 0 ∷ r 8 8 27 0 9 1 0 ∷ r 9 12 19 1 13 3 38 ∷ r 27 22 27 1 0 0 0 ∷ r 21 23 24 3 0 0 0 ∷
      r 21 25 26 3 0 0 0 ∷ r 8 29 49 0 30 1 0 ∷ r 9 33 35 6 33 2 0 ∷ r 28 38 49 6 0 0 0 ∷ r 10 39 48 8 39 1 0 ∷
      r 22 42 48 9 0 0 0 ∷ r 7 51 53 0 52 1 0 ∷ r 3 56 186 0 59 1 0 ∷ r 6 61 66 12 61 1 0 ∷ r 20 64 66 13 65 1 0 ∷
      r 6 68 81 12 68 1 0 ∷ r 23 71 81 15 0 0 0 ∷ r 6 83 104 12 83 1 0 ∷ r 28 86 104 17 0 0 0 ∷ r 10 87 103 18 87 1 0 ∷
      r 27 90 103 19 0 0 0 ∷ r 24 91 95 20 0 0 1 ∷ r 25 96 100 20 0 0 0 ∷ r 26 101 102 20 101 1 0 ∷ r 7 106 122 12 107 4 0 ∷
      r 6 112 121 24 112 2 0 ∷ r 24 116 121 25 0 0 0 ∷ r 4 125 146 12 128 1 0 ∷ r 7 130 146 27 131 7 0 ∷ r 6 139 145 28 139 2 0 ∷
      r 20 143 145 29 144 1 0 ∷ r 5 147 161 12 0 0 0 ∷ r 9 154 155 31 154 1 0 ∷ r 3 158 159 31 158 1 0 ∷ r 5 162 171 12 0 0 0 ∷
      r 3 168 169 34 168 1 0 ∷ r 5 172 184 12 0 0 0 ∷ r 7 176 178 36 177 1 0 ∷ r 3 181 182 36 181 1 0 ∷ r 1 189 203 2048 0 0 1 ∷
      r 3 200 201 39 200 1 0 ∷ r 1 204 224 2048 217 1 2 ∷ r 3 221 222 41 221 1 0 ∷ r 2 225 249 2048 234 1 0 ∷ r 9 239 240 43 239 1 0 ∷
      r 7 241 243 43 242 1 0 ∷ r 3 246 247 43 246 1 0 ∷ [],
) ∷ (
  bytes "query Ab_1($v:T){x:y z:z(p:$v)@d(q:E){t}...Fr@d}",
  r 1 0 48 2048 6 4 0 ∷ r 8 11 15 0 12 1 0 ∷ r 9 14 15 1 14 1 0 ∷ r 3 17 20 0 19 1 0 ∷ r 3 21 40 0 23 1 0 ∷
      r 6 25 29 4 25 1 0 ∷ r 20 27 29 5 28 1 0 ∷ r 7 30 37 4 31 1 0 ∷ r 6 33 36 7 33 1 0 ∷ r 26 35 36 8 35 1 0 ∷
      r 3 38 39 4 38 1 0 ∷ r 4 40 47 0 43 2 0 ∷ r 7 45 47 11 46 1 0 ∷ [],
) ∷ (
  bytes "{a b:c d(e:1) @f ...g ...{h} ...on i{j}}",
  r 1 0 40 2048 0 0 0 ∷ r 3 1 2 0 1 1 0 ∷ r 3 3 6 0 5 1 0 ∷ r 3 7 16 0 7 1 0 ∷ r 6 9 12 3 9 1 0 ∷
      r 21 11 12 4 0 0 0 ∷ r 7 14 16 3 15 1 0 ∷ r 4 17 21 0 20 1 0 ∷ r 5 22 28 0 0 0 0 ∷ r 3 26 27 8 26 1 0 ∷
      r 5 29 39 0 0 0 0 ∷ r 9 35 36 10 35 1 0 ∷ r 3 37 38 10 37 1 0 ∷ [],
) ∷ (
  bytes "query($k:[[L!]!]!=[]){m(n:[$o \"p\" 1 1.5 true false null q {r:{s:t}}])}",
  r 1 0 70 2048 0 0 0 ∷ r 8 6 20 0 7 1 0 ∷ r 9 9 17 1 11 1 614 ∷ r 27 18 20 1 0 0 0 ∷ r 3 22 69 0 22 1 0 ∷
      r 6 24 68 4 24 1 0 ∷ r 27 26 68 5 0 0 0 ∷ r 20 27 29 6 28 1 0 ∷ r 23 30 33 6 0 0 0 ∷ r 21 34 35 6 0 0 0 ∷
      r 22 36 39 6 0 0 0 ∷ r 24 40 44 6 0 0 1 ∷ r 24 45 50 6 0 0 0 ∷ r 25 51 55 6 0 0 0 ∷ r 26 56 57 6 56 1 0 ∷
      r 28 58 67 6 0 0 0 ∷ r 10 59 66 15 59 1 0 ∷ r 28 61 66 16 0 0 0 ∷ r 10 62 65 17 62 1 0 ∷ r 26 64 65 18 64 1 0 ∷ [],
) ∷ (
  bytes "{a}query A{a}mutation M{a}subscription S{a}fragment F on T{a}",
  r 1 0 3 2048 0 0 0 ∷ r 3 1 2 0 1 1 0 ∷ r 1 3 13 2048 9 1 0 ∷ r 3 11 12 2 11 1 0 ∷ r 1 13 26 2048 22 1 1 ∷
      r 3 24 25 4 24 1 0 ∷ r 1 26 43 2048 39 1 2 ∷ r 3 41 42 6 41 1 0 ∷ r 2 43 61 2048 52 1 0 ∷ r 9 57 58 8 57 1 0 ∷
      r 3 59 60 8 59 1 0 ∷ [],
) ∷ (
  bytes "query Q @a @b(c:1) {d @e(f:{}) }",
  r 1 0 32 2048 6 1 0 ∷ r 7 8 10 0 9 1 0 ∷ r 7 11 18 0 12 1 0 ∷ r 6 14 17 2 14 1 0 ∷ r 21 16 17 3 0 0 0 ∷
      r 3 20 30 0 20 1 0 ∷ r 7 22 30 5 23 1 0 ∷ r 6 25 29 6 25 1 0 ∷ r 28 27 29 7 0 0 0 ∷ [],
) ∷ (
  bytes "fragment F on T @a(b:[]) { c(d:-1) { e } }",
  r 2 0 42 2048 9 1 0 ∷ r 9 14 15 0 14 1 0 ∷ r 7 16 24 0 17 1 0 ∷ r 6 19 23 2 19 1 0 ∷ r 27 21 23 3 0 0 0 ∷
      r 3 27 40 0 27 1 0 ∷ r 6 29 33 5 29 1 0 ∷ r 21 31 33 6 0 0 0 ∷ r 3 37 38 5 37 1 0 ∷ [],
) ∷
    []

documents_read : T (agree (given Document) due documents)
unfolding from text scan step enter choose lexical lex_factored language factored go flat
documents_read = tt

documents_derived : T (agree (λ c. flat (rows_by Document c.0)) (λ c. flat c.1) documents)
unfolding from text scan step enter choose lexical lex_factored language factored run rows_of book tokens_of flat
documents_derived = tt

-- a directive's row; what is ignored is outside; an object as a constant; words are names
abbrev small : List Case
small = (
  bytes "{a @d(i:1)}",
  r 1 0 11 2048 0 0 0 ∷ r 3 1 10 0 1 1 0 ∷ r 7 3 10 1 4 1 0 ∷ r 6 6 9 2 6 1 0 ∷ r 21 8 9 3 0 0 0 ∷ [],
) ∷ (
  bytes "{b: a }",
  r 1 0 7 2048 0 0 0 ∷ r 3 1 5 0 4 1 0 ∷ [],
) ∷ (
  bytes "query($a:A={}){a}",
  r 1 0 17 2048 0 0 0 ∷ r 8 6 13 0 7 1 0 ∷ r 9 9 10 1 9 1 0 ∷ r 28 11 13 1 0 0 0 ∷ r 3 15 16 0 15 1 0 ∷ [],
) ∷ (
  bytes "query query($null:on){true}",
  r 1 0 27 2048 6 5 0 ∷ r 8 12 20 0 13 4 0 ∷ r 9 18 20 1 18 2 0 ∷ r 3 22 26 0 22 4 0 ∷ [],
) ∷ (
  bytes "{...on on{on}}",
  r 1 0 14 2048 0 0 0 ∷ r 5 1 13 0 0 0 0 ∷ r 9 7 9 1 7 2 0 ∷ r 3 10 12 1 10 2 0 ∷ [],
) ∷ (
  bytes "fragment fragment on fragment{fragment}",
  r 2 0 39 2048 9 8 0 ∷ r 9 21 29 0 21 8 0 ∷ r 3 30 38 0 30 8 0 ∷ [],
) ∷ (
  bytes "subscription A($a:A=A)@a(a:A){A:A(A:A)@A{A}}",
  r 1 0 44 2048 13 1 2 ∷ r 8 15 21 0 16 1 0 ∷ r 9 18 19 1 18 1 0 ∷ r 26 20 21 1 20 1 0 ∷ r 7 22 29 0 23 1 0 ∷
      r 6 25 28 4 25 1 0 ∷ r 26 27 28 5 27 1 0 ∷ r 3 30 43 0 32 1 0 ∷ r 6 34 37 7 34 1 0 ∷ r 26 36 37 8 36 1 0 ∷
      r 7 38 40 7 39 1 0 ∷ r 3 41 42 7 41 1 0 ∷ [],
) ∷
    []

small_read : T (agree (given Document) due small)
unfolding from text scan step enter choose lexical lex_factored language factored go flat
small_read = tt

-- each kind of constant as a default value
abbrev constants : List Case
constants = (
  bytes "fragment F0 on I1 { a1 } mutation ( $ v0 : Boolean = true ) { ... F0 @ include ( if : $ v0 ) ... @ skip ( if : false ) { a1 @ skip ( if : true ) ... F0 } }",
  r 2 0 24 2048 9 2 0 ∷ r 9 15 17 0 15 2 0 ∷ r 3 20 22 0 20 2 0 ∷ r 1 25 155 2048 0 0 1 ∷ r 8 36 57 3 38 2 0 ∷
      r 9 43 50 4 43 7 0 ∷ r 24 53 57 4 0 0 1 ∷ r 4 62 92 3 66 2 0 ∷ r 7 69 92 7 71 7 0 ∷ r 6 81 90 8 81 2 0 ∷
      r 20 86 90 9 88 2 0 ∷ r 5 93 153 3 0 0 0 ∷ r 7 97 118 11 99 4 0 ∷ r 6 106 116 12 106 2 0 ∷ r 24 111 116 13 0 0 0 ∷
      r 3 121 144 11 121 2 0 ∷ r 7 124 144 15 126 4 0 ∷ r 6 133 142 16 133 2 0 ∷ r 24 138 142 17 0 0 1 ∷ r 4 145 151 11 149 2 0 ∷ [],
) ∷ (
  bytes "query,,#\r($v0 :Boolean!= false ) {... F0} fragment F0 on Query{ __typename @ include (if: $ v0)}",
  r 1 0 41 2048 0 0 0 ∷ r 8 10 30 0 11 2 0 ∷ r 9 15 23 1 15 7 2 ∷ r 24 25 30 1 0 0 0 ∷ r 4 34 40 0 38 2 0 ∷
      r 2 42 96 2048 51 2 0 ∷ r 9 57 62 5 57 5 0 ∷ r 3 64 95 5 64 10 0 ∷ r 7 75 95 7 77 7 0 ∷ r 6 86 94 8 86 2 0 ∷
      r 20 90 94 9 92 2 0 ∷ [],
) ∷ (
  bytes "fragment # caf" ++ (0xc3 ∷ 0xa9 ∷ []) ++ bytes " \"x\nF0\ron Query{ b :on( in:[true$v0$ v0])a : on(in :$v1) }\rfragment\rF1 on O3{ __typename },query A($\r\nv0:S1 $ v1 :[S1 ] ! =[\"$v\"\"\\n\\t\\\"\\\\\\/\\b\\f\\r\"-2147483648  ]) {...on O2{ ...F1 a ...F1 } }",
  r 2 0 74 2048 20 2 0 ∷ r 9 26 31 0 26 5 0 ∷ r 3 33 57 0 36 2 0 ∷ r 6 40 56 2 40 2 0 ∷ r 27 43 56 3 0 0 0 ∷
      r 24 44 48 4 0 0 1 ∷ r 20 48 51 4 49 2 0 ∷ r 20 51 55 4 53 2 0 ∷ r 3 57 72 0 61 2 0 ∷ r 6 64 71 8 64 2 0 ∷
      r 20 68 71 9 69 2 0 ∷ r 2 75 106 2048 84 2 0 ∷ r 9 90 92 11 90 2 0 ∷ r 3 94 104 11 94 10 0 ∷ r 1 107 206 2048 113 1 0 ∷
      r 8 115 123 14 118 2 0 ∷ r 9 121 123 15 121 2 0 ∷ r 8 124 176 14 126 2 0 ∷ r 9 130 137 17 131 2 6 ∷ r 27 139 176 17 0 0 0 ∷
      r 23 140 144 19 0 0 0 ∷ r 23 144 162 19 0 0 0 ∷ r 21 162 173 19 0 0 0 ∷ r 5 179 204 14 0 0 0 ∷ r 9 185 187 23 185 2 0 ∷
      r 4 189 194 23 192 2 0 ∷ r 3 195 196 23 195 1 0 ∷ r 4 197 202 23 200 2 0 ∷ [],
) ∷ (
  bytes "query ( $ true0 : Query = null ) { rpm @ skip ( if : $ true0 ) { c @ skip ( if : $ true0 ) { __typename @ include ( if : false ) } } }",
  r 1 0 134 2048 0 0 0 ∷ r 8 8 30 0 10 5 0 ∷ r 9 18 23 1 18 5 0 ∷ r 25 26 30 1 0 0 0 ∷ r 3 35 132 0 35 3 0 ∷
      r 7 39 62 4 41 4 0 ∷ r 6 48 60 5 48 2 0 ∷ r 20 53 60 6 55 5 0 ∷ r 3 65 130 4 65 1 0 ∷ r 7 67 90 8 69 4 0 ∷
      r 6 76 88 9 76 2 0 ∷ r 20 81 88 10 83 5 0 ∷ r 3 93 128 8 93 10 0 ∷ r 7 104 128 12 106 7 0 ∷ r 6 116 126 13 116 2 0 ∷
      r 24 121 126 14 0 0 0 ∷ [],
) ∷
    []

constants_read : T (agree (given Document) due constants)
unfolding from text scan step enter choose lexical lex_factored language factored go flat
constants_read = tt

-- type references: the wrappers from outside in
abbrev wrappers : List Case
wrappers = (
  bytes "query($v:[Int!]!){a}",
  r 1 0 20 2048 0 0 0 ∷ r 8 6 16 0 7 1 0 ∷ r 9 9 16 1 10 3 38 ∷ r 3 18 19 0 18 1 0 ∷ [],
) ∷ (
  bytes "query($a:I!){a}",
  r 1 0 15 2048 0 0 0 ∷ r 8 6 11 0 7 1 0 ∷ r 9 9 11 1 9 1 2 ∷ r 3 13 14 0 13 1 0 ∷ [],
) ∷ (
  bytes "query($a:[I]){a}",
  r 1 0 16 2048 0 0 0 ∷ r 8 6 12 0 7 1 0 ∷ r 9 9 12 1 10 1 1 ∷ r 3 14 15 0 14 1 0 ∷ [],
) ∷ (
  bytes "query($a:[I!]){a}",
  r 1 0 17 2048 0 0 0 ∷ r 8 6 13 0 7 1 0 ∷ r 9 9 13 1 10 1 9 ∷ r 3 15 16 0 15 1 0 ∷ [],
) ∷ (
  bytes "query($a:[I]!){a}",
  r 1 0 17 2048 0 0 0 ∷ r 8 6 13 0 7 1 0 ∷ r 9 9 13 1 10 1 6 ∷ r 3 15 16 0 15 1 0 ∷ [],
) ∷ (
  bytes "query($a:[[I]!]){a}",
  r 1 0 19 2048 0 0 0 ∷ r 8 6 15 0 7 1 0 ∷ r 9 9 15 1 11 1 25 ∷ r 3 17 18 0 17 1 0 ∷ [],
) ∷ (
  bytes "query($a:[ I ! ] !){a}",
  r 1 0 22 2048 0 0 0 ∷ r 8 6 18 0 7 1 0 ∷ r 9 9 18 1 11 1 38 ∷ r 3 20 21 0 20 1 0 ∷ [],
) ∷ (
  bytes "query($a:[[[[I!]!]!]]){a}",
  r 1 0 25 2048 0 0 0 ∷ r 8 6 21 0 7 1 0 ∷ r 9 9 21 1 13 1 9829 ∷ r 3 23 24 0 23 1 0 ∷ [],
) ∷ (
  bytes "query($a:[[[I!]!]!]!){a}",
  r 1 0 24 2048 0 0 0 ∷ r 8 6 20 0 7 1 0 ∷ r 9 9 20 1 12 1 9830 ∷ r 3 22 23 0 22 1 0 ∷ [],
) ∷ (
  bytes "query($a:[[[[[[[I]]]]]]]){a}",
  r 1 0 28 2048 0 0 0 ∷ r 8 6 24 0 7 1 0 ∷ r 9 9 24 1 16 1 5461 ∷ r 3 26 27 0 26 1 0 ∷ [],
) ∷
    []

wrappers_read : T (agree (given Document) due wrappers)
unfolding from text scan step enter choose lexical lex_factored language factored go flat
wrappers_read = tt

wrappers_derived : T (agree (λ c. flat (rows_by Document c.0)) (λ c. flat c.1) wrappers)
unfolding from text scan step enter choose lexical lex_factored language factored run rows_of book tokens_of flat
wrappers_derived = tt

-- the variables text: the object is row 0, its first entry row 1, that entry's value row 2
abbrev variables : List Case
variables = (
  bytes "{x:A}",
  r 28 0 5 2048 0 0 0 ∷ r 10 1 4 0 1 1 0 ∷ r 26 3 4 1 3 1 0 ∷ [],
) ∷
    []

variables_read : T (agree (given VariablesText) due variables)
unfolding from text scan step enter choose lexical lex_factored language factored go flat
variables_read = tt

-- no variable in it, and nothing behind it
variables_stop : map (reads VariablesText 0) (bytes "{x:$x}" ∷ bytes "{} {}" ∷ []) ≡ (4 ∷ 3 ∷ []) ∷ (4 ∷ 3 ∷ []) ∷ []
unfolding from text scan step enter choose lexical lex_factored language factored go
variables_stop = refl

-- the variables `{a 1 %}` are refused by 4 at offset 3, and text 1 is shown
pub shown_of_variables : number_of (NoGoing 3) ∷ shown_in_text input_variables (NoGoing 3) ≡ 4 ∷ 3 ∷ 1 ∷ []
shown_of_variables = refl
