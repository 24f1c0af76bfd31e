-- Worked examples, computed: with which token no document can go on, and where.
-- The answers are those of document 01 and of its readings; none was taken from what is computed here.
use mathlib.Core.List.{List, [], ◌∷◌}
use Prim.Native.Nat.{ℕ}
use Prim.Native.String.{String}
use lib.Dec.{T}
use Rattle.paper.specs.Numbers.{accepted, refuse_no_going}
use Rattle.paper.specs.Language.{language}
use Rattle.paper.specs.Lexical.{lexical}
use Rattle.paper.proofs.Machine.{step, enter, choose}
use Rattle.paper.proofs.Longest.{scan}
use Rattle.paper.proofs.Tables.{factored}
use Rattle.paper.proofs.LexTables.{lex_factored}
use Rattle.paper.proofs.Lexing.{text, from}
use Rattle.paper.proofs.Going.{go}
use Rattle.paper.proofs.Worked.{bytes, agree, tells}

-- a document and the offset of the token (or of the end)
abbrev stops : List (String × ℕ)
stops =
    ("{", 1) ∷ ("", 0) ∷ ("{a", 2) ∷ ("{) %", 1) ∷ ("{ a  ", 5) ∷ ("{a(x:\"\"\"b\"\"\")}", 7) ∷ ("query($a:Int@d){a}", 12) ∷ ("{...on}", 6) ∷
    ("fragment on on on{a}", 9) ∷ ("q", 0) ∷ ("query", 5) ∷ ("query Q($a: [Int!]! = [1 2], $b: In = {n: -0.5e3}", 49) ∷
    ("query Q($a: [Int!]! = [1 2], $b: In = {n: -0.5e3}) @d { k: f(", 61) ∷
    ("query Q($a: [Int!]! = [1 2], $b: In = {n: -0.5e3}) @d { k: f(x: $a, s: \"\\u00e9\\n\", o: {p: [true null E]})", 105) ∷ ("}", 0) ∷ ("(", 0) ∷
    (")", 0) ∷ ("[", 0) ∷ ("]", 0) ∷ ("...", 0) ∷ ("$", 0) ∷ ("@", 0) ∷ ("!", 0) ∷ (":", 0) ∷ ("=", 0) ∷ ("|", 0) ∷ ("a", 0) ∷ ("1", 0) ∷ ("1.5", 0) ∷
    ("\"s\"", 0) ∷ ("mutation", 8) ∷ ("subscription", 12) ∷ ("fragment", 8) ∷ ("on", 0) ∷ ("{}", 1) ∷ ("{a}}", 3) ∷ ("{a:}", 3) ∷ ("{a:b:c}", 4) ∷
    ("{a()}", 3) ∷ ("{a(x)}", 4) ∷ ("{a(x:)}", 5) ∷ ("{a(x:1", 6) ∷ ("{a(x:1}", 6) ∷ ("{a(:1)}", 3) ∷ ("{a(1:1)}", 3) ∷ ("{a{}}", 3) ∷ ("{a@}", 3) ∷
    ("{a@d(}", 5) ∷ ("{a@d()}", 5) ∷ ("{...}", 4) ∷ ("{...F", 5) ∷ ("{...on T}", 8) ∷ ("{...on T{}}", 9) ∷ ("{...@d}", 6) ∷ ("{...F{a}}", 5) ∷
    ("{...1}", 4) ∷ ("query{", 6) ∷ ("query A", 7) ∷ ("query A B{a}", 8) ∷ ("query(){a}", 6) ∷ ("query($){a}", 7) ∷ ("query($a){a}", 8) ∷
    ("query($a:){a}", 9) ∷ ("query($a:Int=){a}", 13) ∷
    ("query($a:Int=1 2){a}", 15) ∷ ("query($a:Int!!){a}", 13) ∷ ("query($a:[Int){a}", 13) ∷ ("query($a:[]){a}", 10) ∷ ("query($a:Int]){a}", 12) ∷
    ("query($a Int){a}", 9) ∷ ("query(a:Int){a}", 6) ∷ ("query @d", 8) ∷ ("Query{a}", 0) ∷ ("fragment F", 10) ∷ ("fragment F on", 13) ∷
    ("fragment F on T", 15) ∷ ("fragment F on T{", 16) ∷ ("fragment F{a}", 10) ∷ ("fragment F on [T]{a}", 14) ∷
    ("{a} b", 4) ∷ ("{a} fragment", 12) ∷ ("{a(x:[)}", 6) ∷ ("{a(x:[}", 6) ∷ ("{a(x:{1})}", 6) ∷ ("{a(x:{b})}", 7) ∷ ("{a(x:{b:})}", 8) ∷
    ("{a(x:{b:1)}", 9) ∷ ("{a(x:$)}", 6) ∷ ("{a(x:$1)}", 6) ∷ ("{a(x:@d)}", 5) ∷ ("{a(x:!)}", 5) ∷ ("{|}", 1) ∷ ("{a=b}", 2) ∷ ("{a(x:...)}", 5) ∷ []

stops_told : T (agree (λ c. tells (bytes c.0)) (λ c. refuse_no_going ∷ c.1 ∷ []) stops)
unfolding from text scan step enter choose lexical lex_factored language factored go
stops_told = tt

-- documents near those, which are accepted, and their counts of rows
abbrev goes : List (String × ℕ)
goes =
    ("{a@d@e}", 4) ∷ ("{...{a}}", 3) ∷ ("{... on on{a}}", 4) ∷ ("query @d{a}", 3) ∷ ("query A @d(x:1){a}", 5) ∷ ("fragment F on on{a}", 3) ∷
    ("fragment F on T@d{a}", 4) ∷ ("fragment F on T{...F}", 3) ∷ ("{a}{b}", 4) ∷ ("{a} query{b}", 4) ∷ ("{a(x:[1,,2,])}", 6) ∷ ("{a(x:{})}", 4) ∷
    ("{a(x:[])}", 4) ∷ ("{a(x:[[] {} [{}]])}", 8) ∷ ("{a,,b,}", 3) ∷ (",{a}", 2) ∷ ("{a(x:$v y:$w)}", 6) ∷ ("{a(x:on)}", 4) ∷
    ("{a(x:true y:false z:null w:nULL)}", 10) ∷ ("{true(null:false)}", 4) ∷ ("{query fragment on mutation}", 5) ∷ ("query query{query}", 2) ∷
    ("fragment fragment on fragment{fragment}", 3) ∷ ("{a:a}", 2) ∷ ("{a :b (x :1 ) @d }", 5) ∷ ("subscription A($a:A=A)@a(a:A){A:A(A:A)@A{A}}", 12) ∷
    ("{_ __ _1 A_9z}", 5) ∷ []

goes_told : T (agree (λ c. tells (bytes c.0)) (λ c. accepted ∷ c.1 ∷ []) goes)
unfolding from text scan step enter choose lexical lex_factored language factored go
goes_told = tt
