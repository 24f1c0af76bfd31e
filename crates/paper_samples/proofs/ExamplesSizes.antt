-- Worked examples, computed: levels, rows, fragments, variables and wrappers, at their sizes and over them.
-- The answers are those of document 01 and of its readings; none was taken from what is computed here.
use mathlib.Core.Path.{◌≡◌, refl}
use mathlib.Core.List.{List, [], ◌∷◌, ◌++◌, map}
use Prim.Native.Nat.{ℕ, zero, suc, ◌+◌}
use lib.Dec.{T}
use Rattle.paper.specs.Grammar.{nt, Ev}
use Rattle.paper.specs.Language.{Class, Mark, language, Document, brace_l, brace_r, n_other}
use Rattle.paper.specs.Lexical.{lexical}
use Rattle.paper.specs.Tokens.{Text, at_end, token}
use Rattle.paper.specs.Reading.{tokens_of, classes_of}
use Rattle.paper.specs.Sizes.{nothing_counted, sums, through}
use Rattle.paper.proofs.Machine.{Answer, accepted, stopped, run, step, enter, choose}
use Rattle.paper.proofs.Longest.{scan}
use Rattle.paper.proofs.Tables.{graphql, factored}
use Rattle.paper.proofs.LexTables.{lex_factored}
use Rattle.paper.proofs.Lexing.{text, from}
use Rattle.paper.proofs.Going.{go}
use Rattle.paper.proofs.Worked.{bytes, agree, times, begin, told, tells}

-- a document, and its count of rows or its refusal
abbrev Case : Type 0
Case = List ℕ × List ℕ

-- the levels: fields, lists, objects, arguments; at one offset the least number
abbrev levels : List Case
levels =
    (times 33 (bytes "{q") ++ times 33 (bytes "}"), 5 ∷ 64 ∷ []) ∷
    (bytes "{a(x:" ++ times 30 (bytes "[") ++ times 30 (bytes "]") ++ bytes ")}", 0 ∷ 33 ∷ []) ∷
    (bytes "{a(x:" ++ times 31 (bytes "[") ++ times 31 (bytes "]") ++ bytes ")}", 5 ∷ 35 ∷ []) ∷
    (bytes "{a(x:" ++ times 30 (bytes "{b:") ++ bytes "{}" ++ times 30 (bytes "}") ++ bytes ")}", 5 ∷ 95 ∷ []) ∷
    (bytes "query($v:I=" ++ times 32 (bytes "[") ++ times 32 (bytes "]") ++ bytes "){a}", 5 ∷ 42 ∷ []) ∷
    (times 31 (bytes "{q") ++ bytes "{a(x:1)" ++ times 32 (bytes "}"), 5 ∷ 64 ∷ []) ∷
    (times 31 (bytes "{q") ++ bytes "{a@d(x:1)" ++ times 32 (bytes "}"), 5 ∷ 66 ∷ []) ∷
    (bytes "{a(x:" ++ times 31 (bytes "[") ++ bytes "%", 5 ∷ 35 ∷ []) ∷
    (bytes "{a(x:" ++ times 30 (bytes "[") ++ bytes "(", 4 ∷ 35 ∷ []) ∷
    (bytes "{a(x:" ++ times 30 (bytes "[") ++ bytes "}", 4 ∷ 35 ∷ []) ∷
    []

levels_told : T (agree (λ c. tells c.0) (λ c. c.1) levels)
unfolding from text scan step enter choose lexical lex_factored language factored go
levels_told = tt

-- 64 fragments of the document, 64 variables of each operation
abbrev fragments : List ℕ
fragments = times 64 (bytes "fragment F on T{a}")

abbrev variables : List ℕ
variables = bytes "query(" ++ times 64 (bytes "$a:I ")

abbrev counts : List Case
counts =
    (fragments ++ bytes "fragment", 8 ∷ 1152 ∷ []) ∷
    (variables ++ bytes "$){a}", 8 ∷ 326 ∷ []) ∷
    (variables ++ bytes "a){a}", 4 ∷ 326 ∷ []) ∷
    (bytes "query($b:I){a}" ++ variables ++ bytes "){a}", 0 ∷ 134 ∷ []) ∷
    []

counts_told : T (agree (λ c. tells c.0) (λ c. c.1) counts)
unfolding from text scan step enter choose lexical lex_factored language factored go
counts_told = tt

-- 2,048 rows: the tokens of `{`, n times `a `, and `}`; the operation is a row as well
abbrev fields : ℕ → ℕ → (ℕ → Text) → Text
fields at zero t = t at
fields at (suc n) t = token (record { class = n_other; start = at; stop = at + 1 }) (fields (at + 2) n t)

abbrev many_rows : ℕ → List ℕ
many_rows n = told (go (begin 0 0) (nt Document ∷ []) (token (record { class = brace_l; start = 0; stop = 1 }) (fields 1 n (λ at. token (record { class = brace_r; start = at; stop = at + 1 }) (at_end (at + 1))))))

rows_told : many_rows 2048 ≡ 6 ∷ 4095 ∷ []
unfolding step enter choose language factored go
rows_told = refl

-- what the definition counts after each token: levels, rows, fragments, variables, wrappers
abbrev events_in : Answer Class Mark → List (Ev Class Mark)
events_in (accepted es) = es
events_in (stopped k) = []

abbrev counts_at : List (Ev Class Mark) → ℕ → List ℕ
counts_at es n = let s = sums (through n es) nothing_counted in s.levels ∷ s.rows ∷ s.counts.fragments ∷ s.counts.variables ∷ s.counts.wrappers ∷ []

-- of the tokens `$`, `[`, `!`, `)`, `b`, the second `{` and the last of this document
sums_are :
    map (λ n. counts_at (events_in (run graphql (nt Document ∷ []) (classes_of (from (bytes "query($a:[I!]){b}fragment F on T{c}") 0)))) n) (3 ∷ 6 ∷ 8 ∷ 10 ∷ 12 ∷ 18 ∷ 20 ∷ []) ≡
    (1 ∷ 2 ∷ 0 ∷ 1 ∷ 0 ∷ []) ∷ (2 ∷ 3 ∷ 0 ∷ 1 ∷ 1 ∷ []) ∷ (2 ∷ 3 ∷ 0 ∷ 1 ∷ 2 ∷ []) ∷ (0 ∷ 3 ∷ 0 ∷ 1 ∷ 2 ∷ []) ∷ (1 ∷ 4 ∷ 0 ∷ 1 ∷ 2 ∷ []) ∷ (1 ∷ 6 ∷ 1 ∷ 1 ∷ 2 ∷ []) ∷ (0 ∷ 7 ∷ 1 ∷ 1 ∷ 2 ∷ []) ∷ []
unfolding from text scan step enter choose lexical lex_factored language factored run tokens_of sums through
sums_are = refl
