-- The words of document 01's examples: calls with their inputs, what a call tells, and the inputs.
-- Assumes nothing.
use mathlib.Core.Path.{◌≡◌}
use mathlib.Core.Logic.{◌↔◌}
use mathlib.Core.List.{List, [], ◌∷◌, ◌++◌}
use Prim.Native.Nat.{ℕ, ◌≤◌}
use Prim.Native.String.{String}
use lib.ListN.{length, get_or, replicate}
use Rattle.paper_table.specs.Lists.{bytes}
use Rattle.paper_table.proofs.WorkedTables.{h, object, field, argument, input}
use Rattle.paper_plan.specs.PlanNumbers.{plan_size}
use Rattle.claims.proofs.Words.{Result, Parsed, Checked, CoercedArguments, Planned, Walked, report_size, rows_size, most_coerced}
use Rattle.claims.proofs.Words.{pairs_size, variables_size, filled}

-- a call and its inputs
pub data Call : Type 0 where
  parse : (document : List ℕ) → Call
  check_table : (table : List ℕ) → Call
  coerce_arguments : (table document name variables : List ℕ) (row : ℕ) → Call
  plan : (table document name : List ℕ) → Call
  walk : (table planned : List ℕ) (object : ℕ) (blocks variables : List ℕ) → Call

-- its statement: what it says of a result, where `output` and `report` are lent (`check_table` has no output and writes none)
abbrev pub Says : Call → (output report : List ℕ) → Result → Type 0
Says (parse document) output report r = Parsed document output report r.1 r.2 r.0
Says (check_table table) output report r = Checked table report r.2 r.0 × (r.1 ≡ output)
Says (coerce_arguments table document name variables row) output report r =
    CoercedArguments table document name variables row output report r.1 r.2 r.0
Says (plan table document name) output report r = Planned table document name output report r.1 r.2 r.0
Says (walk table planned object blocks variables) output report r =
    Walked table planned object blocks variables output report r.1 r.2 r.0

-- the fixed size of its output
abbrev pub output_size : Call → ℕ
output_size (parse document) = rows_size
output_size (check_table table) = 0
output_size (coerce_arguments table document name variables row) = most_coerced
output_size (plan table document name) = plan_size
output_size (walk table planned object blocks variables) = pairs_size

-- `Tells c ns os`: whatever is lent, of the sizes or longer, the results that the call's statement allows are this one alone: the report
-- holds ns, the answer first, and zeros, the output holds os and zeros, and beyond the sizes nothing is written.
abbrev pub Tells : Call → List ℕ → List ℕ → Type 0
Tells c ns os =
    (output report : List ℕ) → (report_size ≤ length report) × (output_size c ≤ length output) → (r : Result) →
    Says c output report r ↔ (r ≡ (get_or ns 0 0, filled (output_size c) os output, filled report_size ns report))

-- an example: a call, its report and its output; and that each of a list holds
abbrev pub Example : Type 0
Example = Call × List ℕ × List ℕ

infixr 5 ◌and◌
pub data AllTell : List Example → Type 0 where
  all_told : AllTell []
  ◌and◌ : {e : Example} {es : List Example} → Tells e.0 e.1 e.2 → AllTell es → AllTell (e ∷ es)

-- ---- the inputs; 01's table T and document D stand in `WorkedRules` of `paper_query` and `ExamplesPlans` of `paper_plan`

-- for (1) to (7): Query {f(x: Int): Int, g(in: In): Int}, input In {a: String, b: Int!}; a document with a field for each
abbrev pub table_e : List ℕ
table_e =
    object "Query" (field "f" "Int" (argument "x" "Int") ++ field "g" "Int" (argument "in" "In")) ++
    input "In" (argument "a" "String" ++ argument "b" "Int!")

abbrev pub document_e : List ℕ
document_e =
    bytes "query($var: String) { n1: f(x: 2147483647) n2: f(x: 2147483648) n3: f(x: -2147483648) n4: f(x: -2147483649) " ++
    bytes "n5: g(in: { a: \"abc\" }) n6: g(in: { a: null, b: 1 }) n7: g(in: { a: $var, b: 1 }) }"

-- a variables text that sets none
abbrev pub none_set : List ℕ
none_set = bytes "{}"

-- the arguments of the field at a row of that document
abbrev pub arguments : ℕ → Call
arguments row = coerce_arguments table_e document_e [] none_set row

-- an entry of a coerced object: a name and a value
abbrev pub entry : String → List ℕ → List ℕ
entry n v = h 40 (h 16 (bytes n) ++ v)

-- D's plan, up to its last step: 4 blocks, 11 steps; the first steps of its blocks; then each step's kind, first and second, block by block
abbrev pub plan_of_d : List ℕ
plan_of_d =
    4 ∷ 11 ∷ (((0 ∷ 5 ∷ 9 ∷ 10 ∷ []) ++ replicate 2044 0) ++ (
    5 ∷ 1 ∷ 1 ∷ 4 ∷ 1 ∷ 4 ∷ 3 ∷ 3 ∷ 4 ∷ 5 ∷ 16 ∷ 16 ∷ 5 ∷ 1 ∷ 7 ∷
    5 ∷ 4 ∷ 4 ∷ 4 ∷ 0 ∷ 9 ∷ 3 ∷ 1 ∷ 9 ∷ 5 ∷ 13 ∷ 13 ∷
    5 ∷ 4 ∷ 10 ∷
    5 ∷ 13 ∷ 19 ∷ []))

-- a plan as a walk is lent it: its 14,338 numbers
abbrev pub lent : List ℕ → List ℕ
lent ns = filled plan_size ns []

-- the variables' 64 bytes, none true
abbrev pub none_true : List ℕ
none_true = replicate variables_size 0
