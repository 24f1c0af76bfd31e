-- How a worked example is computed: a document's text read into rows, and the least row and rule of those that a test decides.
-- (Rules 8, 10 and 11's second half speak of paths: `ExamplesReaching` derives theirs.)
use mathlib.Core.Bool.{Bool, true, ◌&&◌}
use mathlib.Core.List.{List, [], ◌∷◌, ◌++◌}
use Prim.Native.Nat.{ℕ}
use Prim.Native.String.{String}
use lib.ListN.{take}
use Rattle.paper.specs.Language.{Document}
use Rattle.paper.specs.Tokens.{same}
use Rattle.paper.proofs.Worked.{rows_by}
use Rattle.paper_table.specs.Lists.{bytes, each, only_if}
use Rattle.paper_table.specs.Types.{Table}
use Rattle.paper_table.proofs.WorkedTables.{field, argument, scalar, object, interface, union, enum, input, implements, member, value}
use Rattle.paper_query.specs.QueryNumbers.{rule_operation_repeated, rule_operation_unnamed, rule_fragment_repeated, rule_condition, rule_field, rule_leaf, rule_spread, rule_directive, rule_variable_type, rule_name_twice, rule_no_root, rule_argument}
use Rattle.paper_query.specs.Constructs.{Doc}
use Rattle.paper_query.specs.DocumentCalls.{read}
use Rattle.paper_query.specs.Rule1OperationRepeated.{operation_repeated}
use Rattle.paper_query.specs.Rule2OperationUnnamed.{operation_unnamed}
use Rattle.paper_query.specs.Rule3FragmentRepeated.{fragment_repeated}
use Rattle.paper_query.specs.Rule4Condition.{condition_wrong}
use Rattle.paper_query.specs.Rule5Field.{field_not_of_type}
use Rattle.paper_query.specs.Rule6Leaf.{leaf_wrong}
use Rattle.paper_query.specs.Rule7Spread.{spread_of_none}
use Rattle.paper_query.specs.Rule9Directive.{directive_wrong}
use Rattle.paper_query.specs.Rule11VariableType.{no_input_type}
use Rattle.paper_query.specs.Rule12NameTwice.{name_twice}
use Rattle.paper_query.specs.Rule13NoRoot.{no_root}
use Rattle.paper_query.specs.Rule14Argument.{argument_unknown}

-- 01's table T, and the readings' table S
abbrev pub table_t : List ℕ
table_t =
    interface "Machine" (field "tag" "String!" []) ++
    object "Fan" (implements "Machine" ++ field "tag" "String!" [] ++ field "rpm" "Int" []) ++
    object "Pump" (implements "Machine" ++ field "tag" "String!" [] ++ field "flow" "Float" []) ++
    object "Query" (field "machine" "Machine" (argument "id" "ID!") ++ field "fan" "Fan" (argument "no" "Int!"))

abbrev pub table_s : List ℕ
table_s =
    object "Query" (
    field "a" "Int" [] ++ field "q" "Query" [] ++ field "u" "U" [] ++
    field "f" "Int" (
    argument "x" "Int" ++ argument "y" "[Int]" ++ argument "m" "[Int!]" ++ argument "k" "[[Int]]" ++ argument "i" "In" ++ argument "l" "[In]" ++
    argument "s" "Own" ++ argument "e" "E" ++ argument "d" "ID" ++ argument "fl" "Float" ++ argument "st" "String" ++ argument "b" "Boolean") ++
    field "g" "Int" (argument "n" "Int!")) ++
    object "O" (field "a" "Int" [] ++ field "o" "O" []) ++
    union "U" (member "Query" ++ member "O") ++
    input "In" (argument "n" "Int!" ++ argument "x" "Int") ++
    scalar "Own" ++ enum "E" (value "A")

-- a text's document
abbrev pub document : List ℕ → Doc
document s = read s (rows_by Document s)

-- the rules that a row breaks, in order
abbrev broken_at : Table → Doc → ℕ → List ℕ
broken_at t d i =
    only_if (operation_repeated d i) rule_operation_repeated ++ only_if (operation_unnamed d i) rule_operation_unnamed ++
    only_if (fragment_repeated d i) rule_fragment_repeated ++ only_if (condition_wrong t d i) rule_condition ++ only_if (field_not_of_type t d i) rule_field ++
    only_if (leaf_wrong t d i) rule_leaf ++ only_if (spread_of_none d i) rule_spread ++ only_if (directive_wrong d i) rule_directive ++
    only_if (no_input_type t d i) rule_variable_type ++ only_if (name_twice d i) rule_name_twice ++ only_if (no_root t d i) rule_no_root ++
    only_if (argument_unknown t d i) rule_argument

abbrev placed : ℕ → List ℕ → List ℕ
placed i [] = []
placed i (k ∷ ks) = i ∷ k ∷ placed i ks

-- each row with each rule that it breaks; the least row and its least rule, or nothing
abbrev broken : Table → Doc → List ℕ
broken t d = each (λ i r. placed i (broken_at t d i)) d.rows

abbrev shown : Table → Doc → List ℕ
shown t d = take 2 (broken t d)

-- a document and what is to be shown of it, or all of its breaks
abbrev pub Case : Type 0
Case = String × List ℕ

-- each is told so
abbrev pub agreed : Table → List Case → Bool
agreed t [] = true
agreed t (c ∷ cs) = same (shown t (document (bytes c.0))) c.1 && agreed t cs

abbrev pub agreed_all : Table → List Case → Bool
agreed_all t [] = true
agreed_all t (c ∷ cs) = same (broken t (document (bytes c.0))) c.1 && agreed_all t cs
