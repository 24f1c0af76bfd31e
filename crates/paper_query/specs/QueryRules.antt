-- The fourteen query rules, by their numbers; what is said of a document.
-- States: 01, "Query rules": "Least row, then least rule."
-- Assumes nothing.
use Rattle.std.specs.Prelude.{◌≡◌, ◌⊎◌, List, [], ◌∷◌, ℕ, ◌<◌, ◌≤◌, T}
use Rattle.paper.specs.Numbers.{accepted}
use Rattle.paper_table.specs.Types.{Table}
use Rattle.paper_query.specs.QueryNumbers.{refuse_query, rule_operation_repeated, rule_operation_unnamed, rule_fragment_repeated, rule_condition, rule_field, rule_leaf, rule_spread, rule_circle, rule_directive, rule_undefined, rule_variable_type, rule_name_twice, rule_no_root, rule_argument}
use Rattle.paper_query.specs.Constructs.{Doc}
use Rattle.paper_query.specs.Rule1OperationRepeated.{operation_repeated}
use Rattle.paper_query.specs.Rule2OperationUnnamed.{operation_unnamed}
use Rattle.paper_query.specs.Rule3FragmentRepeated.{fragment_repeated}
use Rattle.paper_query.specs.Rule4Condition.{condition_wrong}
use Rattle.paper_query.specs.Rule5Field.{field_not_of_type}
use Rattle.paper_query.specs.Rule6Leaf.{leaf_wrong}
use Rattle.paper_query.specs.Rule7Spread.{spread_of_none}
use Rattle.paper_query.specs.Rule8Circle.{ReachesItself}
use Rattle.paper_query.specs.Rule9Directive.{directive_wrong}
use Rattle.paper_query.specs.Rule10Undefined.{Undefined}
use Rattle.paper_query.specs.Rule11VariableType.{no_input_type, Differs}
use Rattle.paper_query.specs.Rule12NameTwice.{name_twice}
use Rattle.paper_query.specs.Rule13NoRoot.{no_root}
use Rattle.paper_query.specs.Rule14Argument.{argument_unknown}
use Rattle.paper_query.specs.declared.QueryAnswer.{QueryAnswer}
use Rattle.paper_query.specs.declared.QueryAnswer.TheVariants.{Fits, Breaks}

-- `Broken t d i k`: row i of the document d breaks rule k, against the table t
pub data Broken (t : Table) (d : Doc) (i : ℕ) : ℕ → Type 0 where
  by_operation_repeated : T (operation_repeated d i) → Broken t d i rule_operation_repeated
  by_operation_unnamed : T (operation_unnamed d i) → Broken t d i rule_operation_unnamed
  by_fragment_repeated : T (fragment_repeated d i) → Broken t d i rule_fragment_repeated
  condition : T (condition_wrong t d i) → Broken t d i rule_condition
  by_field_not_of_type : T (field_not_of_type t d i) → Broken t d i rule_field
  leaf : T (leaf_wrong t d i) → Broken t d i rule_leaf
  by_spread_of_none : T (spread_of_none d i) → Broken t d i rule_spread
  circle : ReachesItself d i → Broken t d i rule_circle
  directive : T (directive_wrong d i) → Broken t d i rule_directive
  undefined : Undefined d i → Broken t d i rule_undefined
  by_no_input_type : T (no_input_type t d i) → Broken t d i rule_variable_type
  other_type : Differs t d i → Broken t d i rule_variable_type
  by_name_twice : T (name_twice d i) → Broken t d i rule_name_twice
  by_no_root : T (no_root t d i) → Broken t d i rule_no_root
  unknown_argument : T (argument_unknown t d i) → Broken t d i rule_argument

-- the least row, then the least rule
abbrev pub NotAfter : ℕ → ℕ → ℕ → ℕ → Type 0
NotAfter i k j l = (i < j) ⊎ ((i ≡ j) × (k ≤ l))

-- `Judged t d a`: a is what is said of the document d against the table t
pub data Judged (t : Table) (d : Doc) : QueryAnswer → Type 0 where
  no_break : ((i k : ℕ) → Broken t d i k → ⊥) → Judged t d Fits
  least_break : {i k : ℕ} → Broken t d i k → ((j l : ℕ) → Broken t d j l → NotAfter i k j l) → Judged t d (Breaks i k)

-- the column "No."
abbrev pub query_number : QueryAnswer → ℕ
query_number Fits = accepted
query_number (Breaks i k) = refuse_query

-- the column "Shown"
abbrev pub query_shown : QueryAnswer → List ℕ
query_shown Fits = []
query_shown (Breaks i k) = i ∷ k ∷ []
