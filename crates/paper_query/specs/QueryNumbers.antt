-- The numbers that document 01 fixes for the query rules, by name; `src/lib.rt` has each again in capitals.
-- States: 01, "Sizes and refusals" and "Query rules".
-- Assumes nothing.
use Rattle.std.specs.Prelude.{ℕ}

-- the column "No."
abbrev pub refuse_query : ℕ
refuse_query = 10

-- the query rules
abbrev pub rule_operation_repeated : ℕ
rule_operation_repeated = 1

abbrev pub rule_operation_unnamed : ℕ
rule_operation_unnamed = 2

abbrev pub rule_fragment_repeated : ℕ
rule_fragment_repeated = 3

abbrev pub rule_condition : ℕ
rule_condition = 4

abbrev pub rule_field : ℕ
rule_field = 5

abbrev pub rule_leaf : ℕ
rule_leaf = 6

abbrev pub rule_spread : ℕ
rule_spread = 7

abbrev pub rule_circle : ℕ
rule_circle = 8

abbrev pub rule_directive : ℕ
rule_directive = 9

abbrev pub rule_undefined : ℕ
rule_undefined = 10

abbrev pub rule_variable_type : ℕ
rule_variable_type = 11

abbrev pub rule_name_twice : ℕ
rule_name_twice = 12

abbrev pub rule_no_root : ℕ
rule_no_root = 13

abbrev pub rule_argument : ℕ
rule_argument = 14
