-- The numbers that document 01 fixes for the type table, by name; `src/lib.rt` has each again in capitals.
-- States: 01, "Sizes and refusals" and "The type table".
-- Assumes nothing.
use Rattle.std.specs.Prelude.{ℕ}

-- sizes
abbrev pub most_table : ℕ
most_table = 32768

abbrev pub most_records : ℕ
most_records = 256

abbrev pub most_members : ℕ
most_members = 64

abbrev pub most_implemented : ℕ
most_implemented = 64

abbrev pub most_arguments : ℕ
most_arguments = 16

-- the column "No."
abbrev pub refuse_framing : ℕ
refuse_framing = 7

abbrev pub refuse_schema : ℕ
refuse_schema = 9

-- the input
abbrev pub input_table : ℕ
input_table = 2

-- member, part or argument where there is none
abbrev pub no_place : ℕ
no_place = 65535

-- the records' tags
abbrev pub tag_scalar : ℕ
tag_scalar = 1

abbrev pub tag_object : ℕ
tag_object = 2

abbrev pub tag_interface : ℕ
tag_interface = 3

abbrev pub tag_union : ℕ
tag_union = 4

abbrev pub tag_enum : ℕ
tag_enum = 5

abbrev pub tag_input_object : ℕ
tag_input_object = 6

abbrev pub tag_directive : ℕ
tag_directive = 7

abbrev pub tag_roots : ℕ
tag_roots = 8

-- the tags of what stands inside
abbrev pub tag_name : ℕ
tag_name = 16

abbrev pub tag_implements : ℕ
tag_implements = 17

abbrev pub tag_field : ℕ
tag_field = 18

abbrev pub tag_argument : ℕ
tag_argument = 19

abbrev pub tag_reference : ℕ
tag_reference = 20

abbrev pub tag_union_member : ℕ
tag_union_member = 21

abbrev pub tag_enum_value : ℕ
tag_enum_value = 22

abbrev pub tag_query_root : ℕ
tag_query_root = 23

abbrev pub tag_mutation_root : ℕ
tag_mutation_root = 24

abbrev pub tag_subscription_root : ℕ
tag_subscription_root = 25

-- the schema rules
abbrev pub rule_reserved_name : ℕ
rule_reserved_name = 1

abbrev pub rule_name_known : ℕ
rule_name_known = 2

abbrev pub rule_no_members : ℕ
rule_no_members = 3

abbrev pub rule_name_repeated : ℕ
rule_name_repeated = 4

abbrev pub rule_reserved_member : ℕ
rule_reserved_member = 5

abbrev pub rule_enum_value : ℕ
rule_enum_value = 6

abbrev pub rule_no_type : ℕ
rule_no_type = 7

abbrev pub rule_base : ℕ
rule_base = 8

abbrev pub rule_not_object_or_interface : ℕ
rule_not_object_or_interface = 9

abbrev pub rule_implemented_twice : ℕ
rule_implemented_twice = 10

abbrev pub rule_field_missing : ℕ
rule_field_missing = 11

abbrev pub rule_field_type : ℕ
rule_field_type = 12

abbrev pub rule_argument_missing : ℕ
rule_argument_missing = 13

abbrev pub rule_argument_type : ℕ
rule_argument_type = 14

abbrev pub rule_argument_extra : ℕ
rule_argument_extra = 15

abbrev pub rule_root : ℕ
rule_root = 16
