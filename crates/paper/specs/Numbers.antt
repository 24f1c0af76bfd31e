-- The numbers that document 01 fixes, by name; `src/lib.rt` has each again in capitals.
-- States: 01, "Sizes and refusals" and "Reading a document".
-- Assumes nothing.
use Rattle.std.specs.Prelude.{ℕ}

-- sizes
abbrev pub most_text : ℕ
most_text = 16384

abbrev pub most_levels : ℕ
most_levels = 32

abbrev pub most_rows : ℕ
most_rows = 2048

abbrev pub most_fragments : ℕ
most_fragments = 64

abbrev pub most_variables : ℕ
most_variables = 64

abbrev pub most_wrappers : ℕ
most_wrappers = 7

-- fixed sizes of the outputs, in numbers
abbrev pub row_size : ℕ
row_size = 7

abbrev pub rows_size : ℕ
rows_size = 14336

abbrev pub report_size : ℕ
report_size = 8

-- the column "No."
abbrev pub accepted : ℕ
accepted = 0

abbrev pub refuse_buffer : ℕ
refuse_buffer = 1

abbrev pub refuse_over_length : ℕ
refuse_over_length = 2

abbrev pub refuse_no_token : ℕ
refuse_no_token = 3

abbrev pub refuse_no_going : ℕ
refuse_no_going = 4

abbrev pub refuse_too_deep : ℕ
refuse_too_deep = 5

abbrev pub refuse_too_many_rows : ℕ
refuse_too_many_rows = 6

abbrev pub refuse_too_many : ℕ
refuse_too_many = 8

-- the inputs
abbrev pub input_document : ℕ
input_document = 0

abbrev pub input_variables : ℕ
input_variables = 1

-- a row's parent where there is none
abbrev pub no_parent : ℕ
no_parent = 2048

-- the kinds of rows
abbrev pub kind_operation : ℕ
kind_operation = 1

abbrev pub kind_fragment : ℕ
kind_fragment = 2

abbrev pub kind_field : ℕ
kind_field = 3

abbrev pub kind_spread : ℕ
kind_spread = 4

abbrev pub kind_inline : ℕ
kind_inline = 5

abbrev pub kind_argument : ℕ
kind_argument = 6

abbrev pub kind_directive : ℕ
kind_directive = 7

abbrev pub kind_variable_definition : ℕ
kind_variable_definition = 8

abbrev pub kind_type_reference : ℕ
kind_type_reference = 9

abbrev pub kind_object_field : ℕ
kind_object_field = 10

abbrev pub kind_variable : ℕ
kind_variable = 20

abbrev pub kind_integer : ℕ
kind_integer = 21

abbrev pub kind_float : ℕ
kind_float = 22

abbrev pub kind_string : ℕ
kind_string = 23

abbrev pub kind_boolean : ℕ
kind_boolean = 24

abbrev pub kind_null : ℕ
kind_null = 25

abbrev pub kind_enum : ℕ
kind_enum = 26

abbrev pub kind_list : ℕ
kind_list = 27

abbrev pub kind_object : ℕ
kind_object = 28

-- extras: of an operation, of a boolean
abbrev pub extra_query : ℕ
extra_query = 0

abbrev pub extra_mutation : ℕ
extra_mutation = 1

abbrev pub extra_subscription : ℕ
extra_subscription = 2

abbrev pub extra_false : ℕ
extra_false = 0

abbrev pub extra_true : ℕ
extra_true = 1

-- a wrapper's two bits in a type reference's extra
abbrev pub wrap_list : ℕ
wrap_list = 1

abbrev pub wrap_non_null : ℕ
wrap_non_null = 2

abbrev pub wrap_base : ℕ
wrap_base = 4
