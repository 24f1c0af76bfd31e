-- 8. Field type with base input object; argument or input field type with base object, interface or union.
use Rattle.std.specs.Prelude.{Bool, ◌&&◌, ◌||◌, ℕ}
use Rattle.paper_table.specs.Types.{Argument, Member, Table, is_input_object, is_composite}
use Rattle.paper_table.specs.Places.{Rule, members_or_arguments_that}
use Rattle.paper_table.specs.Rule7NoType.{base_meant, is_field, is_input_field}

abbrev pub member_base_wrong : Table → ℕ → Member → Bool
member_base_wrong t m e = is_field e && is_input_object (base_meant t e.type) || is_input_field e && is_composite (base_meant t e.type)

abbrev pub argument_base_wrong : Table → Member → ℕ → Argument → Bool
argument_base_wrong t e a x = is_composite (base_meant t x.type)

unfoldable pub wrong_base : Rule
wrong_base t i d = members_or_arguments_that (member_base_wrong t) (argument_base_wrong t) d
