-- 7. Reference to no type. (Of tag 20 alone: other names are rules 9 and 16.)
use Rattle.std.specs.Prelude.{Bool, ◌&&◌, ◌||◌, ℕ, eqb}
use Rattle.paper_table.specs.TableNumbers.{tag_field, tag_argument}
use Rattle.paper_table.specs.References.{Ref, base_of}
use Rattle.paper_table.specs.Types.{Argument, Member, Definition, Table, meant, is_unknown}
use Rattle.paper_table.specs.Places.{Rule, members_or_arguments_that}

abbrev pub base_meant : Table → Ref → Definition
base_meant t r = meant t (base_of r)

abbrev pub is_field : Member → Bool
is_field e = eqb e.tag tag_field

abbrev pub is_input_field : Member → Bool
is_input_field e = eqb e.tag tag_argument

abbrev pub member_type_unknown : Table → ℕ → Member → Bool
member_type_unknown t m e = (is_field e || is_input_field e) && is_unknown (base_meant t e.type)

abbrev pub argument_type_unknown : Table → Member → ℕ → Argument → Bool
argument_type_unknown t e a x = is_unknown (base_meant t x.type)

unfoldable pub no_type : Rule
no_type t i d = members_or_arguments_that (member_type_unknown t) (argument_type_unknown t) d
