-- 5. Object or interface field, or its argument, begins `__`.
use Rattle.std.specs.Prelude.{Bool, ◌||◌, cond, [], ℕ}
use Rattle.paper_table.specs.Types.{Argument, Member, is_object, is_interface, is_reserved}
use Rattle.paper_table.specs.Places.{Rule, members_or_arguments_that}

abbrev pub member_reserved : ℕ → Member → Bool
member_reserved m e = is_reserved e.name

abbrev pub argument_reserved : Member → ℕ → Argument → Bool
argument_reserved e a x = is_reserved x.name

unfoldable pub reserved_member : Rule
reserved_member t i d = cond (is_object d || is_interface d) (members_or_arguments_that member_reserved argument_reserved d) []
