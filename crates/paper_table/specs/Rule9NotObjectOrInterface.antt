-- 9. Union member not an object, implemented name not an interface.
use Rattle.std.specs.Prelude.{Bool, not, cond, List, ℕ}
use Rattle.paper_table.specs.Types.{Member, Table, is_object, is_interface, is_union, meant}
use Rattle.paper_table.specs.Places.{Rule, members_that, implemented_that}

abbrev pub member_no_object : Table → ℕ → Member → Bool
member_no_object t m e = not (is_object (meant t e.name))

abbrev pub no_interface : Table → ℕ → List ℕ → Bool
no_interface t m n = not (is_interface (meant t n))

unfoldable pub not_object_or_interface : Rule
not_object_or_interface t i d = cond (is_union d) (members_that (member_no_object t) d) (implemented_that (no_interface t) d)
