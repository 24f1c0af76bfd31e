-- 16. A root isn't an object type: at record 8.
use Rattle.std.specs.Prelude.{Bool, not, ◌&&◌, cond, []}
use Rattle.paper_table.specs.Lists.{bytes, any_of}
use Rattle.paper_table.specs.Types.{Table, is_object, is_roots, meant}
use Rattle.paper_table.specs.Places.{Rule, members_that}
use Rattle.paper_table.specs.Rule9NotObjectOrInterface.{member_no_object}

unfoldable pub root_not_object : Rule
root_not_object t i d = cond (is_roots d) (members_that (member_no_object t) d) []

-- 16, without record 8, where `Query` is the only root: told at the number of records
unfoldable pub query_not_object : Table → Bool
query_not_object t = not (any_of is_roots t) && not (is_object (meant t (bytes "Query")))
