-- 3. A type other than a scalar without members.
use Rattle.std.specs.Prelude.{Bool, ◌&&◌, length, leb, eqb}
use Rattle.paper_table.specs.TableNumbers.{tag_object}
use Rattle.paper_table.specs.Lists.{only_if}
use Rattle.paper_table.specs.Types.{Definition, is_type}
use Rattle.paper_table.specs.Places.{whole_of, Rule}

abbrev pub needs_members : Definition → Bool
needs_members d = leb tag_object d.tag && is_type d

unfoldable pub no_members : Rule
no_members t i d = only_if (needs_members d && eqb (length d.members) 0) whole_of
