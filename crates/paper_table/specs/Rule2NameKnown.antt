-- 2. Name already known or defined before, types and directives apart.
use Rattle.std.specs.Prelude.{Bool, ◌&&◌, ◌||◌, ℕ}
use Rattle.paper.specs.Tokens.{same}
use Rattle.paper_table.specs.Lists.{any_of, only_if, earlier}
use Rattle.paper_table.specs.Types.{Definition, Table, is_directive, is_type, type_named, directive_named, is_built_in, built_in_directives}
use Rattle.paper_table.specs.Places.{whole_of, Rule}

abbrev pub type_known : Table → ℕ → Definition → Bool
type_known t i d = is_built_in d.name || earlier (type_named d.name) i t

abbrev pub directive_known : Table → ℕ → Definition → Bool
directive_known t i d = any_of (same d.name) built_in_directives || earlier (directive_named d.name) i t

unfoldable pub name_known : Rule
name_known t i d = only_if (is_type d && type_known t i d || is_directive d && directive_known t i d) whole_of
