-- 11. Interface field missing.
use Rattle.std.specs.Prelude.{Bool, not}
use Rattle.paper_table.specs.Lists.{any_of, only_if}
use Rattle.paper_table.specs.Types.{Member, Definition, member_named}
use Rattle.paper_table.specs.Places.{part_at, Rule}
use Rattle.paper_table.specs.Promises.{FieldBreaks, promised}

abbrev pub lacks_field : Definition → Member → Bool
lacks_field d f = not (any_of (member_named f.name) d.members)

abbrev pub missing_breaks : Definition → FieldBreaks
missing_breaks d m p f = only_if (lacks_field d f) (part_at m p)

unfoldable pub interface_field_missing : Rule
interface_field_missing t i d = promised (missing_breaks d) t d
