-- 15. Extra argument Non-Null. (The argument is counted in the object's field.)
use Rattle.std.specs.Prelude.{Bool, not, ◌&&◌}
use Rattle.paper_table.specs.Lists.{any_of, each, only_if}
use Rattle.paper_table.specs.References.{is_non_null}
use Rattle.paper_table.specs.Types.{Argument, Member, Definition, argument_named}
use Rattle.paper_table.specs.Places.{part_argument_at, Rule}
use Rattle.paper_table.specs.Promises.{FieldBreaks, promised, own, if_any}

abbrev pub is_extra : Member → Argument → Bool
is_extra f y = is_non_null y.type && not (any_of (argument_named y.name) f.arguments)

abbrev pub extra_breaks : Definition → FieldBreaks
extra_breaks d m p f = if_any (own d f) (λ e. each (λ a y. only_if (is_extra f y) (part_argument_at m p a)) e.arguments)

unfoldable pub argument_extra : Rule
argument_extra t i d = promised (extra_breaks d) t d
