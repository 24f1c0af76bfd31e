-- 13. Interface argument missing.
use Rattle.std.specs.Prelude.{Bool, not}
use Rattle.paper_table.specs.Lists.{any_of, each, only_if}
use Rattle.paper_table.specs.Types.{Argument, Member, Definition, argument_named}
use Rattle.paper_table.specs.Places.{part_argument_at, Rule}
use Rattle.paper_table.specs.Promises.{FieldBreaks, promised, own, if_any}

abbrev pub lacks_argument : Member → Argument → Bool
lacks_argument e x = not (any_of (argument_named x.name) e.arguments)

abbrev pub argument_breaks : Definition → FieldBreaks
argument_breaks d m p f = if_any (own d f) (λ e. each (λ a x. only_if (lacks_argument e x) (part_argument_at m p a)) f.arguments)

unfoldable pub interface_argument_missing : Rule
interface_argument_missing t i d = promised (argument_breaks d) t d
