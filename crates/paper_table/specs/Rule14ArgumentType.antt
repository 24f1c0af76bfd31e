-- 14. Argument type differs.
use Rattle.std.specs.Prelude.{Bool, not}
use Rattle.std.proofs.Math.Option.{Option}
use Rattle.paper_table.specs.Lists.{find, each, only_if}
use Rattle.paper_table.specs.References.{same_ref}
use Rattle.paper_table.specs.Types.{Argument, Member, Definition, argument_named}
use Rattle.paper_table.specs.Places.{part_argument_at, Rule}
use Rattle.paper_table.specs.Promises.{FieldBreaks, promised, own, if_any}

abbrev pub types_differ : Argument → Argument → Bool
types_differ x y = not (same_ref y.type x.type)

abbrev pub own_argument : Member → Argument → Option Argument
own_argument e x = find (argument_named x.name) e.arguments

abbrev pub argument_type_breaks : Definition → FieldBreaks
argument_type_breaks d m p f =
    if_any (own d f) (λ e. each (λ a x. if_any (own_argument e x) (λ y. only_if (types_differ x y) (part_argument_at m p a))) f.arguments)

unfoldable pub argument_type : Rule
argument_type t i d = promised (argument_type_breaks d) t d
