-- What rules 13 to 15 ask of the arguments of one field and another's, by the rule's number.
-- Assumes nothing.
use Rattle.std.specs.Prelude.{Bool, ◌&&◌, ◌||◌, List, ℕ, eqb}
use Rattle.std.proofs.Math.Option.{Option, none, some}
use Rattle.paper_table.specs.TableNumbers.{rule_argument_missing, rule_argument_type, rule_argument_extra}
use Rattle.paper_table.specs.Lists.{find, each, only_if}
use Rattle.paper_table.specs.References.{is_non_null}
use Rattle.paper_table.specs.Types.{Argument, argument_named}
use Rattle.paper_table.specs.Places.{Place, part_argument_at}
use Rattle.paper_table.specs.Rule14ArgumentType.{types_differ}

-- an argument breaks the rule, given the other field's argument of its name
abbrev pub failing : ℕ → Argument → Option Argument → Bool
failing rule x none = eqb rule rule_argument_missing || eqb rule rule_argument_extra && is_non_null x.type
failing rule x (some y) = eqb rule rule_argument_type && types_differ x y

-- the first's arguments that break it, given the other's
abbrev pub arguments_asked : ℕ → ℕ → ℕ → List Argument → List Argument → List Place
arguments_asked rule m p xs ys = each (λ a x. only_if (failing rule x (find (argument_named x.name) ys)) (part_argument_at m p a)) xs
