-- What rules 11 to 15 ask of an interface's field and the definition's own, by the rule's number.
-- Assumes nothing.
use Rattle.std.specs.Prelude.{cond, List, [], ℕ, eqb}
use Rattle.paper_table.specs.TableNumbers.{rule_field_missing, rule_field_type, rule_argument_extra}
use Rattle.paper_table.specs.Lists.{only_if}
use Rattle.paper_table.specs.Types.{Member, Table}
use Rattle.paper_table.specs.Places.{Place, part_at}
use Rattle.paper_table.specs.Rule12FieldType.{no_sub_type}
use Rattle.table_rules_13_15.specs.Asked.{arguments_asked}

-- what a rule asks of the interface's field f and the definition's own, e
unfoldable pub rule_asked : ℕ → Table → ℕ → ℕ → Member → Member → List Place
rule_asked rule t m p f e =
    cond (eqb rule rule_field_missing) []
    (cond (eqb rule rule_field_type) (only_if (no_sub_type t f e) (part_at m p))
    (cond (eqb rule rule_argument_extra) (arguments_asked rule m p e.arguments f.arguments) (arguments_asked rule m p f.arguments e.arguments)))
