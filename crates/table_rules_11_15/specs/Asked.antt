-- What rules 11 to 15 ask of an interface's field, by the rule's number.
-- Assumes nothing.
use Rattle.std.proofs.Math.Option.{Option, none, some}
use Rattle.std.specs.Prelude.{List, ℕ, eqb}
use Rattle.paper_table.specs.TableNumbers.{rule_field_missing}
use Rattle.paper_table.specs.Lists.{find, only_if}
use Rattle.paper_table.specs.Types.{Member, Table, member_named}
use Rattle.paper_table.specs.Places.{Place, part_at}
use Rattle.paper_table.specs.Promises.{FieldBreaks}
use Rattle.table_rules_11_15_field.specs.Asked.{rule_asked}

-- what is asked of the interface's field f, given the definition's own
unfoldable pub own_asked : ℕ → Table → ℕ → ℕ → Member → Option Member → List Place
own_asked rule t m p f none = only_if (eqb rule rule_field_missing) (part_at m p)
own_asked rule t m p f (some e) = rule_asked rule t m p f e

-- the same, given the definition's members
abbrev pub asked_of : ℕ → Table → List Member → FieldBreaks
asked_of rule t es m p f = own_asked rule t m p f (find (member_named f.name) es)
