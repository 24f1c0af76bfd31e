-- Rule 7.
use mathlib.Core.Path.{sym, ap, ◌∙◌}
use mathlib.Core.List.{List, head?}
use Rattle.paper_table.specs.Types.{table_of}
use Rattle.paper_table.specs.Places.{Place}
use Rattle.table_places.specs.Placed.{placed}
use Rattle.table_types.specs.Booked.{definition_on}
use Rattle.table_rules_1_10_16.proofs.RuleLaws.{rule_7}
use Rattle.table_rules_1_10_16.proofs.no_type.Goals as goal

pub returns : goal.returns
returns c = c.members_of.ensures ∙ sym (ap (λ (ps : List Place). placed (head? ps)) (rule_7 (table_of c.args.t.now) c.args.i (definition_on c.args.t.now c.args.i)))
