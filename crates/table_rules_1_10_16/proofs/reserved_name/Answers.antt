-- Rule 1.
use mathlib.Core.Path.{sym, ap, ◌∙◌}
use mathlib.Core.List.{List, head?}
use Rattle.paper_table.specs.Types.{table_of, is_reserved}
use Rattle.paper_table.specs.Places.{Place, whole_of}
use Rattle.table_places.specs.Placed.{placed}
use Rattle.table_types.specs.Booked.{definition_on}
use mathlib.Core.Bool.{Bool}
use Rattle.paper_table.specs.Lists.{only_if}
use Rattle.table_rules_1_10_16.proofs.RuleLaws.{rule_1}
use Rattle.table_rules_1_10_16.proofs.reserved_name.Goals as goal

pub returns : goal.returns
returns c = c.whole.ensures ∙ ap (λ (b : Bool). placed (head? (only_if b whole_of))) (c.is_reserved.ensures ∙ ap is_reserved c.name_of-n.ensures.is) ∙ sym (ap (λ (ps : List Place). placed (head? ps)) (rule_1 (table_of c.args.t.now) c.args.i (definition_on c.args.t.now c.args.i)))
