use mathlib.Core.Path.{sym, ap, ◌∙◌}
use mathlib.Core.List.{List, head?}
use Rattle.paper_table.specs.Types.{table_of}
use Rattle.paper_table.specs.Places.{Place}
use Rattle.table_places.specs.Placed.{placed}
use Rattle.table_types.specs.Booked.{definition_on}
use Rattle.table_rules_11_15.proofs.AskedLaws.{asks_extra}
use Rattle.table_rules_11_15.proofs.argument_extra.Goals as goal

pub returns : goal.returns
returns c = let a = c.args in
    c.broken.ensures ∙ ap (λ (qs : List Place). placed (head? qs)) (sym (asks_extra (table_of a.t.now) a.i (definition_on a.t.now a.i)))
