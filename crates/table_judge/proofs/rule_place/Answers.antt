-- The lower or the higher numbers.
use mathlib.Core.Path.{sym, ap, ◌∙◌}
use mathlib.Core.List.{head?}
use Rattle.paper_table.specs.Types.{table_of}
use Rattle.paper_table.specs.Places.{Rule}
use Rattle.table_places.specs.Placed.{placed}
use Rattle.table_types.specs.Booked.{definition_on}
use Rattle.table_judge.proofs.NumberLaws.{rule_early, rule_late}
use Rattle.table_judge.proofs.rule_place.Goals as goal

pub early_place-requires : goal.early_place-requires
early_place-requires c = (c.requires.0, c.requires.2)

pub returns-then-rule-le-RULE_BASE : goal.returns-then-rule-le-RULE_BASE
returns-then-rule-le-RULE_BASE c = c.early_place.ensures ∙ sym (ap (λ (q : Rule). placed (head? (q (table_of c.args.t.now) c.args.i (definition_on c.args.t.now c.args.i)))) (rule_early c.args.rule c.if-rule-le-RULE_BASE.true))

pub late_place-requires : goal.late_place-requires
late_place-requires c = c.requires

pub returns : goal.returns
returns c = c.late_place.ensures ∙ sym (ap (λ (q : Rule). placed (head? (q (table_of c.args.t.now) c.args.i (definition_on c.args.t.now c.args.i)))) (rule_late c.args.rule c.if-rule-le-RULE_BASE.false))
