-- Rule 9.
use mathlib.Core.Path.{sym, ap, ◌∙◌}
use mathlib.Core.List.{List, head?}
use Rattle.paper_table.specs.Types.{table_of}
use Rattle.paper_table.specs.Places.{Place}
use Rattle.table_places.specs.Placed.{placed}
use Rattle.table_types.specs.Booked.{definition_on}
use Rattle.table_rules_1_10_16.proofs.RuleLaws.{rule_9_union, rule_9}
use Rattle.table_rules_1_10_16.proofs.not_object_or_interface.Goals as goal

pub returns-then-tag_of-eq-RECORD_UNION : goal.returns-then-tag_of-eq-RECORD_UNION
returns-then-tag_of-eq-RECORD_UNION c = c.members_of.ensures ∙ sym (ap (λ (ps : List Place). placed (head? ps)) (rule_9_union (table_of c.args.t.now) c.args.i (definition_on c.args.t.now c.args.i) (sym c.tag_of.ensures ∙ c.if-tag_of-eq-RECORD_UNION.true)))

pub returns : goal.returns
returns c = c.implemented_of.ensures ∙ sym (ap (λ (ps : List Place). placed (head? ps)) (rule_9 (table_of c.args.t.now) c.args.i (definition_on c.args.t.now c.args.i) (λ e. c.if-tag_of-eq-RECORD_UNION.false (c.tag_of.ensures ∙ e))))
