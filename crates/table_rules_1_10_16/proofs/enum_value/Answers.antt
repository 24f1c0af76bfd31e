-- Rule 6.
use mathlib.Core.Path.{sym, ap, ◌∙◌}
use mathlib.Core.List.{List, head?}
use Rattle.paper_table.specs.Types.{table_of}
use Rattle.paper_table.specs.Places.{Place}
use Rattle.table_places.specs.Placed.{placed}
use Rattle.table_types.specs.Booked.{definition_on}
use Rattle.table_rules_1_10_16.proofs.RuleLaws.{rule_6, rule_6_other}
use Rattle.table_rules_1_10_16.proofs.enum_value.Goals as goal

pub returns-then-tag_of-eq-RECORD_ENUM : goal.returns-then-tag_of-eq-RECORD_ENUM
returns-then-tag_of-eq-RECORD_ENUM c = c.members_of.ensures ∙ sym (ap (λ (ps : List Place). placed (head? ps)) (rule_6 (table_of c.args.t.now) c.args.i (definition_on c.args.t.now c.args.i) (sym c.tag_of.ensures ∙ c.if-tag_of-eq-RECORD_ENUM.true)))

pub returns : goal.returns
returns c = sym (ap (λ (ps : List Place). placed (head? ps)) (rule_6_other (table_of c.args.t.now) c.args.i (definition_on c.args.t.now c.args.i) (λ e. c.if-tag_of-eq-RECORD_ENUM.false (c.tag_of.ensures ∙ e))))
