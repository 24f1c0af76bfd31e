-- Rule 5.
use mathlib.Core.Path.{sym, ap, ◌∙◌}
use mathlib.Core.List.{List, head?}
use Rattle.paper_table.specs.Types.{table_of}
use Rattle.paper_table.specs.Places.{Place}
use Rattle.table_places.specs.Placed.{placed}
use Rattle.table_types.specs.Booked.{definition_on}
use Rattle.table_rules_1_10_16.proofs.RuleLaws.{rule_5_object, rule_5_interface, rule_5_other}
use Rattle.table_rules_1_10_16.proofs.reserved_member.Goals as goal

pub returns-then-tag-eq-RECORD_OBJECT : goal.returns-then-tag-eq-RECORD_OBJECT
returns-then-tag-eq-RECORD_OBJECT c = c.members_of.ensures ∙ sym (ap (λ (ps : List Place). placed (head? ps)) (rule_5_object (table_of c.args.t.now) c.args.i (definition_on c.args.t.now c.args.i) (sym c.tag_of-tag.ensures ∙ c.if-tag-eq-RECORD_OBJECT.true)))

pub returns-then-tag-eq-RECORD_INTERFACE : goal.returns-then-tag-eq-RECORD_INTERFACE
returns-then-tag-eq-RECORD_INTERFACE c = c.members_of-then-tag-eq-RECORD_INTERFACE.ensures ∙ sym (ap (λ (ps : List Place). placed (head? ps)) (rule_5_interface (table_of c.args.t.now) c.args.i (definition_on c.args.t.now c.args.i) (λ e. c.if-tag-eq-RECORD_OBJECT.false (c.tag_of-tag.ensures ∙ e)) (sym c.tag_of-tag.ensures ∙ c.if-tag-eq-RECORD_INTERFACE.true)))

pub returns : goal.returns
returns c = sym (ap (λ (ps : List Place). placed (head? ps)) (rule_5_other (table_of c.args.t.now) c.args.i (definition_on c.args.t.now c.args.i) (λ e. c.if-tag-eq-RECORD_OBJECT.false (c.tag_of-tag.ensures ∙ e)) (λ e. c.if-tag-eq-RECORD_INTERFACE.false (c.tag_of-tag.ensures ∙ e))))
