-- Rule 4.
use mathlib.Core.Path.{sym, ap, ◌∙◌}
use mathlib.Core.List.{List, head?}
use Rattle.paper_table.specs.Types.{table_of}
use Rattle.paper_table.specs.Places.{Place}
use Rattle.table_places.specs.Placed.{placed}
use Rattle.table_types.specs.Booked.{definition_on}
use Rattle.table_rules_1_10_16.proofs.RuleLaws.{rule_4, rule_4_roots}
use Rattle.table_rules_1_10_16.proofs.name_repeated.Goals as goal

pub returns-then-tag_of-eq-RECORD_ROOTS : goal.returns-then-tag_of-eq-RECORD_ROOTS
returns-then-tag_of-eq-RECORD_ROOTS c = sym (ap (λ (ps : List Place). placed (head? ps)) (rule_4_roots (table_of c.args.t.now) c.args.i (definition_on c.args.t.now c.args.i) (sym c.tag_of.ensures ∙ c.if-tag_of-eq-RECORD_ROOTS.true)))

pub returns : goal.returns
returns c = c.members_of.ensures ∙ sym (ap (λ (ps : List Place). placed (head? ps)) (rule_4 (table_of c.args.t.now) c.args.i (definition_on c.args.t.now c.args.i) (λ e. c.if-tag_of-eq-RECORD_ROOTS.false (c.tag_of.ensures ∙ e))))
