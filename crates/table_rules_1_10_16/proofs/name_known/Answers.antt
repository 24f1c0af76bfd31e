-- Rule 2, by the tag.
use mathlib.Core.Path.{sym, ap, ◌∙◌}
use mathlib.Core.List.{List, head?}
use Rattle.paper_table.specs.Types.{table_of}
use Rattle.paper_table.specs.Places.{Place, whole_of}
use Rattle.table_places.specs.Placed.{placed}
use Rattle.table_types.specs.Booked.{definition_on}
use mathlib.Core.Bool.{Bool}
use native.Mathlib.Omega.{arith}
use Rattle.paper_table.specs.Lists.{only_if}
use Rattle.table_rules_1_10_16.proofs.RuleLaws.{rule_2_type, rule_2_directive, rule_2_other}
use Rattle.table_rules_1_10_16.proofs.name_known.Goals as goal

pub returns-then-tag-le-RECORD_INPUT_OBJECT : goal.returns-then-tag-le-RECORD_INPUT_OBJECT
returns-then-tag-le-RECORD_INPUT_OBJECT c = c.whole.ensures ∙ ap (λ (b : Bool). placed (head? (only_if b whole_of))) c.is_type_before.ensures ∙ sym (ap (λ (ps : List Place). placed (head? ps)) (rule_2_type (table_of c.args.t.now) c.args.i (definition_on c.args.t.now c.args.i) (let e = c.tag_of-tag.ensures in let h = c.if-tag-le-RECORD_INPUT_OBJECT.true in omega (arith, e, h))))

pub returns-then-tag-eq-RECORD_DIRECTIVE : goal.returns-then-tag-eq-RECORD_DIRECTIVE
returns-then-tag-eq-RECORD_DIRECTIVE c = c.whole-then-tag-eq-RECORD_DIRECTIVE.ensures ∙ ap (λ (b : Bool). placed (head? (only_if b whole_of))) c.is_directive_before.ensures ∙ sym (ap (λ (ps : List Place). placed (head? ps)) (rule_2_directive (table_of c.args.t.now) c.args.i (definition_on c.args.t.now c.args.i) (let e = c.tag_of-tag.ensures in let h = c.if-tag-le-RECORD_INPUT_OBJECT.false in omega (arith, e, h)) (sym c.tag_of-tag.ensures ∙ c.if-tag-eq-RECORD_DIRECTIVE.true)))

pub returns : goal.returns
returns c = sym (ap (λ (ps : List Place). placed (head? ps)) (rule_2_other (table_of c.args.t.now) c.args.i (definition_on c.args.t.now c.args.i) (let e = c.tag_of-tag.ensures in let h = c.if-tag-le-RECORD_INPUT_OBJECT.false in omega (arith, e, h)) (λ e. c.if-tag-eq-RECORD_DIRECTIVE.false (c.tag_of-tag.ensures ∙ e))))
