-- Rule 3, by the tag.
use mathlib.Core.Path.{sym, ap, ◌∙◌}
use mathlib.Core.List.{List, head?}
use Rattle.paper_table.specs.Types.{table_of}
use Rattle.paper_table.specs.Places.{Place, whole_of}
use Rattle.table_places.specs.Placed.{placed}
use Rattle.table_types.specs.Booked.{definition_on}
use mathlib.Core.Bool.{Bool}
use native.Mathlib.Omega.{arith}
use Rattle.paper_table.specs.Lists.{only_if}
use Rattle.table_rules_1_10_16.proofs.RuleLaws.{rule_3_low, rule_3_high, rule_3_type}
use Rattle.table_rules_1_10_16.proofs.no_members.Goals as goal

pub returns-then-tag-lt-RECORD_OBJECT : goal.returns-then-tag-lt-RECORD_OBJECT
returns-then-tag-lt-RECORD_OBJECT c = sym (ap (λ (ps : List Place). placed (head? ps)) (rule_3_low (table_of c.args.t.now) c.args.i (definition_on c.args.t.now c.args.i) (let e = c.tag_of-tag.ensures in let h = c.if-tag-lt-RECORD_OBJECT.true in omega (arith, e, h))))

pub returns-then-tag-gt-RECORD_INPUT_OBJECT : goal.returns-then-tag-gt-RECORD_INPUT_OBJECT
returns-then-tag-gt-RECORD_INPUT_OBJECT c = sym (ap (λ (ps : List Place). placed (head? ps)) (rule_3_high (table_of c.args.t.now) c.args.i (definition_on c.args.t.now c.args.i) (let e = c.tag_of-tag.ensures in let h = c.if-tag-lt-RECORD_OBJECT.false in omega (arith, e, h)) (let e = c.tag_of-tag.ensures in let h = c.if-tag-gt-RECORD_INPUT_OBJECT.true in omega (arith, e, h))))

pub returns : goal.returns
returns c = c.whole.ensures ∙ ap (λ (b : Bool). placed (head? (only_if b whole_of))) c.is_empty.ensures ∙ sym (ap (λ (ps : List Place). placed (head? ps)) (rule_3_type (table_of c.args.t.now) c.args.i (definition_on c.args.t.now c.args.i) (let e = c.tag_of-tag.ensures in let h = c.if-tag-lt-RECORD_OBJECT.false in omega (arith, e, h)) (let e = c.tag_of-tag.ensures in let h = c.if-tag-gt-RECORD_INPUT_OBJECT.false in omega (arith, e, h))))
