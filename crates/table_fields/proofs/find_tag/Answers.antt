-- Field by field: the first of the tag is found from each place on, or it is here.
use Rattle.table_fields.proofs.BoundsLaws.{later}
use mathlib.Core.Path.{sym, ◌∙◌}
use native.Mathlib.Omega.{arith}
use Rattle.table_fields.proofs.FieldLaws.{field_lies}
use Rattle.table_fields.proofs.FindLaws.{seeks_start, seeks_end, seeks_torn, seeks_here, seeks_on}
use Rattle.table_fields.proofs.find_tag.Goals as goal

pub loop-i-init : goal.loop-i-init
loop-i-init c = seeks_start c.args.t.now c.args.at c.args.end c.args.tag c.requires.order

pub read_field-requires : goal.read_field-requires
read_field-requires c = later c.requires c.loop-i.invariant.order

pub returns-in_default : goal.returns-in_default
returns-in_default c = seeks_torn c.args.t.now c.args.at c.args.end c.args.tag c.loop-i.i c.requires.within c.loop-i.invariant c.loop-i-test.true (sym c.read_field.ensures ∙ c.in_default.is)

pub returns-then-f-tag : goal.returns-then-f-tag
returns-then-f-tag c =
    seeks_here c.args.t.now c.args.at c.args.end c.args.tag c.loop-i.i c.requires.within c.loop-i.invariant c.loop-i-test.true _ (sym c.read_field.ensures ∙ c.in-Some.is) c.if-f-tag.true

pub loop-i-smaller : goal.loop-i-smaller
loop-i-smaller c =
    let l = field_lies c.args.t.now c.loop-i.i c.args.end _ c.loop-i.invariant.order (sym c.read_field.ensures ∙ c.in-Some.is) in omega (arith, l.begins, l.order, l.within, c.loop-i-test.true)

pub loop-i-preserved : goal.loop-i-preserved
loop-i-preserved c =
    seeks_on c.args.t.now c.args.at c.args.end c.args.tag c.loop-i.i c.requires.within c.loop-i.invariant c.loop-i-test.true _ (sym c.read_field.ensures ∙ c.in-Some.is) c.if-f-tag.false

pub returns : goal.returns
returns c = seeks_end c.args.t.now c.args.at c.args.end c.args.tag c.loop-i.i c.requires.within c.loop-i.invariant c.loop-i-test.false
