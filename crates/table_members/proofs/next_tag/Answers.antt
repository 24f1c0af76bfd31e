-- Field by field: the first of the tag from here on is the first of all.
use Rattle.table_fields.proofs.BoundsLaws.{later}
use mathlib.Core.Path.{sym, ◌∙◌}
use native.Mathlib.Omega.{arith}
use Rattle.table_members.proofs.MemberLaws.{walked_start}
use Rattle.table_members.proofs.TagLaws.{tags_none, tags_torn, tags_here, tags_on, tags_move}
use Rattle.table_members.proofs.next_tag.Goals as goal

pub loop-i-init : goal.loop-i-init
loop-i-init c = walked_start _ _ _ c.requires.order

pub read_field-requires : goal.read_field-requires
read_field-requires c = later c.requires c.loop-i.invariant.within

pub returns-in_err-f : goal.returns-in_err-f
returns-in_err-f c = let a = c.args in
    rw c.from_residual.ensures (tags_torn a.t.now a.at a.end a.tag c.loop-i.i c.requires.within c.loop-i.invariant c.loop-i-test.true (sym c.read_field.ensures ∙ c.in_err-f.was))

pub returns-then-f-tag : goal.returns-then-f-tag
returns-then-f-tag c = let a = c.args in
    tags_here a.t.now a.at a.end a.tag c.loop-i.i c.requires.within c.loop-i.invariant c.loop-i-test.true _ (sym c.read_field.ensures ∙ c.in_ok-f.was) c.if-f-tag.true

pub loop-i-smaller : goal.loop-i-smaller
loop-i-smaller c = let a = c.args in
    omega (arith, c.loop-i-test.true, tags_move a.t.now a.at a.end a.tag c.loop-i.i c.requires.within c.loop-i.invariant c.loop-i-test.true _ (sym c.read_field.ensures ∙ c.in_ok-f.was))

pub loop-i-preserved : goal.loop-i-preserved
loop-i-preserved c = let a = c.args in
    tags_on a.t.now a.at a.end a.tag c.loop-i.i c.requires.within c.loop-i.invariant c.loop-i-test.true _ (sym c.read_field.ensures ∙ c.in_ok-f.was) c.if-f-tag.false

pub returns : goal.returns
returns c = let a = c.args in
    tags_none a.t.now a.at a.end a.tag c.loop-i.i c.requires.within c.loop-i.invariant c.loop-i-test.false
