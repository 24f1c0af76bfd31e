-- Field by field: the members from here on are all.
use Rattle.table_fields.proofs.BoundsLaws.{later}
use mathlib.Core.Path.{sym, ◌∙◌}
use native.Mathlib.Omega.{arith}
use Rattle.table_members.proofs.MemberLaws.{walked_start, members_none, members_torn, members_here, members_on, field_moves}
use Rattle.table_members.proofs.next_member.Goals as goal

pub loop-i-init : goal.loop-i-init
loop-i-init c = walked_start _ _ _ c.requires.order

pub read_field-requires : goal.read_field-requires
read_field-requires c = later c.requires c.loop-i.invariant.within

pub returns-in_err-f : goal.returns-in_err-f
returns-in_err-f c = let a = c.args in
    rw c.from_residual.ensures (members_torn a.t.now a.at a.end c.loop-i.i c.requires.within c.loop-i.invariant c.loop-i-test.true (sym c.read_field.ensures ∙ c.in_err-f.was))

pub returns-then-is_member : goal.returns-then-is_member
returns-then-is_member c = let a = c.args in
    members_here a.t.now a.at a.end c.loop-i.i c.requires.within c.loop-i.invariant c.loop-i-test.true _ (sym c.read_field.ensures ∙ c.in_ok-f.was) (sym c.is_member.ensures ∙ c.if-is_member.true)

pub loop-i-smaller : goal.loop-i-smaller
loop-i-smaller c = let a = c.args in
    omega (arith, c.loop-i-test.true, field_moves a.t.now a.at a.end c.loop-i.i c.requires.within c.loop-i.invariant c.loop-i-test.true _ (sym c.read_field.ensures ∙ c.in_ok-f.was))

pub loop-i-preserved : goal.loop-i-preserved
loop-i-preserved c = let a = c.args in
    members_on a.t.now a.at a.end c.loop-i.i c.requires.within c.loop-i.invariant c.loop-i-test.true _ (sym c.read_field.ensures ∙ c.in_ok-f.was) (sym c.is_member.ensures ∙ c.if-is_member.false)

pub returns : goal.returns
returns c = let a = c.args in
    members_none a.t.now a.at a.end c.loop-i.i c.requires.within c.loop-i.invariant c.loop-i-test.false
