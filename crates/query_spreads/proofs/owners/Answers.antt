-- From the first row to the last: parents stand before their children.
use mathlib.Core.Path.{refl, sym, ◌∙◌}
use native.Mathlib.Omega.{arith}
use Rattle.query_rows.proofs.RowsIn.{rows_count}
use Rattle.query_rows.proofs.Rooms.{room_rows, room_at}
use Rattle.query_spreads.proofs.OwnerLaws.{owned_none, owned_more, owned_all}
use Rattle.query_spreads.proofs.owners.Goals as goal

pub loop-i-init : goal.loop-i-init
loop-i-init c = owned_none _ _ (c.requires.1 ∙ sym (room_rows _ _))

pub owner_of-o-requires : goal.owner_of-o-requires
owner_of-o-requires c = (c.requires.0, c.loop-i.invariant, c.loop-i-test.true)

pub bounds-owner-i : goal.bounds-owner-i
bounds-owner-i c = room_at _ _ _ c.loop-i.invariant.size c.requires.0.few c.loop-i-test.true

pub loop-i-preserved : goal.loop-i-preserved
loop-i-preserved c = owned_more _ _ _ _ (room_at _ _ _ refl c.requires.0.few c.loop-i-test.true) c.loop-i.invariant c.owner_of-o.ensures

pub shape_of-owner : goal.shape_of-owner
shape_of-owner c = c.loop-i.invariant.size ∙ room_rows _ _ ∙ sym c.requires.1

pub returns : goal.returns
returns c = owned_all _ _ _ (omega (arith, rows_count c.args.rows.now c.args.n, c.loop-i-test.false)) c.loop-i.invariant
