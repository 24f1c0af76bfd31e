-- From the last row to the first, each in front of its parent's.
use mathlib.Core.Path.{sym, ◌∙◌}
use Prim.Native.Nat.{◌-◌}
use native.Mathlib.Omega.{arith}
use Rattle.query_rows.proofs.RowsIn.{rowed_sized}
use Rattle.query_rows.proofs.Rooms.{room_rows}
use Rattle.query_links.specs.Links.{firsts_size}
use Rattle.query_links.proofs.Linking.{parents, linking_start, linking_row, linking_room, linking_most, linking_more, parent_place, families_end}
use Rattle.query_links.proofs.families.Goals as goal

pub clear-requires : goal.clear-requires
clear-requires c = c.requires.0.few

pub loop-j-init : goal.loop-j-init
loop-j-init c = linking_start parents firsts_size _ _ _ _ _ c.requires.0.few c.requires.1 c.requires.2 c.clear.ensures

pub parent_of-p-requires : goal.parent_of-p-requires
parent_of-p-requires c = rowed_sized c.requires.0

pub put_first-requires : goal.put_first-requires
put_first-requires c = let l = c.loop-j in
    let r = linking_row parents firsts_size c.args.rows.now c.args.n l.first l.next l.invariant c.loop-j-test.true in
    (omega (arith, c.parent_of-p.ensures, l.invariant.firsts, parent_place _ _ _ c.requires.0 (l.j - 1) r), linking_room parents firsts_size c.args.rows.now c.args.n l.first l.next l.invariant c.loop-j-test.true, linking_most parents firsts_size c.args.rows.now c.args.n l.first l.next l.invariant c.loop-j-test.true)

pub loop-j-preserved : goal.loop-j-preserved
loop-j-preserved c = let l = c.loop-j in
    let r = linking_row parents firsts_size c.args.rows.now c.args.n l.first l.next l.invariant c.loop-j-test.true in
    linking_more parents firsts_size _ _ _ _ l.invariant c.loop-j-test.true _ _ c.parent_of-p.ensures
    (omega (arith, c.parent_of-p.ensures, parent_place _ _ _ c.requires.0 (l.j - 1) r)) c.put_first.ensures.0 c.put_first.ensures.1

pub shape_of-first : goal.shape_of-first
shape_of-first c = c.loop-j.invariant.firsts ∙ sym c.requires.1

pub shape_of-next : goal.shape_of-next
shape_of-next c = c.loop-j.invariant.nexts ∙ room_rows _ _ ∙ sym c.requires.2

pub returns : goal.returns
returns c = families_end _ _ _ _ _ _ c.requires.0 c.loop-j.invariant c.loop-j-test.false
