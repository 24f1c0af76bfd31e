-- From the last row to the first, each in front of those of its kind.
use mathlib.Core.Path.{sym, ◌∙◌}
use native.Mathlib.Omega.{arith}
use Rattle.query_rows.proofs.Rooms.{room_rows}
use Rattle.query_links.specs.Links.{kinds_size}
use Rattle.query_links.proofs.Linking.{sorts, linking_start, linking_room, linking_most, linking_more, linking_skip, kinds_end}
use Rattle.query_links.proofs.kinds.Goals as goal

pub clear-requires : goal.clear-requires
clear-requires c = c.requires.0.few

pub loop-j-init : goal.loop-j-init
loop-j-init c = linking_start sorts kinds_size _ _ _ _ _ c.requires.0.few c.requires.1 c.requires.2 c.clear.ensures

pub kind_of-k-requires : goal.kind_of-k-requires
kind_of-k-requires c = c.requires.0

pub put_first-requires : goal.put_first-requires
put_first-requires c = let l = c.loop-j in
    (c.if-k-first.true, linking_room sorts kinds_size c.args.rows.now c.args.n l.first l.next l.invariant c.loop-j-test.true, linking_most sorts kinds_size c.args.rows.now c.args.n l.first l.next l.invariant c.loop-j-test.true)

pub loop-j-preserved-then-k-first : goal.loop-j-preserved-then-k-first
loop-j-preserved-then-k-first c = let l = c.loop-j in
    linking_more sorts kinds_size _ _ _ _ l.invariant c.loop-j-test.true _ _ c.kind_of-k.ensures
    (omega (arith, c.if-k-first.true, l.invariant.firsts)) c.put_first.ensures.0 c.put_first.ensures.1

pub loop-j-preserved : goal.loop-j-preserved
loop-j-preserved c = let l = c.loop-j in
    linking_skip sorts kinds_size _ _ _ _ l.invariant c.loop-j-test.true c.kind_of-k.ensures (omega (arith, c.if-k-first.false, l.invariant.firsts))

pub shape_of-first : goal.shape_of-first
shape_of-first c = c.loop-j.invariant.firsts ∙ sym c.requires.1

pub shape_of-next : goal.shape_of-next
shape_of-next c = c.loop-j.invariant.nexts ∙ room_rows _ _ ∙ sym c.requires.2

pub returns : goal.returns
returns c = kinds_end _ _ _ _ _ c.loop-j.invariant c.loop-j-test.false
