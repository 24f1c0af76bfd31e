use mathlib.Core.Path.{refl, sym, ◌∙◌}
use native.Mathlib.Omega.{arith}
use lib.ListN.{length-replicate}
use Rattle.query_rows.proofs.Rooms.{room_rows, room_most}
use Rattle.query_links.specs.Links.{firsts_size, kinds_size}
use Rattle.query_judge.proofs.judge_in.Goals as goal

pub families-requires : goal.families-requires
families-requires g c = let e = length-replicate g.row.ROOM 0 ∙ c.requires.5 in
    (c.requires.4, refl {a = firsts_size}, e)

pub kinds-requires : goal.kinds-requires
kinds-requires g c = let e = length-replicate g.row.ROOM 0 ∙ c.requires.5 in
    (record { size = c.requires.4.size; few = c.requires.4.few }, refl {a = kinds_size}, e)

pub slice_bounds-judge_linked-end : goal.slice_bounds-judge_linked-end
slice_bounds-judge_linked-end g c = sym c.families.ensures.firsts

pub slice_bounds-judge_linked-end-2 : goal.slice_bounds-judge_linked-end-2
slice_bounds-judge_linked-end-2 g c = sym (c.families.ensures.nexts ∙ room_rows _ _ ∙ sym c.requires.5)

pub slice_bounds-judge_linked-end-3 : goal.slice_bounds-judge_linked-end-3
slice_bounds-judge_linked-end-3 g c = sym c.kinds.ensures.firsts

pub slice_bounds-judge_linked-end-4 : goal.slice_bounds-judge_linked-end-4
slice_bounds-judge_linked-end-4 g c = sym (c.kinds.ensures.nexts ∙ room_rows _ _ ∙ sym c.requires.5)

pub whole_as_slice-families : goal.whole_as_slice-families
whole_as_slice-families g c = omega (arith, c.requires.5, room_most c.args.n)

pub whole_as_slice-kinds : goal.whole_as_slice-kinds
whole_as_slice-kinds g c = omega (arith, c.requires.5, room_most c.args.n)

pub shared_whole_as_slice-judge_linked : goal.shared_whole_as_slice-judge_linked
shared_whole_as_slice-judge_linked g c = omega (arith, c.requires.5, room_most c.args.n)

pub shared_whole_as_slice-judge_linked-2 : goal.shared_whole_as_slice-judge_linked-2
shared_whole_as_slice-judge_linked-2 g c = omega (arith, c.requires.5, room_most c.args.n)

pub whole_as_slice-judge_linked : goal.whole_as_slice-judge_linked
whole_as_slice-judge_linked g c = omega (arith, c.requires.5, room_most c.args.n)

pub whole_as_slice-judge_linked-2 : goal.whole_as_slice-judge_linked-2
whole_as_slice-judge_linked-2 g c = omega (arith, c.requires.5, room_most c.args.n)

pub whole_as_slice-judge_linked-3 : goal.whole_as_slice-judge_linked-3
whole_as_slice-judge_linked-3 g c = omega (arith, c.requires.5, room_most c.args.n)

pub whole_as_slice-judge_linked-4 : goal.whole_as_slice-judge_linked-4
whole_as_slice-judge_linked-4 g c = omega (arith, c.requires.5, room_most c.args.n)

pub judge_linked-requires : goal.judge_linked-requires
judge_linked-requires g c = let p = c.requires in
    let e = length-replicate g.row.ROOM 0 ∙ p.5 in
    (p.0, p.1, record { booked = p.2; rowed = p.4; family = c.families.ensures }, p.3, c.kinds.ensures, e, e, e, e)

pub returns : goal.returns
returns g c = c.judge_linked.ensures
