-- `list_pairs` meets its contract: the bytes of the object's record stand for its type in the walk.
use mathlib.Core.Path.{refl}
use native.Mathlib.Omega.{arith}
use Rattle.plan_walk_blocks.proofs.BlocksLaws.{well_walkable}
use Rattle.plan_walk_asked.proofs.AskedLaws.{object_below}
use Rattle.plan_walk_told.proofs.ListedLaws.{pairs_listed}
use Rattle.plan_walk_told.proofs.list_pairs.Goals as goal

pub fill_fits-requires : goal.fill_fits-requires
fill_fits-requires c = let p = c.requires in
    (p.0, object_below _ _ p.0 _ p.1.object_record, refl)

pub answer-requires : goal.answer-requires
answer-requires c = let p = c.requires in
    let f = c.fill_fits.ensures in
    (well_walkable _ _ _ p.0 p.1.well_formed, p.1.known, p.1.all_variables, omega (arith, f.size), p.2)

pub returns : goal.returns
returns c = let a = c.args in
    let p = c.requires in
    pairs_listed a.t.now a.book.now a.plan.now a.object a.blocks.now a.variables.now _ _ _ p.0 p.1 c.fill_fits.ensures c.answer.ensures
