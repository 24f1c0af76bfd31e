-- By the row's kind.
use mathlib.Core.Path.{◌≡◌, sym, ap, ◌∙◌}
use mathlib.Core.Bool.{Bool, cond}
use Prim.Native.Nat.{◌<◌}
use native.Mathlib.Omega.{arith}
use lib.ListN.{get_or}
use Rattle.query_rows.specs.Rowed.{row_in}
use Rattle.query_rows.proofs.Rooms.{room_enough}
use Rattle.query_inside.specs.Enclosed.{encloses}
use Rattle.query_inside.proofs.KindLaws.{encloses_there}
use Rattle.query_inside.proofs.type_inside.Goals as goal

pub offset_bounds-inside-i : goal.offset_bounds-inside-i
offset_bounds-inside-i c =
    let tested : c.encloses.result ≡ encloses (row_in c.args.rows.now c.args.n c.args.i).kind = c.encloses.ensures ∙ ap encloses c.kind_of.ensures in
    let there : c.args.i < c.args.n = let a = c.args in
    encloses_there a.rows.now a.n a.i (sym tested ∙ c.if-encloses.true) in
    omega (arith, there, c.requires.0.few)

pub bounds-inside-i : goal.bounds-inside-i
bounds-inside-i c =
    let tested : c.encloses.result ≡ encloses (row_in c.args.rows.now c.args.n c.args.i).kind = c.encloses.ensures ∙ ap encloses c.kind_of.ensures in
    let there : c.args.i < c.args.n = let a = c.args in
    encloses_there a.rows.now a.n a.i (sym tested ∙ c.if-encloses.true) in
    let g = c.requires in
    omega (arith, there, g.1, room_enough _ g.0.few)

pub returns-then-encloses : goal.returns-then-encloses
returns-then-encloses c =
    let tested : c.encloses.result ≡ encloses (row_in c.args.rows.now c.args.n c.args.i).kind = c.encloses.ensures ∙ ap encloses c.kind_of.ensures in
    let a = c.args in
    ap (λ (b : Bool). cond b (get_or a.inside.now a.i 0) 0) (sym c.if-encloses.true ∙ tested)

pub returns : goal.returns
returns c =
    let tested : c.encloses.result ≡ encloses (row_in c.args.rows.now c.args.n c.args.i).kind = c.encloses.ensures ∙ ap encloses c.kind_of.ensures in
    let a = c.args in
    ap (λ (b : Bool). cond b (get_or a.inside.now a.i 0) 0) (sym c.if-encloses.false ∙ tested)
