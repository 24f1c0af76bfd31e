-- Number by number, then the names.
use mathlib.Core.Path.{◌≡◌, sym, ◌∙◌}
use mathlib.Core.Bool.{Bool, false, not, true≢false}
use Prim.Native.Nat.{ℕ, ◌<◌}
use native.Mathlib.Omega.{arith}
use lib.ListN.{get_or}
use lib.Dec.{eqb}
use borrow.Author.Tests.{eqb-true, not-false}
use Rattle.paper_table.proofs.TextLaws.{same_sound}
use Rattle.paper_query.specs.Constructs.{name_of}
use Rattle.query_rows.specs.Rowed.{doc_of, room_of}
use Rattle.query_rows.proofs.Rooms.{room_rows}
use Rattle.query_alike_pair.proofs.LikeLaws.{variable_room, alike}
use mathlib.Core.Path.{ap}
use Rattle.query_alike_pair.proofs.is_like.Goals as goal

equal : (b : Bool) (x y : ℕ) → not b ≡ false → b ≡ eqb x y → x ≡ y
equal b x y l e = eqb-true x y (sym e ∙ not-false b l)

pub same_number-requires : goal.same_number-requires
same_number-requires c =
    let rooms : (c.args.i < room_of c.args.n) × (c.args.j < room_of c.args.n) = (variable_room c.requires.0 c.args.i c.requires.1, variable_room c.requires.0 c.args.j c.requires.2) in
    let r = rooms in
    let e = room_rows c.args.rows.now c.args.n in
    (omega (arith, r.0, e, c.requires.0.owned.size), omega (arith, r.1, e, c.requires.0.owned.size))

pub returns-then-not-same_number : goal.returns-then-not-same_number
returns-then-not-same_number c = λ e. absurd (true≢false (sym e))

pub same_number-requires-2 : goal.same_number-requires-2
same_number-requires-2 c =
    let rooms : (c.args.i < room_of c.args.n) × (c.args.j < room_of c.args.n) = (variable_room c.requires.0 c.args.i c.requires.1, variable_room c.requires.0 c.args.j c.requires.2) in
    let r = rooms in
    (omega (arith, r.0, r.1, c.requires.0.placed.all.enclosed.ats), omega (arith, r.0, r.1, c.requires.0.placed.all.enclosed.ats))

pub returns-then-not-same_number-2 : goal.returns-then-not-same_number-2
returns-then-not-same_number-2 c = λ e. absurd (true≢false (sym e))

pub same_number-requires-3 : goal.same_number-requires-3
same_number-requires-3 c =
    let rooms : (c.args.i < room_of c.args.n) × (c.args.j < room_of c.args.n) = (variable_room c.requires.0 c.args.i c.requires.1, variable_room c.requires.0 c.args.j c.requires.2) in
    let r = rooms in
    (omega (arith, r.0, r.1, c.requires.0.placed.all.enclosed.inners), omega (arith, r.0, r.1, c.requires.0.placed.all.enclosed.inners))

pub returns-then-not-same_number-3 : goal.returns-then-not-same_number-3
returns-then-not-same_number-3 c = λ e. absurd (true≢false (sym e))

pub same_names-requires : goal.same_names-requires
same_names-requires c = c.requires.0.rowed

pub returns : goal.returns
returns c = let d = doc_of c.args.s.now c.args.rows.now c.args.n in
    λ e. alike c.args.t.now c.args.s.now c.args.rows.now c.args.n c.args.at.now c.args.es.now c.args.wrappers.now c.args.owner.now c.requires.0 c.args.i c.args.j c.requires.1 c.requires.2
    (equal c.same_number.result (get_or c.args.owner.now c.args.i 0) (get_or c.args.owner.now c.args.j 0) (ap not c.if-not-same_number.false) c.same_number.ensures)
    (equal c.same_number-2.result (get_or c.args.at.now c.args.i 0) (get_or c.args.at.now c.args.j 0) (ap not c.if-not-same_number-2.false) c.same_number-2.ensures)
    (equal c.same_number-3.result (get_or c.args.wrappers.now c.args.i 0) (get_or c.args.wrappers.now c.args.j 0) (ap not c.if-not-same_number-3.false) c.same_number-3.ensures)
    (same_sound (name_of d c.args.i) (name_of d c.args.j) (sym c.same_names.ensures ∙ e))
